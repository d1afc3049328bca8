use Rattle.std.proofs.Common.{subst, sym}
use Rattle.rng_allows.proofs.Rows.{choice_formed}
use Rattle.rng_allows.specs.Formed.{IsFormedValue}
use Rattle.odd_cases.proofs.allowing.either.Goals as goal

pub returns-clause-made : goal.returns-clause-made
returns-clause-made c =
    choice_formed c.in_ok-new.field-0 c.in_ok-new-2.field-0 (subst IsFormedValue (sym c.in_ok-new.ensures) c.in_ok-left.ensures.made) (subst IsFormedValue (sym c.in_ok-new-2.ensures) c.in_ok-right.ensures.made)
