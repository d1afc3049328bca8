use Rattle.std.proofs.Common.{IfOk, subst}
use Rattle.odd_patterns.specs.Words.{IsGroupOf}
use Rattle.odd_patterns.proofs.making.group_of.Goals as goal

pub returns : goal.returns
returns g c = subst (λ parts. IfOk c.group_of_items.result (λ made. IsGroupOf parts made)) c.into_items.ensures c.group_of_items.ensures
