use Rattle.std.proofs.Common.{subst}
use Rattle.odd_text.specs.Standing.{StandsIn}
use Rattle.odd_modes.specs.Choosing.{IsChosen}
use Rattle.odd_modes.specs.Index.{AreReferencesOf}
use Rattle.odd_modes.proofs.HeldEntries.{set_same}
use Rattle.odd_modes.proofs.selecting.select.Goals as goal

pub returns-clause-keys : goal.returns-clause-keys
returns-clause-keys c =
    let are = subst (λ es. AreReferencesOf es c.in_ok-references.references) c.as_slice.ensures c.in_ok-references.ensures in
    set_same (StandsIn c.in_ok-keys.keys) (IsChosen c.args.library.now c.args.doc.now) c.in_ok-sorted.field-0 (c.in_ok-keys.ensures.chosen c.args.doc.now are) c.in_ok-sorted.ensures
