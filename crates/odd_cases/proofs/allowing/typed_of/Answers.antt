use Rattle.std.proofs.Common.{subst}
use Rattle.rng_allows.proofs.MadeItems.{item_made}
use Rattle.rng_values.specs.Formed.{IsFormedItem}
use Rattle.rng_values.specs.Items.{IsItemOf}
use Rattle.odd_cases.proofs.allowing.typed_of.Goals as goal

pub returns-in-Ok-Typed : goal.returns-in-Ok-Typed
returns-in-Ok-Typed c =
    let name = c.args.name.now in
    let texts = c.args.facets.now in
    let is = c.in-Ok-Typed.field-0-is in
    item_made name texts c.in-Ok-Typed.kind c.in-Ok-Typed.facets (subst (IsItemOf name texts) is c.in-Ok-Typed.ensures.item) c.in-Ok-Typed.ensures.ok (subst IsFormedItem is c.in-Ok-Typed.ensures.formed)
