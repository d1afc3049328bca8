use Rattle.std.proofs.Common.{ap, ◌∙◌}
use Rattle.std.specs.List.{list_any}
use Rattle.odd_meaning.specs.Offering.{edits_of}
use Rattle.odd_offers.specs.Tables.{Table, clashes_with}
use Rattle.odd_offers.proofs.Clashing.{clash_told}
use Rattle.odd_offers.proofs.clash.clashes.Goals as goal

pub returns : goal.returns
returns c =
    let edits = edits_of c.args.part.now in
    clash_told edits c.args.inherited.now c.any_clashes.result c.entries.ensures.rising
    (c.any_clashes.ensures ∙ ap (λ (es : Table). list_any (λ entry. clashes_with edits entry) es) c.entries.ensures.all)
