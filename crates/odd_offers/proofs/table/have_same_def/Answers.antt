use Rattle.std.proofs.Common.{ap, ◌∙◌}
use Rattle.odd_offers.specs.Same.{def_same, def_test}
use Rattle.odd_offers.proofs.Lists.{told}
use Rattle.odd_offers.proofs.table.have_same_def.Goals as goal

pub returns : goal.returns
returns c =
    told def_test c.same_def.result c.get-def.result.now c.get-other_def.result.now c.same_def.ensures
    ∙ ap (λ d. def_same d c.get-other_def.result.now) c.get-def.ensures
    ∙ ap (def_same c.args.one.now.def) c.get-other_def.ensures
