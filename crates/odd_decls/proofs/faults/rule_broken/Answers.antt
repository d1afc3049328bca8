use Rattle.std.proofs.Common.{map, ap, ◌∙◌}
use Rattle.odd_tree.specs.Elements.{all_binds}
use Rattle.odd_decls.proofs.ItemsFirst.{broken_least}
use Rattle.odd_decls.proofs.faults.rule_broken.Goals as goal

pub returns : goal.returns
returns c found is =
    let around = ap (λ s. all_binds (map (λ b. b.now) s)) c.as_slice.ensures.value ∙ c.in_ok-around.ensures found.around is.level in
    broken_least c.args.levels.now c.args.item.now found _ c.args.again _ _ _ is around c.in_ok-itself.ensures c.fault_where.ensures c.lesser.ensures
