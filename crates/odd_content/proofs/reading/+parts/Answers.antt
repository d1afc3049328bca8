use Rattle.std.proofs.Common.{◌++◌, ap, sym, ◌∙◌, map}
use Rattle.std.proofs.lemmas.List.{append-nil, drop_all}
use Rattle.odd_tree.specs.Elements.{all_binds}
use Rattle.odd_content.specs.Giving.{parts_in}
use Rattle.odd_content.proofs.Parts.{part_passed}
use Rattle.odd_content.proofs.reading.+parts.Goals as goal

pub parts_in_force-loop-node-preserved : goal.parts_in_force-loop-node-preserved
parts_in_force-loop-node-preserved t c =
    let inside = all_binds (map (λ b. b.now) c.args.inside.now) in
    part_passed inside c.as_slice-node-items.result.now c.loop-node.node-index c.node-item.result c.loop-node.parts _ c.loop-node-test.true c.node-item.is c.loop-node.invariant
    c.in-Element.child c.in-Some.part c.in_ok-read_part.field-0 _ c.in-Element.is (sym c.part_of.ensures ∙ c.in-Some.is) c.in_ok-read_part.ensures c.in_ok-push.ensures.ok

pub parts_in_force-returns : goal.parts_in_force-returns
parts_in_force-returns t c =
    let inside = all_binds (map (λ b. b.now) c.args.inside.now) in
    let items = c.as_slice-node-items.result.now in
    sym (append-nil c.loop-node.parts) ∙ ap (λ xs. c.loop-node.parts ++ parts_in inside xs) (sym (drop_all c.loop-node.node-index items c.loop-node-test.false)) ∙ c.loop-node.invariant
    ∙ ap (parts_in inside) c.as_slice-node-items.ensures
