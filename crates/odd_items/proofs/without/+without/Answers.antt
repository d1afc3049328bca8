use Rattle.std.proofs.Common.{◌≡◌, ℕ, ◌+◌, ap, drop, length, ◌∙◌, refl, subst, sym}
use Rattle.std.proofs.lemmas.List.{drop_all}
use Rattle.std.proofs.lemmas.Result.{IfOk-weaker}
use Rattle.std.specs.List.{Contains}
use Rattle.odd_tree.specs.declared.tree.Tree.{Tree, out-Tree}
use Rattle.odd_items.proofs.SoFar.{LeftSoFar, left_none, left_all, left_text, left_kept, left_gone, pushed, contained, not_contained}
use Rattle.odd_items.specs.Without.{AreWithout, IsWithout}
use Rattle.odd_items.specs.declared.left.Left.{Left}
use Rattle.odd_items.proofs.without.+without.Goals.{children_without-in-Text+in_ok-put_text-in-Text, children_without-in-Element+then-contains+in_ok-push-in-Element, children_without-in-Element+else-contains+in_ok-without-in-Element+in_ok-put_element-in-Element}
use Rattle.odd_items.proofs.without.+without.Goals as goal

pub children_without-loop-node-init : goal.children_without-loop-node-init
children_without-loop-node-init t c =
    left_none _ c.args.nodes.now c.as_slice-node-items.result.now c.new-left.result.nodes c.new-left.result.text (length c.args.gone.now.items) c.as_slice-node-items.ensures c.new-left.ensures

pub children_without-loop-node-preserved : goal.children_without-loop-node-preserved
children_without-loop-node-preserved t c =
    let Gone : Tree → Type 0 = λ t. Contains c.args.places.now.keys (out-Tree t).at in
    let all = c.args.nodes.now in
    let nodes = c.as_slice-node-items.result.now in
    let i = c.loop-node.node-index in
    let made = c.loop-node.left.nodes in
    let text = c.loop-node.left.text in
    let old = length c.args.gone.now.items in
    let now = length c.loop-node.gone.items in
    elim c.match-node.branch [
      | children_without-in-Text+in_ok-put_text-in-Text w ↦ subst (λ (l : Left). LeftSoFar Gone all (drop (i + 1) nodes) l.nodes l.text old (length c.match-node.gone.items)) (sym w.left-is)
          (subst (λ n. LeftSoFar Gone all (drop (i + 1) nodes) w.put_text.new.self.nodes w.put_text.new.self.text old n) (sym (ap (λ g. length g.items) w.gone-is))
          (left_text Gone all nodes i c.node-item.result made text old now c.loop-node-test.true c.node-item.is c.loop-node.invariant w.in-Text.text _ _ w.in-Text.is w.in_ok-put_text-in-Text.ensures))
      | children_without-in-Element+then-contains+in_ok-push-in-Element w ↦ subst (λ (l : Left). LeftSoFar Gone all (drop (i + 1) nodes) l.nodes l.text old (length c.match-node.gone.items)) (sym w.left-is)
          (left_gone Gone all nodes i c.node-item.result made text old now c.loop-node-test.true c.node-item.is c.loop-node.invariant w.in-Element.child (length c.match-node.gone.items) w.in-Element.is
          (contained c.args.places.now (out-Tree w.in-Element.child).at (sym w.contains.ensures ∙ w.if-contains.true))
          (ap (λ g. length g.items) w.gone-is ∙ pushed c.loop-node.gone.items w.push.new.self.items (out-Tree w.in-Element.child).at w.in_ok-push-in-Element.ensures.items))
      | children_without-in-Element+else-contains+in_ok-without-in-Element+in_ok-put_element-in-Element w ↦
          subst (λ (l : Left). LeftSoFar Gone all (drop (i + 1) nodes) l.nodes l.text old (length c.match-node.gone.items)) (sym w.left-is)
          (left_kept Gone all nodes i c.node-item.result made text old now c.loop-node-test.true c.node-item.is c.loop-node.invariant w.in-Element.child _ _ _ (length c.match-node.gone.items) w.in-Element.is
          (not_contained c.args.places.now (out-Tree w.in-Element.child).at (sym w.contains.ensures ∙ w.if-contains.false))
          (subst (λ n. (inside : ℕ) × IsWithout Gone w.in-Element.child w.in_ok-without-in-Element.field-0 inside × (n ≡ now + inside)) (sym (ap (λ g. length g.items) w.gone-is)) w.in_ok-without-in-Element.ensures)
          w.in_ok-put_element-in-Element.ensures)
    ]

pub children_without-returns : goal.children_without-returns
children_without-returns t c =
    let Gone : Tree → Type 0 = λ t. Contains c.args.places.now.keys (out-Tree t).at in
    let all = left_all Gone c.args.nodes.now _ c.loop-node.left.nodes c.loop-node.left.text (length c.args.gone.now.items) (length c.loop-node.gone.items) c.loop-node.invariant
    (drop_all c.loop-node.node-index c.as_slice-node-items.result.now c.loop-node-test.false) in
    IfOk-weaker c.into_nodes.result _ _ (λ nodes same. (all.0, subst (λ ls. AreWithout Gone c.args.nodes.now ls all.0) (sym same) all.1, all.2)) c.into_nodes.ensures

pub without-returns : goal.without-returns
without-returns t c =
    let inside = c.in_ok-children_without.ensures in (inside.0, IsWithout.element c.in_ok-copy.ensures c.in_ok-attrs_of.ensures c.in_ok-copy-2.ensures refl inside.1, inside.2)
