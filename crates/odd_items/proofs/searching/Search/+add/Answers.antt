use Rattle.std.proofs.Common.{◌≡◌, ◌&&◌, List, false, ap, ap₂, subst, ◌∙◌, refl, sym}
use Rattle.std.proofs.lemmas.List.{drop_all}
use Rattle.odd_tree.specs.Elements.{children_of, elements_of}
use Rattle.odd_forms.proofs.Children.{element_first}
use Rattle.odd_forms.proofs.Listed.{text_first}
use Rattle.odd_items.proofs.Added.{AddsSoFar, adds_all, adds_element, adds_passed, adds_none, adds_outer, adds_through, texts}
use Rattle.odd_items.specs.Adding.{KeepsIt, LeadsInside}
use Rattle.odd_items.specs.declared.searching.Kept.{Kept}
use Rattle.odd_items.specs.declared.searching.Level.{Level}
use Rattle.odd_items.proofs.searching.Search.+add.Goals.{else-outermost-via-then-outermost+else-named, else-outermost-via-else-outermost}
use Rattle.odd_items.proofs.searching.Search.+add.Goals as goal

pub returns-then-not-is_searched : goal.returns-then-not-is_searched
returns-then-not-is_searched t c = adds_passed (texts c.args.names.now) c.args.outermost c.args.tree.now c.args.level c.args.parent _ _ (sym c.is_searched.ensures ∙ c.if-not-is_searched.true)

pub returns-then-named : goal.returns-then-named
returns-then-named t c =
    let kept : Kept = record { tree = c.args.tree; level = c.args.level; inside = c.in_ok-inside.inside; parent = c.args.parent } in
    let old = c.args.self.now.found.items in
    let new = c.keep.new.self.found.items in
    let leads = subst (λ ls. LeadsInside c.args.tree.now c.args.level c.args.self.now.levels.items ls c.in_ok-inside.inside) (sym {A = List Level} c.in_ok-holder.ensures.levels) c.in_ok-inside.ensures.inside in
    let keeps = subst (λ ks. KeepsIt kept c.is_one_of-named.result ks new c.in_ok-holder.holder) c.in_ok-inside.ensures.found c.in_ok-holder.ensures.kept in
    adds_outer (texts c.args.names.now) c.args.outermost c.args.tree.now kept _ _ old new refl (sym c.is_searched.ensures ∙ c.if-not-is_searched.false) c.if-outermost.true (sym c.is_one_of-named.ensures ∙ c.if-named.true) leads (rw c.if-named.true at keeps.0)

pub loop-node-init : goal.loop-node-init
loop-node-init t c = adds_none (texts c.args.names.now) c.args.outermost _ _ _ _ _ _ (ap elements_of c.as_slice-node-items.ensures)

pub loop-node-preserved-in_default : goal.loop-node-preserved-in_default
loop-node-preserved-in_default t c =
    subst (λ rest. AddsSoFar (texts c.args.names.now) c.args.outermost (children_of c.args.tree.now) rest c.in_ok-inside.inside c.in_ok-holder.holder c.keep.new.self.levels.items c.loop-node.self.levels.items
    c.keep.new.self.found.items c.loop-node.self.found.items)
    (text_first c.as_slice-node-items.result.now c.loop-node.node-index c.node-item.result _ c.loop-node-test.true c.node-item.is c.in_default.is) c.loop-node.invariant

pub loop-node-preserved : goal.loop-node-preserved
loop-node-preserved t c =
    let first = element_first c.as_slice-node-items.result.now c.loop-node.node-index c.node-item.result c.in-Element.child c.loop-node-test.true c.node-item.is c.in-Element.is in
    adds_element (texts c.args.names.now) c.args.outermost _ _ _ c.in-Element.child _ _ _ _ _ _ _ _ c.loop-node.invariant first c.in_ok-add.ensures

pub returns : goal.returns
returns t c =
    let names = texts c.args.names.now in
    let kept : Kept = record { tree = c.args.tree; level = c.args.level; inside = c.in_ok-inside.inside; parent = c.args.parent } in
    let old = c.args.self.now.found.items in
    let mid = c.keep.new.self.found.items in
    let named = c.is_one_of-named.result in
    let leads = subst (λ ls. LeadsInside c.args.tree.now c.args.level c.args.self.now.levels.items ls c.in_ok-inside.inside) (sym {A = List Level} c.in_ok-holder.ensures.levels) c.in_ok-inside.ensures.inside in
    let keeps = subst (λ ks. KeepsIt kept named ks mid c.in_ok-holder.holder) c.in_ok-inside.ensures.found c.in_ok-holder.ensures.kept in
    let on : (c.args.outermost && named) ≡ false =
    elim c.else-outermost.branch [
      | else-outermost-via-then-outermost+else-named w ↦ ap₂ (λ a b. a && b) w.if-outermost.true w.if-named.false
      | else-outermost-via-else-outermost w ↦ ap (λ a. a && named) w.if-outermost.false
    ] in
    let done = ap elements_of (drop_all c.loop-node.node-index c.as_slice-node-items.result.now c.loop-node-test.false) in
    adds_through names c.args.outermost c.args.tree.now kept named c.in_ok-holder.holder _ _ _ old mid c.loop-node.self.found.items refl (sym c.is_searched.ensures ∙ c.if-not-is_searched.false) c.is_one_of-named.ensures on leads keeps
    (adds_all names c.args.outermost _ _ _ _ _ _ _ _ done c.loop-node.invariant)
