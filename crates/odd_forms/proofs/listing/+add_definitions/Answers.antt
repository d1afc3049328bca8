use Rattle.std.proofs.Common.{◌∷◌, [], ap, refl, subst, sym, ◌∙◌}
use Rattle.std.proofs.lemmas.List.{append-nil, drop_all, map-append}
use Rattle.odd_tree.specs.Elements.{children_of, elements_of}
use Rattle.odd_forms.specs.Listing as listing
use Rattle.odd_forms.proofs.Children.{element_first}
use Rattle.odd_forms.proofs.Listed.{ListedSoFar, listed_all, listed_more, listed_none, pointed, text_first}
use Rattle.odd_forms.proofs.listing.+add_definitions.Goals.{then-is_one_of+in_ok-push, else-is_one_of+then-is_one_of-2+in_ok-add_definitions, else-is_one_of+else-is_one_of-2}
use Rattle.odd_forms.proofs.listing.+add_definitions.Goals as goal

pub loop-node-init : goal.loop-node-init
loop-node-init t c = listed_none _ _ _ (ap elements_of c.as_slice-node-items.ensures)

pub loop-node-preserved-in_default : goal.loop-node-preserved-in_default
loop-node-preserved-in_default t c =
    subst (λ rest. ListedSoFar (children_of c.args.list.now) rest (pointed c.args.defs.now.items) (pointed c.loop-node.defs.items))
    (text_first c.as_slice-node-items.result.now c.loop-node.node-index c.node-item.result _ c.loop-node-test.true c.node-item.is c.in_default.is) c.loop-node.invariant

pub loop-node-preserved : goal.loop-node-preserved
loop-node-preserved t c =
    let child = c.in-Element.child in
    let first = element_first c.as_slice-node-items.result.now c.loop-node.node-index c.node-item.result child c.loop-node-test.true c.node-item.is c.in-Element.is in
    let new = pointed c.loop-node.defs.items in
    let tells = sym c.is_one_of.ensures in
    elim c.if-is_one_of.branch [
      | then-is_one_of+in_ok-push w ↦ listed_more _ _ _ child _ new _ (child ∷ []) c.loop-node.invariant first (λ later among. listing.definition (tells ∙ w.if-is_one_of.true) among)
          (ap (λ v. pointed v.items) w.defs-is ∙ ap pointed w.in_ok-push.ensures.items ∙ map-append (λ t. t.now) c.loop-node.defs.items _)
      | else-is_one_of+then-is_one_of-2+in_ok-add_definitions w ↦
          let added = w.in_ok-add_definitions.ensures in
          listed_more _ _ _ child _ new _ added.0 c.loop-node.invariant first
          (λ later among. listing.nested (tells ∙ w.if-is_one_of.false) (sym w.is_one_of-else-is_one_of.ensures ∙ w.if-is_one_of-2.true) added.1 among refl)
          (ap (λ v. pointed v.items) w.defs-is ∙ added.2)
      | else-is_one_of+else-is_one_of-2 w ↦ listed_more _ _ _ child _ new _ [] c.loop-node.invariant first
          (λ later among. listing.other (tells ∙ w.if-is_one_of.false) (sym w.is_one_of-else-is_one_of.ensures ∙ w.if-is_one_of-2.false) among)
          (ap (λ v. pointed v.items) w.defs-is ∙ sym (append-nil new))
    ]

pub returns : goal.returns
returns t c = listed_all c.args.list.now _ _ _ (ap elements_of (drop_all c.loop-node.node-index c.as_slice-node-items.result.now c.loop-node-test.false)) c.loop-node.invariant
