use Rattle.std.proofs.Common.{subst, ◌∙◌}
use Rattle.std.proofs.lemmas.List.{take_all}
use Rattle.odd_items.specs.Groups.{IsItemIn}
use Rattle.odd_decls.proofs.FirstFault.{BreaksAt, none_breaks}
use Rattle.odd_decls.proofs.ItemsFirst.{Breaks, all_told, items_first, items_more}
use Rattle.odd_decls.specs.Faults.{IsFirstIn}
use Rattle.odd_decls.proofs.faults.items_fault.Goals as goal

pub loop-place-init : goal.loop-place-init
loop-place-init c t schemas are = none_breaks (Breaks t schemas c.args.of.now.levels.items c.args.of.now.items.items c.in_ok-repeat.repeat)

pub loop-place-preserved : goal.loop-place-preserved
loop-place-preserved c t schemas are =
    let levels = c.args.of.now.levels.items in
    let items = c.args.of.now.items.items in
    items_more t schemas levels items c.in_ok-repeat.repeat are c.deref-item-items.result.now c.loop-place.place c.item-item.result _ _ _ _ _ c.deref-item-items.ensures.value
    c.loop-place-test.true c.item-item.is c.eq-again.ensures (λ found is. c.in_ok-rule.ensures found (rw c.as_slice-in-loop-place.ensures.value is)) c.fault_of.ensures c.lesser-first.ensures
    (c.loop-place.invariant t schemas are)

pub returns : goal.returns
returns c t first end formed are =
    let levels = c.args.of.now.levels.items in
    let items = c.args.of.now.items.items in
    let repeat = c.in_ok-repeat.repeat in
    let told = all_told levels items (IsItemIn t are.schemas) are.items in
    items_first t are.schemas levels items repeat are.items are.rises c.loop-place.first (rw c.as_slice.ensures.value at (c.in_ok-repeat.ensures (rw c.as_slice.ensures.value told)))
    (subst (λ xs. IsFirstIn (BreaksAt (Breaks t are.schemas levels items repeat) xs) c.loop-place.first)
    (take_all c.loop-place.place c.deref-item-items.result.now c.loop-place-test.false ∙ c.deref-item-items.ensures.value) (c.loop-place.invariant t are.schemas are.items))
