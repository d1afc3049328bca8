use Rattle.std.proofs.Common.{◌≡◌, ◌+◌, ◌<◌, ◌≤◌, cond, Some, length, take, sym, ap, ◌∙◌, arith}
use Rattle.std.specs.BTreeMap.{get, is_at}
use Rattle.std.proofs.lemmas.List.{take_all}
use Rattle.odd_text.specs.Text.{text_cmp}
use Rattle.odd_tree.specs.Names.{last_bound}
use Rattle.odd_tree.proofs.LastBound.{last_bound_more}
use Rattle.odd_tree.proofs.bindings.Bindings.new.Goals as goal

pub loop-bind-preserved : goal.loop-bind-preserved
loop-bind-preserved c = λ prefix.
    let bs = c.as_slice-bind-items.result.now in
    let i = c.loop-bind.bind-index in
    let b = c.bind-item.result in
    let lt : i < length bs = omega arith in
    let more : last_bound (take (i + 1) bs) prefix ≡ cond (is_at (text_cmp b.prefix) prefix) (Some b.ns) (last_bound (take i bs) prefix) =
    last_bound_more bs i b prefix lt c.bind-item.is in
    let e : get text_cmp c.insert-in-loop-bind.new.self prefix ≡ cond (is_at (text_cmp c.in_ok-copy.field-0) prefix) (Some c.in_ok-copy-2.field-0) (get text_cmp c.loop-bind.index prefix) =
    c.in_ok-insert.ensures.updates.0 prefix in
    let p : c.in_ok-copy.field-0 ≡ b.prefix = c.in_ok-copy.ensures in
    let n : c.in_ok-copy-2.field-0 ≡ b.ns = c.in_ok-copy-2.ensures in
    e ∙ ap (λ x. cond (is_at (text_cmp x) prefix) (Some c.in_ok-copy-2.field-0) (get text_cmp c.loop-bind.index prefix)) p
    ∙ ap (λ x. cond (is_at (text_cmp b.prefix) prefix) (Some x) (get text_cmp c.loop-bind.index prefix)) n
    ∙ ap (cond (is_at (text_cmp b.prefix) prefix) (Some b.ns)) (c.loop-bind.invariant prefix) ∙ sym more

pub invariant_of-result : goal.invariant_of-result
invariant_of-result c = λ prefix.
    let bs = c.as_slice-bind-items.result.now in
    let over : length bs ≤ c.loop-bind.bind-index = omega arith in
    c.loop-bind.invariant prefix ∙ ap (λ l. last_bound l prefix) (take_all c.loop-bind.bind-index bs over ∙ c.as_slice-bind-items.ensures)
