-- The order of conditions, which is total, and in which only equal conditions tie.
use Rattle.std.specs.Prelude.{◌≡◌}
use Rattle.std.specs.Cmp.{IsTotalOrder}
use Rattle.std.specs.Cmp.Lexicographic.{slice_cmp}
use Rattle.std.proofs.lemmas.Cmp.{on_total, then_total, lists_total, nat_list_cmp_total}
use Rattle.std.specs.Ordering.{ordering_then}
use Rattle.std.specs.FinMap.{slice_cmp-IsAntisymmetric, nat_cmp-IsAntisymmetric}
use Rattle.std.specs.declared.cmp.Ordering.{Ordering}
use Rattle.std.specs.declared.cmp.Ordering.TheVariants.{Equal}
use Rattle.odd_text.specs.KeyOrder.{both_equal}
use Rattle.odd_text.specs.NameOrder.{name_cmp, name_exact}
use Rattle.odd_text.specs.Text.{text_cmp}
use Rattle.odd_text.specs.declared.name.Name.{Name}
use Rattle.odd_content.specs.declared.content.Condition.{Condition}

-- by the namespaces that are required, then by those that are excepted, and then by the names that are, item by item
abbrev pub condition_cmp : Condition → Condition → Ordering
condition_cmp a b = ordering_then (slice_cmp text_cmp a.require b.require) (ordering_then (slice_cmp text_cmp a.spaces b.spaces) (slice_cmp name_cmp a.names b.names))

pub name_total : IsTotalOrder name_cmp
name_total = then_total (on_total (λ (n : Name). n.ns) nat_list_cmp_total) (on_total (λ (n : Name). n.local) nat_list_cmp_total)

pub condition_total : IsTotalOrder condition_cmp
condition_total =
    then_total (on_total (λ (c : Condition). c.require) (lists_total nat_list_cmp_total))
    (then_total (on_total (λ (c : Condition). c.spaces) (lists_total nat_list_cmp_total)) (on_total (λ (c : Condition). c.names) (lists_total name_total)))

pub condition_exact : (a b : Condition) → condition_cmp a b ≡ Equal → a ≡ b
condition_exact a b e =
    let texts = slice_cmp-IsAntisymmetric (slice_cmp-IsAntisymmetric nat_cmp-IsAntisymmetric) in
    let later = ordering_then (slice_cmp text_cmp a.spaces b.spaces) (slice_cmp name_cmp a.names b.names) in
    let p = both_equal (slice_cmp text_cmp a.require b.require) later e in
    let q = both_equal (slice_cmp text_cmp a.spaces b.spaces) (slice_cmp name_cmp a.names b.names) p.1 in
    let r = texts a.require b.require p.0 in
    let s = texts a.spaces b.spaces q.0 in
    let n = slice_cmp-IsAntisymmetric name_exact a.names b.names q.1 in
    λ i. record { require = r i; spaces = s i; names = n i }
