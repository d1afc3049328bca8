-- The order of names: by namespace, and then by local name. Only equal names tie.
use Rattle.std.specs.Prelude.{◌≡◌}
use Rattle.std.specs.Ordering.{ordering_then}
use Rattle.std.specs.FinMap.{slice_cmp-IsAntisymmetric, nat_cmp-IsAntisymmetric}
use Rattle.std.specs.declared.cmp.Ordering.{Ordering}
use Rattle.std.specs.declared.cmp.Ordering.TheVariants.{Equal}
use Rattle.odd_text.specs.KeyOrder.{both_equal}
use Rattle.odd_text.specs.Text.{text_cmp}
use Rattle.odd_text.specs.declared.name.Name.{Name}

abbrev pub name_cmp : Name → Name → Ordering
name_cmp a b = ordering_then (text_cmp a.ns b.ns) (text_cmp a.local b.local)

pub name_exact : (a b : Name) → name_cmp a b ≡ Equal → a ≡ b
name_exact a b e =
    let p = both_equal (text_cmp a.ns b.ns) (text_cmp a.local b.local) e in
    let n = slice_cmp-IsAntisymmetric nat_cmp-IsAntisymmetric a.ns b.ns p.0 in
    let l = slice_cmp-IsAntisymmetric nat_cmp-IsAntisymmetric a.local b.local p.1 in
    λ i. record { ns = n i; local = l i }
