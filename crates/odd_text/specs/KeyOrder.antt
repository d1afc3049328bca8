-- The order of keys is total, and only equal keys tie.
use Rattle.std.specs.Prelude.{◌≡◌, ◌↔◌, IsTrue, refl}
use Rattle.std.proofs.Common.{ap, sym, ◌∙◌}
use Rattle.std.specs.Cmp.{Equal-is, IsTotalOrder, tied_itself}
use Rattle.std.proofs.lemmas.Cmp.{on_total, then_total, nat_cmp_total, nat_list_cmp_total}
use Rattle.std.specs.Ordering.{nat_cmp, ordering_then, is_eq}
use Rattle.std.specs.FinMap.{slice_cmp-IsAntisymmetric, nat_cmp-IsAntisymmetric}
use Rattle.std.specs.declared.cmp.Ordering.{Ordering}
use Rattle.std.specs.declared.cmp.Ordering.TheVariants.{Less, Equal, Greater}
use Rattle.odd_text.specs.declared.key.Kind.{Kind}
use Rattle.odd_text.specs.declared.key.Kind.TheVariants.{Element, Class, Macro, Datatype}
use Rattle.odd_text.specs.declared.key.Key.{Key}
use Rattle.odd_text.specs.Text.{text_cmp}
use Rattle.odd_text.specs.Key.{key_cmp, kind_rank}

pub key_total : IsTotalOrder key_cmp
key_total = then_total (on_total (λ (k : Key). kind_rank k.kind) nat_cmp_total) (on_total (λ (k : Key). k.ident) nat_list_cmp_total)

same_kind : (a b : Kind) → kind_rank a ≡ kind_rank b → a ≡ b
same_kind Element Element e = refl
same_kind Element Class e = cc
same_kind Element Macro e = cc
same_kind Element Datatype e = cc
same_kind Class Element e = cc
same_kind Class Class e = refl
same_kind Class Macro e = cc
same_kind Class Datatype e = cc
same_kind Macro Element e = cc
same_kind Macro Class e = cc
same_kind Macro Macro e = refl
same_kind Macro Datatype e = cc
same_kind Datatype Element e = cc
same_kind Datatype Class e = cc
same_kind Datatype Macro e = cc
same_kind Datatype Datatype e = refl

pub both_equal : (r s : Ordering) → ordering_then r s ≡ Equal → (r ≡ Equal) × (s ≡ Equal)
both_equal Less s e = cc
both_equal Equal s e = (refl, e)
both_equal Greater s e = cc

pub key_exact : (a b : Key) → key_cmp a b ≡ Equal → a ≡ b
key_exact a b e =
    let p = both_equal (nat_cmp (kind_rank a.kind) (kind_rank b.kind)) (text_cmp a.ident b.ident) e in
    let k = same_kind a.kind b.kind (nat_cmp-IsAntisymmetric (kind_rank a.kind) (kind_rank b.kind) p.0) in
    let i = slice_cmp-IsAntisymmetric nat_cmp-IsAntisymmetric a.ident b.ident p.1 in
    λ j. record { kind = k j; ident = i j }

-- two keys tie where they are one key, and nowhere else
pub tied_is_same : (a b : Key) (r : Ordering) → r ≡ key_cmp a b → IsTrue (is_eq r) ↔ (a ≡ b)
tied_is_same a b r e = (λ h. key_exact a b (sym e ∙ (Equal-is r).0 h), λ s. ap is_eq (e ∙ ap (key_cmp a) (sym s) ∙ tied_itself key_total a))
