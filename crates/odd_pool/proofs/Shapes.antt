-- How a pattern's shape is put, and its empty word.
use Rattle.std.proofs.Common.{◌≡◌, ◌↔◌, ◌⊎◌, ℕ, Bool, true, false, IsTrue, List, [], Some, refl, sym, ap, ◌∙◌, inl, inr, slice_get, ◌||◌, ◌&&◌}
use Rattle.odd_patterns.specs.declared.pattern.Pat.{Pat}
use Rattle.odd_patterns.specs.declared.pattern.Pat.TheVariants as pat
use Rattle.odd_patterns.specs.declared.pattern.Pat.TheBlock.{hidden-the_row-Pat-0}
use denote.Hole.Carrier.{hidden}
use Rattle.odd_patterns.proofs.Pieces.{both_empty, one_empty}
use Rattle.odd_pool.specs.Pattern.{Pattern, never, empty, leaf, choice, group, more, shape, Fits, has_empty}
use Rattle.odd_pool.specs.Pool.{pattern_at, Grows}
use Rattle.odd_pool.proofs.Kept.{at_of, get_grown}

module _ {A L S : Type 0} where
  shape_choice : (w p q : Pat A L S) → w ≡ pat.Choice p q → shape w ≡ choice (shape p) (shape q)
  unfolding hidden-the_row-Pat-0 hidden
  shape_choice w p q e = ap (λ x. shape x) e

  shape_group : (w p q : Pat A L S) → w ≡ pat.Group p q → shape w ≡ group (shape p) (shape q)
  unfolding hidden-the_row-Pat-0 hidden
  shape_group w p q e = ap (λ x. shape x) e

  shape_more : (w p : Pat A L S) → w ≡ pat.More p → shape w ≡ more (shape p)
  unfolding hidden-the_row-Pat-0 hidden
  shape_more w p e = ap (λ x. shape x) e

  pub put_choice : (w p q x y : Pat A L S) (first then_ : List (Pattern L)) (i j : ℕ) → w ≡ pat.Choice p q → x ≡ p → y ≡ q → slice_get first i ≡ Some (shape x) → Grows first then_
      → slice_get then_ j ≡ Some (shape y) → choice (pattern_at then_ i) (pattern_at then_ j) ≡ shape w
  put_choice w p q x y first then_ i j is a b e g f =
      let left = at_of then_ i (shape x) (get_grown first then_ i (shape x) g e) ∙ ap (λ z. shape z) a in
      let right = at_of then_ j (shape y) f ∙ ap (λ z. shape z) b in
      (λ t. choice (left t) (right t)) ∙ sym (shape_choice w p q is)

  pub put_group : (w p q x y : Pat A L S) (first then_ : List (Pattern L)) (i j : ℕ) → w ≡ pat.Group p q → x ≡ p → y ≡ q → slice_get first i ≡ Some (shape x) → Grows first then_
      → slice_get then_ j ≡ Some (shape y) → group (pattern_at then_ i) (pattern_at then_ j) ≡ shape w
  put_group w p q x y first then_ i j is a b e g f =
      let left = at_of then_ i (shape x) (get_grown first then_ i (shape x) g e) ∙ ap (λ z. shape z) a in
      let right = at_of then_ j (shape y) f ∙ ap (λ z. shape z) b in
      (λ t. group (left t) (right t)) ∙ sym (shape_group w p q is)

  pub put_more : (w p x : Pat A L S) (first : List (Pattern L)) (i : ℕ) → w ≡ pat.More p → x ≡ p → slice_get first i ≡ Some (shape x) → more (pattern_at first i) ≡ shape w
  put_more w p x first i is a e = ap more (at_of first i (shape x) e ∙ ap (λ z. shape z) a) ∙ sym (shape_more w p is)

module _ {L S : Type 0} (takes : L → S → Bool) where
  or_fits : (a b : Bool) (P Q : Type 0) → IsTrue a ↔ P → IsTrue b ↔ Q → IsTrue (a || b) ↔ (P ⊎ Q)
  or_fits true b P Q h k = (λ t. inl (h.0 t), λ m. refl)
  or_fits false b P Q h k = (λ t. inr (k.0 t), λ m. elim m [ inl x ↦ let z = h.1 x in cc | inr y ↦ k.1 y ])

  and_fits : (a b : Bool) (P Q : Type 0) → IsTrue a ↔ P → IsTrue b ↔ Q → IsTrue (a && b) ↔ (P × Q)
  and_fits true b P Q h k = (λ t. (h.0 refl, k.0 t), λ m. k.1 m.1)
  and_fits false b P Q h k = (λ t. cc, λ m. let z = h.1 m.0 in cc)

  pub has_empty_fits : (p : Pattern L) → IsTrue (has_empty p) ↔ Fits takes p []
  has_empty_fits never = (λ t. cc, λ m. absurd m)
  has_empty_fits empty = (λ t. refl, λ m. refl)
  has_empty_fits (leaf l) = (λ t. cc, λ m. let e = m.1 in cc)
  has_empty_fits (choice p q) = or_fits (has_empty p) (has_empty q) (Fits takes p []) (Fits takes q []) (has_empty_fits p) (has_empty_fits q)
  has_empty_fits (group p q) =
      let both = both_empty (Fits takes p) (Fits takes q) in
      let h = and_fits (has_empty p) (has_empty q) (Fits takes p []) (Fits takes q []) (has_empty_fits p) (has_empty_fits q) in
      (λ t. both.1 (h.0 t), λ m. h.1 (both.0 m))
  has_empty_fits (more p) =
      let one = one_empty (Fits takes p) in
      let h = has_empty_fits p in
      (λ t. one.1 (h.0 t), λ m. h.1 (one.0 m))
