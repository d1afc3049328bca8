-- A pattern's shape matches what the pattern does.
use Rattle.std.proofs.Common.{◌≡◌, ◌↔◌, ℕ, Bool, List, [], ◌∷◌, Some, sym, subst, inl, inr, slice_get}
use Rattle.std.specs.List.{AllByRecursion}
use Rattle.odd_patterns.specs.Pieces.{Repeated}
use Rattle.odd_patterns.specs.Words.{Matches}
use Rattle.odd_patterns.specs.declared.pattern.Pat.{Pat, Never, Empty, Leaf, Choice', Group', More', more_of-Pat, end_of-Pat}
use Rattle.odd_patterns.proofs.Pieces.{Same, same_then}
use Rattle.odd_pool.specs.Pattern.{Pattern, Fits, shape}
use Rattle.odd_pool.specs.Pool.{pattern_at}
use Rattle.odd_pool.proofs.Kept.{at_of}

module _ {S : Type 0} where
  all_to : (P Q : List S → Type 0) → ((w : List S) → P w → Q w) → (ws : List (List S)) → AllByRecursion P ws → AllByRecursion Q ws
  all_to P Q h [] a = a
  all_to P Q h (w ∷ ws) a = (h w a.0, all_to P Q h ws a.1)

  same_repeated : (P Q : List S → Type 0) → Same P Q → Same (Repeated P) (Repeated Q)
  same_repeated P Q h w = (
    λ m. (m.0, m.1, m.2, (h m.0).0 m.3, all_to P Q (λ v. (h v).0) m.1 m.4),
    λ m. (m.0, m.1, m.2, (h m.0).1 m.3, all_to Q P (λ v. (h v).1) m.1 m.4),
  )

module _ {A L S : Type 0} (takes : L → S → Bool) where
  pub shape_fits : (p : Pat A L S) → Same (Fits takes (shape p)) (Matches takes p)
  shape_fits Never w = (λ m. m, λ m. m)
  shape_fits Empty w = (λ m. m, λ m. m)
  shape_fits (Leaf l) w = (λ m. m, λ m. m)
  shape_fits (Choice' x (more_of-Pat p end_of-Pat) y (more_of-Pat q end_of-Pat)) w = (
    λ m. elim m [ inl a ↦ inl ((shape_fits p w).0 a) | inr b ↦ inr ((shape_fits q w).0 b) ],
    λ m. elim m [ inl a ↦ inl ((shape_fits p w).1 a) | inr b ↦ inr ((shape_fits q w).1 b) ],
  )
  shape_fits (Group' x (more_of-Pat p end_of-Pat) y (more_of-Pat q end_of-Pat)) w = same_then (Fits takes (shape p)) (Fits takes (shape q)) (Matches takes p) (Matches takes q) (shape_fits p) (shape_fits q) w
  shape_fits (More' x (more_of-Pat p end_of-Pat)) w = same_repeated (Fits takes (shape p)) (Matches takes p) (shape_fits p) w

  -- and so what is put does
  pub put_fits : (p : Pat A L S) (ps : List (Pattern L)) (at : ℕ) → slice_get ps at ≡ Some (shape p) → Same (Fits takes (pattern_at ps at)) (Matches takes p)
  put_fits p ps at e w = subst (λ x. Fits takes x w ↔ Matches takes p w) (sym (at_of ps at (shape p) e)) (shape_fits p w)
