-- Symbols that every leaf takes alike leave the same of every pattern.
use Rattle.std.proofs.Common.{◌≡◌, Bool, true, List, [], ◌∷◌, ◌++◌, refl, sym, ap, subst, ◌∙◌, inl, inr}
use Rattle.std.specs.List.{AllByRecursion}
use Rattle.odd_patterns.specs.Pieces.{joined, Then}
use Rattle.odd_pool.specs.Pattern.{Pattern, never, empty, leaf, choice, group, more, Fits}

module _ {L S : Type 0} (takes : L → S → Bool) (s t : S) (h : (l : L) → takes l s ≡ takes l t) where
  -- a first piece with the one symbol, also with the other
  in_pieces : (P : List S → Type 0) → ((v : List S) → P (s ∷ v) → P (t ∷ v)) → (v first : List S) (others : List (List S)) → s ∷ v ≡ first ++ joined others → P first → AllByRecursion P others
      → (a : List S) × (b : List (List S)) × (t ∷ v ≡ a ++ joined b) × P a × AllByRecursion P b
  in_pieces P k v [] [] e p r = cc
  in_pieces P k v [] (f ∷ fs) e p r =
      let m = in_pieces P k v f fs e r.0 r.1 in
      ([], m.0 ∷ m.1, m.2, p, (m.3, m.4))
  in_pieces P k v (x ∷ u) others e p r =
      let same : x ≡ s = cc in
      let rest : v ≡ u ++ joined others = cc in
      (t ∷ u, others, ap (λ w. t ∷ w) rest, k u (subst (λ y. P (y ∷ u)) same p), r)

  halves : (P Q : List S → Type 0) → ((v : List S) → P (s ∷ v) → P (t ∷ v)) → ((v : List S) → Q (s ∷ v) → Q (t ∷ v)) → (v u w : List S) → s ∷ v ≡ u ++ w → P u → Q w → Then P Q (t ∷ v)
  halves P Q h_ k v [] w e a b = ([], t ∷ v, refl, a, k v (subst Q (sym e) b))
  halves P Q h_ k v (x ∷ u) w e a b =
      let same : x ≡ s = cc in
      let rest : v ≡ u ++ w = cc in
      (t ∷ u, w, ap (λ z. t ∷ z) rest, h_ u (subst (λ y. P (y ∷ u)) same a), b)

  pub alike : (p : Pattern L) (v : List S) → Fits takes p (s ∷ v) → Fits takes p (t ∷ v)
  alike never v m = m
  alike empty v m = cc
  alike (leaf l) v m =
      let e = m.1 in
      let same : m.0 ≡ s = cc in
      let none : v ≡ [] = cc in
      (t, ap (λ w. t ∷ w) none, sym (h l) ∙ subst (λ z. takes l z ≡ true) same m.2)
  alike (choice p q) v m = elim m [ inl x ↦ inl (alike p v x) | inr y ↦ inr (alike q v y) ]
  alike (group p q) v m = halves (Fits takes p) (Fits takes q) (alike p) (alike q) v m.0 m.1 m.2 m.3 m.4
  alike (more p) v m = in_pieces (Fits takes p) (alike p) v m.0 m.1 m.2 m.3 m.4
