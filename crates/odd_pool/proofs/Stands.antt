-- Positions whose patterns match what is wanted, whatever comes later.
use Rattle.std.proofs.Common.{◌≡◌, ◌↔◌, ◌<◌, ℕ, Bool, List, [], ◌∷◌, ◌++◌, length, Some, sym, ap, subst, ◌∙◌, inl, inr, slice_get}
use Rattle.std.specs.List.{Contains}
use Rattle.std.specs.List.Sorted.{IsPermutation}
use Rattle.std.proofs.lemmas.List.Elements.{Contains-append_left, Contains-append_right, Contains-append_cases}
use Rattle.std.proofs.lemmas.List.Sorted.{Contains-permutation, IsPermutation-sym}
use Rattle.odd_patterns.specs.Pieces.{Then}
use Rattle.odd_patterns.proofs.Pieces.{empty_then, then_empty}
use Rattle.odd_pool.specs.Pattern.{Pattern, never, empty, choice, group, Fits, Leaves}
use Rattle.odd_pool.specs.Pool.{PartsBelow, Grows, pattern_at, kind_pattern}
use Rattle.odd_pool.specs.declared.node.Kind.{Kind}
use Rattle.odd_pool.specs.Left.{After, Begun, SomeFits, Stands, StandsForSome}
use Rattle.odd_pool.proofs.Kept.{at_of, get_grown, grows_twice, grows_none, kind_grown}
use Rattle.odd_pool.proofs.Members.{contains_at, none_there, only_one}

module _ {L : Type 0} where
  pub made_reads : (old new : List (Pattern L)) (k : Kind L) (made : ℕ) → Grows old new → PartsBelow k (length old) → slice_get new made ≡ Some (kind_pattern old k)
      → (ps : List (Pattern L)) → Grows new ps → pattern_at ps made ≡ kind_pattern ps k
  made_reads old new k made g b e ps h =
      at_of ps made (kind_pattern old k) (get_grown new ps made (kind_pattern old k) h e) ∙ sym (kind_grown old ps (grows_twice old new ps g h) k b)

  module _ {S : Type 0} (takes : L → S → Bool) (now : List (Pattern L)) where
    pub stands_made : (P : List (Pattern L) → Pattern L) (made : ℕ) → ((ps : List (Pattern L)) → Grows now ps → pattern_at ps made ≡ P ps) → Stands takes now made P
    stands_made P made is ps g w = (subst (λ p. Fits takes p w) (is ps g), subst (λ p. Fits takes p w) (sym (is ps g)))

    pub join_first : (first rest : ℕ) → ((ps : List (Pattern L)) → Grows now ps → pattern_at ps first ≡ empty) → Stands takes now rest (λ ps. group (pattern_at ps first) (pattern_at ps rest))
    join_first first rest is ps g w =
        let C = Fits takes (pattern_at ps rest) in
        subst (λ p. C w ↔ Then (Fits takes p) C w) (sym (is ps g)) (empty_then C w)

    pub join_rest : (first rest : ℕ) → ((ps : List (Pattern L)) → Grows now ps → pattern_at ps rest ≡ empty) → Stands takes now first (λ ps. group (pattern_at ps first) (pattern_at ps rest))
    join_rest first rest is ps g w =
        let C = Fits takes (pattern_at ps first) in
        subst (λ p. C w ↔ Then C (Fits takes p) w) (sym (is ps g)) (then_empty C w)

    pub again_stands : (nothing any repeated rest made : ℕ) (one two : List (Pattern L)) → Grows one two → Grows two now → ((ps : List (Pattern L)) → Grows one ps → pattern_at ps nothing ≡ empty)
        → ((ps : List (Pattern L)) → Grows two ps → pattern_at ps any ≡ choice (pattern_at ps nothing) (pattern_at ps repeated)) → Stands takes now made (λ ps. group (pattern_at ps any) (pattern_at ps rest))
        → Stands takes now made (λ ps. group (choice empty (pattern_at ps repeated)) (pattern_at ps rest))
    again_stands nothing any repeated rest made one two a b n c s ps g =
        let h = grows_twice two now ps b g in
        let k = grows_twice one two ps a h in
        let is = c ps h ∙ ap (λ p. choice p (pattern_at ps repeated)) (n ps k) in
        subst (λ p. (w : List S) → Fits takes (pattern_at ps made) w ↔ Fits takes (group p (pattern_at ps rest)) w) is (s ps g)

    -- of no positions
    pub some_none : (made : ℕ) (is : List ℕ) → is ≡ [] → ((ps : List (Pattern L)) → Grows now ps → pattern_at ps made ≡ never) → StandsForSome takes now made is
    some_none made is none never_ ps g w = (λ m. absurd (subst (λ p. Fits takes p w) (never_ ps g) m), λ m. absurd (none_there m.0 (subst (λ xs. Contains xs m.0) none m.1)))

    -- of one
    pub some_one : (is : List ℕ) (i : ℕ) → length is < 2 → slice_get is 0 ≡ Some i → StandsForSome takes now i is
    some_one is i few there ps g w = (λ m. (i, contains_at is 0 i there, m), λ m. subst (λ j. Fits takes (pattern_at ps j) w) (only_one is i m.0 few there m.1) m.2)

    -- of two lists of them
    pub some_halves : (one two : List (Pattern L)) (first rest made : ℕ) (is front back : List ℕ) → is ≡ front ++ back → Grows one two → Grows two now → StandsForSome takes one first front → StandsForSome takes two rest back
        → ((ps : List (Pattern L)) → Grows now ps → pattern_at ps made ≡ choice (pattern_at ps first) (pattern_at ps rest)) → StandsForSome takes now made is
    some_halves one two first rest made is front back whole g h a b reads ps k w =
        let later = grows_twice two now ps h k in
        let left = a ps (grows_twice one two ps g later) w in
        let right = b ps later w in
        subst (λ xs. Fits takes (pattern_at ps made) w ↔ SomeFits takes ps xs w) (sym whole)
        (subst (λ p. Fits takes p w ↔ SomeFits takes ps (front ++ back) w) (sym (reads ps k)) (
          λ m. elim m [
            | inl x ↦ let y = left.0 x in (y.0, Contains-append_left front back y.0 y.1, y.2)
            | inr x ↦ let y = right.0 x in (y.0, Contains-append_right front back y.0 y.1, y.2)
          ],
          λ m. elim (Contains-append_cases front back m.0 m.1) [ inl x ↦ inl (left.1 (m.0, x, m.2)) | inr x ↦ inr (right.1 (m.0, x, m.2)) ],
        ))

    -- of the same in another order
    pub some_ordered : (made : ℕ) (is js : List ℕ) → IsPermutation is js → StandsForSome takes now made js → StandsForSome takes now made is
    some_ordered made is js p h ps g w = (
      λ m. let x = (h ps g w).0 m in (x.0, Contains-permutation js is x.0 (IsPermutation-sym is js p) x.1, x.2),
      λ m. (h ps g w).1 (m.0, Contains-permutation is js m.0 p m.1, m.2),
    )

  pub derived : {S : Type 0} (takes : L → S → Bool) (s : S) (old one mid new : List (Pattern L)) (at nothing left : ℕ) (members : List ℕ) → ((ps : List (Pattern L)) → Grows one ps → pattern_at ps nothing ≡ empty)
      → Grows one mid → Grows mid new → pattern_at new at ≡ pattern_at old at → Begun takes s mid at nothing [] members → StandsForSome takes new left members
      → Leaves takes (pattern_at old at) s (pattern_at new left)
  derived {S} takes s old one mid new at nothing left members none a b same begun stands v =
      let P = Fits takes (pattern_at new at) in
      let some = stands new (grows_none new) v in
      let gain = begun new b v in
      let is = none new (grows_twice one mid new a b) in
      let end = then_empty (After P s) v in
      let rest : Then (After P s) (Fits takes (pattern_at new nothing)) v ↔ Then (After P s) (λ w. w ≡ []) v =
      subst (λ p. Then (After P s) (Fits takes p) v ↔ Then (After P s) (λ w. w ≡ []) v) (sym is) (λ m. m, λ m. m) in
      subst (λ p. Fits takes (pattern_at new left) v ↔ Fits takes p (s ∷ v)) same (
        λ m. elim (gain.0 (some.0 m)) [ inl x ↦ absurd (none_there x.0 x.1) | inr y ↦ end.1 (rest.0 y) ],
        λ m. some.1 (gain.1 (inr (rest.1 (end.0 m)))),
      )
