-- What is left of a pattern, by what is left of its parts.
use Rattle.std.proofs.Common.{◌≡◌, ◌⊎◌, ℕ, Bool, true, false, List, [], ◌++◌, refl, sym, ap, subst, ◌∙◌, inl, inr}
use Rattle.odd_patterns.specs.Pieces.{Then, Repeated}
use Rattle.odd_patterns.proofs.Pieces.{Same, same_then, same_trans, then_again}
use Rattle.odd_patterns.proofs.Derivatives.{group_passes, group_stops, more_goes}
use Rattle.odd_pool.specs.Pattern.{Pattern, never, empty, leaf, choice, group, more, Fits}
use Rattle.odd_pool.specs.Pool.{pattern_at, Grows}
use Rattle.odd_pool.proofs.Kept.{grows_twice}
use Rattle.odd_pool.specs.Left.{After, SomeFits, Gains, Begun, HasOneMore, Stands}

module _ {S : Type 0} where
  same_self : (P : List S → Type 0) → Same P P
  same_self P w = (λ m. m, λ m. m)

  turned : (P Q : List S → Type 0) → Same P Q → Same Q P
  turned P Q h w = ((h w).1, (h w).0)

  gains_same : (N O X Y : List S → Type 0) → Same X Y → Gains N O Y → Gains N O X
  gains_same N O X Y h g v = (
    λ m. elim ((g v).0 m) [ inl a ↦ inl a | inr b ↦ inr ((h v).1 b) ],
    λ m. (g v).1 (elim m [ inl a ↦ inl a | inr b ↦ inr ((h v).0 b) ]),
  )

  gains_none : (O X : List S → Type 0) → ((v : List S) → X v → ⊥) → Gains O O X
  gains_none O X h v = (λ m. inl m, λ m. elim m [ inl a ↦ a | inr b ↦ absurd (h v b) ])

  gains_twice : (N M O X Y : List S → Type 0) → Gains M O X → Gains N M Y → Gains N O (λ v. X v ⊎ Y v)
  gains_twice N M O X Y g h v = (
    λ m. elim ((h v).0 m) [ inl a ↦ elim ((g v).0 a) [ inl b ↦ inl b | inr b ↦ inr (inl b) ] | inr b ↦ inr (inr b) ],
    λ m. (h v).1 (elim m [ inl a ↦ inl ((g v).1 (inl a)) | inr b ↦ elim b [ inl x ↦ inl ((g v).1 (inr x)) | inr y ↦ inr y ] ]),
  )

  either_then : (P Q C : List S → Type 0) → Same (Then (λ v. P v ⊎ Q v) C) (λ v. Then P C v ⊎ Then Q C v)
  either_then P Q C v = (
    λ m. elim m.3 [ inl x ↦ inl (m.0, m.1, m.2, x, m.4) | inr y ↦ inr (m.0, m.1, m.2, y, m.4) ],
    λ m. elim m [ inl x ↦ (x.0, x.1, x.2, inl x.3, x.4) | inr y ↦ (y.0, y.1, y.2, inr y.3, y.4) ],
  )

  -- behind a group of two
  stop : (P Q C G : List S → Type 0) (s : S) → (P [] → ⊥) → Same G (Then Q C) → Same (Then (After (Then P Q) s) C) (Then (After P s) G)
  stop P Q C G s n h =
      let D = After P s in
      let left = group_stops P Q D (Then D Q) s (same_self D) n (same_self (Then D Q)) in
      same_trans (Then (After (Then P Q) s) C) (Then (Then D Q) C) (Then D G)
      (same_then (After (Then P Q) s) C (Then D Q) C (turned (Then D Q) (After (Then P Q) s) left) (same_self C))
      (same_trans (Then (Then D Q) C) (Then D (Then Q C)) (Then D G) (then_again D Q C) (same_then D (Then Q C) D G (same_self D) (turned G (Then Q C) h)))

  pass : (P Q C G : List S → Type 0) (s : S) → P [] → Same G (Then Q C) → Same (Then (After (Then P Q) s) C) (λ v. Then (After P s) G v ⊎ Then (After Q s) C v)
  pass P Q C G s n h =
      let D = After P s in
      let E = After Q s in
      let M : List S → Type 0 = λ v. Then D Q v ⊎ E v in
      let left = group_passes P Q D E (Then D Q) M s (same_self D) (same_self E) n (same_self (Then D Q)) (same_self M) in
      let first = same_trans (Then (Then D Q) C) (Then D (Then Q C)) (Then D G) (then_again D Q C) (same_then D (Then Q C) D G (same_self D) (turned G (Then Q C) h)) in
      same_trans (Then (After (Then P Q) s) C) (Then M C) (λ v. Then D G v ⊎ Then E C v)
      (same_then (After (Then P Q) s) C M C (turned M (After (Then P Q) s) left) (same_self C))
      (λ v. (
        λ m. elim ((either_then (Then D Q) E C v).0 m) [ inl x ↦ inl ((first v).0 x) | inr y ↦ inr y ],
        λ m. (either_then (Then D Q) E C v).1 (elim m [ inl x ↦ inl ((first v).1 x) | inr y ↦ inr y ]),
      ))

  again : (P C G : List S → Type 0) (s : S) → Same G (Then (λ w. (w ≡ []) ⊎ Repeated P w) C) → Same (Then (After (Repeated P) s) C) (Then (After P s) G)
  again P C G s h =
      let D = After P s in
      let R : List S → Type 0 = λ w. (w ≡ []) ⊎ Repeated P w in
      let left = more_goes P D (Repeated P) R (Then D R) s (same_self D) (same_self (Repeated P)) (same_self R) (same_self (Then D R)) in
      same_trans (Then (After (Repeated P) s) C) (Then (Then D R) C) (Then D G)
      (same_then (After (Repeated P) s) C (Then D R) C (turned (Then D R) (After (Repeated P) s) left) (same_self C))
      (same_trans (Then (Then D R) C) (Then D (Then R C)) (Then D G) (then_again D R C) (same_then D (Then R C) D G (same_self D) (turned G (Then R C) h)))

module _ {L S : Type 0} (takes : L → S → Bool) where
  -- a position is added
  pub some_added : (ps : List (Pattern L)) (old new : List ℕ) (i : ℕ) → HasOneMore old new i → Gains (SomeFits takes ps new) (SomeFits takes ps old) (Fits takes (pattern_at ps i))
  some_added ps old new i h v = (
    λ m. elim ((h m.0).0 m.1) [ inl x ↦ inl (m.0, x, m.2) | inr e ↦ inr (subst (λ z. Fits takes (pattern_at ps z) v) e m.2) ],
    λ m. elim m [ inl x ↦ (x.0, (h x.0).1 (inl x.1), x.2) | inr y ↦ (i, (h i).1 (inr refl), y) ],
  )

  module _ (s : S) (now : List (Pattern L)) (at rest : ℕ) where
    Rest : List (Pattern L) → List S → Type 0
    Rest ps = Fits takes (pattern_at ps rest)

    -- by how the pattern is made
    read : (P : List (Pattern L) → Pattern L) → ((ps : List (Pattern L)) → Grows now ps → pattern_at ps at ≡ P ps) → (old new : List ℕ)
        → ((ps : List (Pattern L)) → Grows now ps → Gains (SomeFits takes ps new) (SomeFits takes ps old) (Then (After (Fits takes (P ps)) s) (Fits takes (pattern_at ps rest))))
        → Begun takes s now at rest old new
    read P is old new h ps g = subst (λ p. Gains (SomeFits takes ps new) (SomeFits takes ps old) (Then (After (Fits takes p) s) (Fits takes (pattern_at ps rest)))) (sym (is ps g)) (h ps g)

    pub begin_never : (old : List ℕ) → ((ps : List (Pattern L)) → Grows now ps → pattern_at ps at ≡ never) → Begun takes s now at rest old old
    begin_never old is = read (λ ps. never) is old old (λ ps g. gains_none (SomeFits takes ps old) (Then (After (Fits takes never) s) (Fits takes (pattern_at ps rest))) (λ v m. m.3))

    pub begin_empty : (old : List ℕ) → ((ps : List (Pattern L)) → Grows now ps → pattern_at ps at ≡ empty) → Begun takes s now at rest old old
    begin_empty old is = read (λ ps. empty) is old old (λ ps g. gains_none (SomeFits takes ps old) (Then (After (Fits takes empty) s) (Fits takes (pattern_at ps rest))) (λ v m. let e = m.3 in cc))

    pub begin_other : (l : L) (old : List ℕ) → ((ps : List (Pattern L)) → Grows now ps → pattern_at ps at ≡ leaf l) → takes l s ≡ false → Begun takes s now at rest old old
    begin_other l old is fails = read (λ ps. leaf l) is old old (λ ps g. gains_none (SomeFits takes ps old) (Then (After (Fits takes (leaf l)) s) (Fits takes (pattern_at ps rest)))
        (λ v m. let e = m.3.1 in let same : m.3.0 ≡ s = cc in let other : takes l s ≡ true = subst (λ z. takes l z ≡ true) same m.3.2 in cc))

    pub begin_leaf : (l : L) (old new : List ℕ) → ((ps : List (Pattern L)) → Grows now ps → pattern_at ps at ≡ leaf l) → takes l s ≡ true → HasOneMore old new rest → Begun takes s now at rest old new
    begin_leaf l old new is holds added = read (λ ps. leaf l) is old new (λ ps g.
        let C = Fits takes (pattern_at ps rest) in
        gains_same (SomeFits takes ps new) (SomeFits takes ps old) (Then (After (Fits takes (leaf l)) s) C) C
        (λ v. (
          λ m. let e = m.3.1 in let none : m.0 ≡ [] = cc in subst C (sym (m.2 ∙ ap (λ u. u ++ m.1) none)) m.4,
          λ m. ([], v, refl, (s, refl, holds), m),
        ))
        (some_added ps old new rest added))

    pub begin_choice : (p q : ℕ) (mid : List (Pattern L)) (old one new : List ℕ) → ((ps : List (Pattern L)) → Grows now ps → pattern_at ps at ≡ choice (pattern_at ps p) (pattern_at ps q))
        → Grows mid now → Begun takes s mid p rest old one → Begun takes s now q rest one new → Begun takes s now at rest old new
    begin_choice p q mid old one new is more_ a b = read (λ ps. choice (pattern_at ps p) (pattern_at ps q)) is old new (λ ps g.
        let C = Fits takes (pattern_at ps rest) in
        let P = Fits takes (pattern_at ps p) in
        let Q = Fits takes (pattern_at ps q) in
        gains_same (SomeFits takes ps new) (SomeFits takes ps old) (Then (After (λ v. P v ⊎ Q v) s) C) (λ v. Then (After P s) C v ⊎ Then (After Q s) C v)
        (either_then (After P s) (After Q s) C)
        (gains_twice (SomeFits takes ps new) (SomeFits takes ps one) (SomeFits takes ps old) (Then (After P s) C) (Then (After Q s) C) (a ps (grows_twice mid now ps more_ g)) (b ps g)))

    -- of a group whose first part has no empty word
    pub begin_stop : (p q then_ : ℕ) (old new : List ℕ) → ((ps : List (Pattern L)) → Grows now ps → pattern_at ps at ≡ group (pattern_at ps p) (pattern_at ps q))
        → Stands takes now then_ (λ ps. group (pattern_at ps q) (pattern_at ps rest)) → ((ps : List (Pattern L)) → Grows now ps → Fits takes (pattern_at ps p) [] → ⊥)
        → Begun takes s now p then_ old new → Begun takes s now at rest old new
    begin_stop p q then_ old new is stands none a = read (λ ps. group (pattern_at ps p) (pattern_at ps q)) is old new (λ ps g.
        let C = Fits takes (pattern_at ps rest) in
        let P = Fits takes (pattern_at ps p) in
        let Q = Fits takes (pattern_at ps q) in
        let G = Fits takes (pattern_at ps then_) in
        gains_same (SomeFits takes ps new) (SomeFits takes ps old) (Then (After (Then P Q) s) C) (Then (After P s) G) (stop P Q C G s (none ps g) (stands ps g)) (a ps g))

    pub begin_pass : (p q then_ : ℕ) (mid : List (Pattern L)) (old one new : List ℕ) → ((ps : List (Pattern L)) → Grows now ps → pattern_at ps at ≡ group (pattern_at ps p) (pattern_at ps q))
        → Stands takes now then_ (λ ps. group (pattern_at ps q) (pattern_at ps rest)) → ((ps : List (Pattern L)) → Grows now ps → Fits takes (pattern_at ps p) [])
        → Grows mid now → Begun takes s mid p then_ old one → Begun takes s now q rest one new → Begun takes s now at rest old new
    begin_pass p q then_ mid old one new is stands has more_ a b = read (λ ps. group (pattern_at ps p) (pattern_at ps q)) is old new (λ ps g.
        let C = Fits takes (pattern_at ps rest) in
        let P = Fits takes (pattern_at ps p) in
        let Q = Fits takes (pattern_at ps q) in
        let G = Fits takes (pattern_at ps then_) in
        gains_same (SomeFits takes ps new) (SomeFits takes ps old) (Then (After (Then P Q) s) C) (λ v. Then (After P s) G v ⊎ Then (After Q s) C v) (pass P Q C G s (has ps g) (stands ps g))
        (gains_twice (SomeFits takes ps new) (SomeFits takes ps one) (SomeFits takes ps old) (Then (After P s) G) (Then (After Q s) C) (a ps (grows_twice mid now ps more_ g)) (b ps g)))

    pub begin_more : (p then_ : ℕ) (old new : List ℕ) → ((ps : List (Pattern L)) → Grows now ps → pattern_at ps at ≡ more (pattern_at ps p))
        → Stands takes now then_ (λ ps. group (choice empty (pattern_at ps at)) (pattern_at ps rest))
        → Begun takes s now p then_ old new → Begun takes s now at rest old new
    begin_more p then_ old new is stands a = read (λ ps. more (pattern_at ps p)) is old new (λ ps g.
        let C = Fits takes (pattern_at ps rest) in
        let P = Fits takes (pattern_at ps p) in
        let G = Fits takes (pattern_at ps then_) in
        let known = subst (λ x. Same G (Fits takes (group (choice empty x) (pattern_at ps rest)))) (is ps g) (stands ps g) in
        gains_same (SomeFits takes ps new) (SomeFits takes ps old) (Then (After (Repeated P) s) C) (Then (After P s) G) (again P C G s known) (a ps g))
