-- What is left of a pattern after a symbol, and whether the empty word is matched.
use Rattle.std.proofs.Common.{◌≡◌, ◌↔◌, ◌⊎◌, List, [], ◌∷◌, ◌++◌, refl, sym, ap, subst, inl, inr, Bool, true, false, IsTrue}
use Rattle.std.specs.List.{AllByRecursion}
use denote.Hole.Carrier.{hidden}
use Rattle.odd_patterns.proofs.Pieces.{Same, IsEmpty, same_then, both_empty, one_empty}
use Rattle.odd_patterns.specs.Pieces.{joined, Then, Repeated}
use Rattle.odd_patterns.specs.Words.{IsLeft, Matches, SameWords}
use Rattle.odd_patterns.specs.declared.pattern.Pat.{Pat}
use Rattle.odd_patterns.specs.declared.pattern.Pat.TheBlock.{hidden-the_row-Pat-0}
use Rattle.odd_patterns.specs.declared.pattern.Pat.TheVariants.{Empty, Choice, Group, More}

module _ {S : Type 0} where
  -- D holds of the words that P holds of after s
  abbrev pub Left : (List S → Type 0) → S → (List S → Type 0) → Type 0
  Left P s D = (v : List S) → D v ↔ P (s ∷ v)

  -- no word, or one in pieces
  abbrev pub AnyNumber : (List S → Type 0) → List S → Type 0
  AnyNumber P w = IsEmpty w ⊎ Repeated P w

  pub same_left : (P D M : List S → Type 0) (s : S) → Left P s D → Same M D → Left P s M
  same_left P D M s h k v = (λ m. (h v).0 ((k v).0 m), λ m. (k v).1 ((h v).1 m))

  -- a first piece that has begun
  in_first : (P Q D : List S → Type 0) (s : S) → Left P s D → (v : List S) → Then D Q v → Then P Q (s ∷ v)
  in_first P Q D s h v m = (s ∷ m.0, m.1, ap (λ w. s ∷ w) m.2, (h m.0).0 m.3, m.4)

  -- the symbol stands in the first piece, or that is empty
  in_either : (P Q D : List S → Type 0) (s : S) → Left P s D → (v u w : List S) → s ∷ v ≡ u ++ w → P u → Q w → Then D Q v ⊎ (P [] × Q (s ∷ v))
  in_either P Q D s h v [] w e a b = inr (a, subst Q (sym e) b)
  in_either P Q D s h v (x ∷ u) w e a b =
      let same : x ≡ s = cc in
      let rest : v ≡ u ++ w = cc in
      inl (u, w, rest, (h u).1 (subst (λ y. P (y ∷ u)) same a), b)

  left_stop : (P Q D : List S → Type 0) (s : S) → Left P s D → (P [] → ⊥) → Left (Then P Q) s (Then D Q)
  left_stop P Q D s h n v = (
    in_first P Q D s h v,
    λ m. elim (in_either P Q D s h v m.0 m.1 m.2 m.3 m.4) [ inl x ↦ x | inr y ↦ absurd (n y.0) ],
  )

  left_pass : (P Q D E : List S → Type 0) (s : S) → Left P s D → Left Q s E → P [] → Left (Then P Q) s (λ v. Then D Q v ⊎ E v)
  left_pass P Q D E s h k n v = (
    λ m. elim m [ inl x ↦ in_first P Q D s h v x | inr y ↦ ([], s ∷ v, refl, n, (k v).0 y) ],
    λ m. elim (in_either P Q D s h v m.0 m.1 m.2 m.3 m.4) [ inl x ↦ inl x | inr y ↦ inr ((k v).1 y.1) ],
  )

  -- the pieces that follow one
  tail_of : (P : List S → Type 0) (others : List (List S)) → AllByRecursion P others → AnyNumber P (joined others)
  tail_of P [] r = inl refl
  tail_of P (f ∷ fs) r = inr (f, fs, refl, r.0, r.1)

  -- the symbol stands in the first piece that is not empty
  begun : (P : List S → Type 0) (s : S) (v first : List S) (others : List (List S)) → s ∷ v ≡ first ++ joined others → P first → AllByRecursion P others
      → (u : List S) × (w : List S) × (v ≡ u ++ w) × P (s ∷ u) × AnyNumber P w
  begun P s v [] [] e a r = cc
  begun P s v [] (f ∷ fs) e a r = begun P s v f fs e r.0 r.1
  begun P s v (x ∷ u) others e a r =
      let same : x ≡ s = cc in
      let rest : v ≡ u ++ joined others = cc in
      (u, joined others, rest, subst (λ y. P (y ∷ u)) same a, tail_of P others r)

  -- a piece before others
  more_in : (P : List S → Type 0) (u w : List S) → P u → AnyNumber P w → Repeated P (u ++ w)
  more_in P u w a b = elim b [
    | inl e ↦ (u, [], ap (λ y. u ++ y) e, a, tt)
    | inr m ↦ (u, m.0 ∷ m.1, ap (λ y. u ++ y) m.2, a, (m.3, m.4))
  ]

  left_more : (P D : List S → Type 0) (s : S) → Left P s D → Left (Repeated P) s (Then D (AnyNumber P))
  left_more P D s h v = (
    λ m. subst (λ y. Repeated P (s ∷ y)) (sym m.2) (more_in P (s ∷ m.0) m.1 ((h m.0).0 m.3) m.4),
    λ m. let b = begun P s v m.0 m.1 m.2 m.3 m.4 in (b.0, b.1, b.2, (h b.0).1 b.3, b.4),
  )

  -- the same, as the code makes what is left

  -- of a group whose first part matches no empty word
  pub group_stops : (P Q D B : List S → Type 0) (s : S) → Left P s D → (P [] → ⊥) → Same B (Then D Q) → Left (Then P Q) s B
  group_stops P Q D B s h n one = same_left (Then P Q) (Then D Q) B s (left_stop P Q D s h n) one

  -- of one whose first part does
  pub group_passes : (P Q D E B M : List S → Type 0) (s : S) → Left P s D → Left Q s E → P [] → Same B (Then D Q) → Same M (λ v. B v ⊎ E v) → Left (Then P Q) s M
  group_passes P Q D E B M s h k n one last = same_left (Then P Q) (λ v. Then D Q v ⊎ E v) M s (left_pass P Q D E s h k n) (λ v. (
    λ m. elim ((last v).0 m) [ inl x ↦ inl ((one v).0 x) | inr y ↦ inr y ],
    λ m. (last v).1 (elim m [ inl x ↦ inl ((one v).1 x) | inr y ↦ inr y ]),
  ))

  -- of a repetition
  pub more_goes : (P D A R M : List S → Type 0) (s : S) → Left P s D → Same A (Repeated P) → Same R (λ v. IsEmpty v ⊎ A v) → Same M (Then D R) → Left (Repeated P) s M
  more_goes P D A R M s h one two three = same_left (Repeated P) (Then D (AnyNumber P)) M s (left_more P D s h) (λ v.
      let k = same_then D R D (AnyNumber P) (λ w. (λ m. m, λ m. m)) (λ w. (
        λ m. elim ((two w).0 m) [ inl x ↦ inl x | inr y ↦ inr ((one w).0 y) ],
        λ m. (two w).1 (elim m [ inl x ↦ inl x | inr y ↦ inr ((one w).1 y) ]),
      )) v in
      (λ m. k.0 ((three v).0 m), λ m. (three v).1 (k.1 m)))

module _ {A L S : Type 0} (takes : L → S → Bool) (s : S) where
  -- of a choice
  pub choice_left : (w p q d e made : Pat A L S) → w ≡ Choice p q → IsLeft takes p s d → IsLeft takes q s e → SameWords made (Choice d e) → IsLeft takes w s made
  unfolding hidden-the_row-Pat-0 hidden
  choice_left w p q d e made is h k one = subst (λ y. IsLeft takes y s made) (sym is) (λ v. (
    λ m. elim ((one takes v).0 m) [ inl x ↦ inl ((h v).0 x) | inr y ↦ inr ((k v).0 y) ],
    λ m. (one takes v).1 (elim m [ inl x ↦ inl ((h v).1 x) | inr y ↦ inr ((k v).1 y) ]),
  ))

  -- of a group whose first part matches no empty word
  pub group_left : (w p q d rest made : Pat A L S) → w ≡ Group p q → IsLeft takes p s d → rest ≡ q → (Matches takes p [] → ⊥) → SameWords made (Group d rest) → IsLeft takes w s made
  unfolding hidden-the_row-Pat-0 hidden
  group_left w p q d rest made is h same n one =
      let two = subst (λ y. SameWords made (Group d y)) same one in
      subst (λ y. IsLeft takes y s made) (sym is) (group_stops (Matches takes p) (Matches takes q) (Matches takes d) (Matches takes made) s h n (two takes))

  -- of one whose first part does
  pub group_left_by_both : (w p q d rest b e made : Pat A L S) → w ≡ Group p q → IsLeft takes p s d → rest ≡ q → Matches takes p [] → SameWords b (Group d rest)
      → IsLeft takes q s e → SameWords made (Choice b e) → IsLeft takes w s made
  unfolding hidden-the_row-Pat-0 hidden
  group_left_by_both w p q d rest b e made is h same n one k last =
      let two = subst (λ y. SameWords b (Group d y)) same one in
      subst (λ y. IsLeft takes y s made) (sym is)
      (group_passes (Matches takes p) (Matches takes q) (Matches takes d) (Matches takes e) (Matches takes b) (Matches takes made) s h k n (two takes) (last takes))

  -- of a repetition
  pub more_left : (w p d part again rest made : Pat A L S) → w ≡ More p → IsLeft takes p s d → part ≡ p → SameWords again (More part) → SameWords rest (Choice Empty again)
      → SameWords made (Group d rest) → IsLeft takes w s made
  unfolding hidden-the_row-Pat-0 hidden
  more_left w p d part again rest made is h same one two three =
      let repeated = subst (λ y. SameWords again (More y)) same one in
      subst (λ y. IsLeft takes y s made) (sym is)
      (more_goes (Matches takes p) (Matches takes d) (Matches takes again) (Matches takes rest) (Matches takes made) s h (repeated takes) (two takes) (three takes))

module _ {A L S : Type 0} (takes : L → S → Bool) where
  -- the test tells whether the empty word is matched
  abbrev pub Tells : Bool → Pat A L S → Type 0
  Tells b w = IsTrue b ↔ Matches takes w []

  -- a choice whose left side matches it
  pub choice_then : (w p q left : Pat A L S) (first : Bool) → w ≡ Choice p q → left ≡ p → first ≡ true → Tells first left → Tells first w
  unfolding hidden-the_row-Pat-0 hidden
  choice_then w p q left first is l holds b =
      let known = subst (Tells first) l b in
      subst (Tells first) (sym is) (λ t. inl (known.0 t), λ m. holds)

  -- one whose left side doesn't
  pub choice_else : (w p q left right : Pat A L S) (first second : Bool) → w ≡ Choice p q → left ≡ p → right ≡ q → first ≡ false → Tells first left → Tells second right → Tells second w
  unfolding hidden-the_row-Pat-0 hidden
  choice_else w p q left right first second is l r fails a b =
      let known = subst (Tells first) l a in
      let last = subst (Tells second) r b in
      subst (Tells second) (sym is) (λ t. inr (last.0 t), λ m. elim m [ inl x ↦ let holds = known.1 x in cc | inr y ↦ last.1 y ])

  -- a group whose first part matches it
  pub group_then : (w p q left right : Pat A L S) (first second : Bool) → w ≡ Group p q → left ≡ p → right ≡ q → first ≡ true → Tells first left → Tells second right → Tells second w
  unfolding hidden-the_row-Pat-0 hidden
  group_then w p q left right first second is l r holds a b =
      let both = both_empty (Matches takes p) (Matches takes q) in
      let known = subst (Tells first) l a in
      let last = subst (Tells second) r b in
      subst (Tells second) (sym is) (λ t. both.1 (known.0 holds, last.0 t), λ m. last.1 (both.0 m).1)

  -- one whose first part doesn't
  pub group_else : (w p q left : Pat A L S) (first : Bool) → w ≡ Group p q → left ≡ p → first ≡ false → Tells first left → Tells first w
  unfolding hidden-the_row-Pat-0 hidden
  group_else w p q left first is l fails b =
      let both = both_empty (Matches takes p) (Matches takes q) in
      let known = subst (Tells first) l b in
      subst (Tells first) (sym is) (λ t. cc, λ m. known.1 (both.0 m).0)

  -- a repetition
  pub more_part : (w p part : Pat A L S) (b : Bool) → w ≡ More p → part ≡ p → Tells b part → Tells b w
  unfolding hidden-the_row-Pat-0 hidden
  more_part w p part b is l known =
      let one = one_empty (Matches takes p) in
      let h = subst (Tells b) l known in
      subst (Tells b) (sym is) (λ t. one.1 (h.0 t), λ m. h.1 (one.0 m))
