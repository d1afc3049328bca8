-- Words in pieces: what simpler patterns match, and choices and groups of a list by halves.
use Rattle.std.proofs.Common.{◌≡◌, ◌↔◌, List, [], ◌∷◌, ◌++◌, refl, sym, ap, subst, ◌∙◌, append_assoc, inl, inr, ◌⊎◌, Bool, ℕ, ◌-◌, ◌<◌, take, drop, arith}
use Rattle.std.proofs.lemmas.List.{append-nil, take-append-drop}
use Rattle.std.specs.List.{AllByRecursion}
use denote.Hole.Carrier.{hidden}
use Rattle.odd_patterns.specs.Pieces.{joined, Then, Repeated}
use Rattle.odd_patterns.specs.Words.{Matches, SameWords, EachMatches, IsChoiceOf, IsGroupOf, SomeMatches}
use Rattle.odd_patterns.specs.declared.pattern.Pat.{Pat}
use Rattle.odd_patterns.specs.declared.pattern.Pat.TheBlock.{hidden-the_row-Pat-0}
use Rattle.odd_patterns.specs.declared.pattern.Pat.TheVariants.{Never, Empty, Choice, Group, More}

module _ {S : Type 0} where
  -- two sets of words are one
  abbrev pub Same : (List S → Type 0) → (List S → Type 0) → Type 0
  Same P Q = (w : List S) → P w ↔ Q w

  abbrev pub IsEmpty : List S → Type 0
  IsEmpty w = w ≡ []

  abbrev pub NoWord : List S → Type 0
  NoWord w = ⊥

  -- a piece of no length before or behind changes nothing
  pub empty_then : (Q : List S → Type 0) → Same Q (Then IsEmpty Q)
  empty_then Q w = (
    λ q. ([], w, refl, refl, q),
    λ m. subst Q (sym (m.2 ∙ ap (λ u. u ++ m.1) m.3)) m.4,
  )

  pub then_empty : (P : List S → Type 0) → Same P (Then P IsEmpty)
  then_empty P w = (
    λ p. (w, [], sym (append-nil w), p, refl),
    λ m. subst P (sym (m.2 ∙ ap (λ v. m.0 ++ v) m.4 ∙ append-nil m.0)) m.3,
  )

  -- nothing follows or comes before a piece that no word is
  pub none_then : (Q : List S → Type 0) → Same NoWord (Then NoWord Q)
  none_then Q w = (λ n. absurd n, λ m. m.3)

  pub then_none : (P : List S → Type 0) → Same NoWord (Then P NoWord)
  then_none P w = (λ n. absurd n, λ m. m.4)

  -- a word that is empty is empty in both pieces
  parts_empty : (u v : List S) → [] ≡ u ++ v → (u ≡ []) × (v ≡ [])
  parts_empty [] v e = (refl, sym e)
  parts_empty (x ∷ u) v e = cc

  pub both_empty : (P Q : List S → Type 0) → Then P Q [] ↔ (P [] × Q [])
  both_empty P Q = (
    λ m. let e = parts_empty m.0 m.1 m.2 in (subst P e.0 m.3, subst Q e.1 m.4),
    λ h. ([], [], refl, h.0, h.1),
  )

  pub one_empty : (P : List S → Type 0) → Repeated P [] ↔ P []
  one_empty P = (
    λ m. let e = parts_empty m.0 (joined m.1) m.2 in subst P e.0 m.3,
    λ h. ([], [], refl, h, tt),
  )

  -- repeating no word gives none, and repeating the empty word gives it again
  pub repeated_none : Same NoWord (Repeated NoWord)
  repeated_none w = (λ n. absurd n, λ m. m.3)

  nothing_joined : (ws : List (List S)) → AllByRecursion IsEmpty ws → joined ws ≡ []
  nothing_joined [] h = refl
  nothing_joined (w ∷ ws) h = ap (λ u. u ++ joined ws) h.0 ∙ nothing_joined ws h.1

  pub repeated_empty : Same IsEmpty (Repeated IsEmpty)
  repeated_empty w = (
    λ e. ([], [], e, refl, tt),
    λ m. m.2 ∙ nothing_joined (m.0 ∷ m.1) (m.3, m.4),
  )

  -- pieces of pieces are pieces
  joined_append : (a b : List (List S)) → joined (a ++ b) ≡ joined a ++ joined b
  joined_append [] b = refl
  joined_append (w ∷ a) b = ap (λ v. w ++ v) (joined_append a b) ∙ sym (append_assoc w (joined a) (joined b))

  all_append : (P : List S → Type 0) (a b : List (List S)) → AllByRecursion P a → AllByRecursion P b → AllByRecursion P (a ++ b)
  all_append P [] b h k = k
  all_append P (w ∷ a) b h k = (h.0, all_append P a b h.1 k)

  more_pieces : (u v w : List S) (a b : List (List S)) → w ≡ u ++ v → u ≡ joined a → v ≡ joined b → w ≡ joined (a ++ b)
  more_pieces u v w a b e h k = e ∙ ap (λ x. x ++ v) h ∙ ap (λ y. joined a ++ y) k ∙ sym (joined_append a b)

  flattened : (P : List S → Type 0) (ws : List (List S)) → AllByRecursion (Repeated P) ws → (pieces : List (List S)) × (joined ws ≡ joined pieces) × AllByRecursion P pieces
  flattened P [] h = ([], refl, tt)
  flattened P (w ∷ ws) h =
      let r = flattened P ws h.1 in
      let first = h.0.0 ∷ h.0.1 in
      (first ++ r.0, more_pieces w (joined ws) (w ++ joined ws) first r.0 refl h.0.2 r.1, all_append P first r.0 (h.0.3, h.0.4) r.2)

  pub repeated_again : (P : List S → Type 0) → Same (Repeated P) (Repeated (Repeated P))
  repeated_again P w = (
    λ m. (w, [], sym (append-nil w), m, tt),
    λ m. let r = flattened P m.1 m.4 in
        (m.3.0, m.3.1 ++ r.0, more_pieces m.0 (joined m.1) w (m.3.0 ∷ m.3.1) r.0 m.2 m.3.2 r.1, m.3.3, all_append P m.3.1 r.0 m.3.4 r.2),
  )

  -- a piece, and then the pieces of what follows
  pub then_again : (P Q R : List S → Type 0) → Same (Then (Then P Q) R) (Then P (Then Q R))
  then_again P Q R w = (
    λ m. (m.3.0, m.3.1 ++ m.1, m.2 ∙ ap (λ u. u ++ m.1) m.3.2 ∙ append_assoc m.3.0 m.3.1 m.1, m.3.3, (m.3.1, m.1, refl, m.3.4, m.4)),
    λ m. (m.0 ++ m.4.0, m.4.1, m.2 ∙ ap (λ v. m.0 ++ v) m.4.2 ∙ sym (append_assoc m.0 m.4.0 m.4.1), (m.0, m.4.0, refl, m.3, m.4.3), m.4.4),
  )

  -- the same sets give the same pieces
  pub same_then : (P Q D E : List S → Type 0) → Same P D → Same Q E → Same (Then P Q) (Then D E)
  same_then P Q D E h k w = (
    λ m. (m.0, m.1, m.2, (h m.0).0 m.3, (k m.1).0 m.4),
    λ m. (m.0, m.1, m.2, (h m.0).1 m.3, (k m.1).1 m.4),
  )

  -- one set after the other
  pub same_trans : (P Q R : List S → Type 0) → Same P Q → Same Q R → Same P R
  same_trans P Q R h k w = (λ m. (k w).0 ((h w).0 m), λ m. (h w).1 ((k w).1 m))

module _ {A L S : Type 0} where
  -- a choice with a side that matches nothing, and of two equal sides

  pub never_left : (q : Pat A L S) → SameWords q (Choice Never q)
  unfolding hidden-the_row-Pat-0 hidden
  never_left q takes w = (λ m. inr m, λ m. elim m [ inl n ↦ absurd n | inr x ↦ x ])

  pub never_right : (p : Pat A L S) → SameWords p (Choice p Never)
  unfolding hidden-the_row-Pat-0 hidden
  never_right p takes w = (λ m. inl m, λ m. elim m [ inl x ↦ x | inr n ↦ absurd n ])

  pub either_same : (p q : Pat A L S) → p ≡ q → SameWords p (Choice p q)
  unfolding hidden-the_row-Pat-0 hidden
  either_same p q e takes w = (λ m. inl m, λ m. elim m [ inl x ↦ x | inr y ↦ subst (λ r. Matches takes r w) (sym e) y ])

  -- a group with a side that matches nothing, or the empty word

  pub never_before : (q : Pat A L S) → SameWords Never (Group Never q)
  unfolding hidden-the_row-Pat-0 hidden
  never_before q takes = none_then (Matches takes q)

  pub never_after : (p : Pat A L S) → SameWords Never (Group p Never)
  unfolding hidden-the_row-Pat-0 hidden
  never_after p takes = then_none (Matches takes p)

  pub empty_before : (q : Pat A L S) → SameWords q (Group Empty q)
  unfolding hidden-the_row-Pat-0 hidden
  empty_before q takes = empty_then (Matches takes q)

  pub empty_after : (p : Pat A L S) → SameWords p (Group p Empty)
  unfolding hidden-the_row-Pat-0 hidden
  empty_after p takes = then_empty (Matches takes p)

  -- a repetition of nothing, of the empty word, and of a repetition

  pub more_never : (p : Pat A L S) → p ≡ Never → SameWords Never (More p)
  unfolding hidden-the_row-Pat-0 hidden
  more_never p is = subst (λ x. SameWords Never (More x)) (sym is) (λ takes. repeated_none)

  pub more_empty : (p : Pat A L S) → p ≡ Empty → SameWords Empty (More p)
  unfolding hidden-the_row-Pat-0 hidden
  more_empty p is = subst (λ x. SameWords Empty (More x)) (sym is) (λ takes. repeated_empty)

  pub more_again : (p : Pat A L S) → SameWords (More p) (More (More p))
  unfolding hidden-the_row-Pat-0 hidden
  more_again p takes = repeated_again (Matches takes p)

  -- equal patterns

  pub same_words : (p q : Pat A L S) → p ≡ q → SameWords p q
  same_words p q e takes w = (λ m. subst (λ r. Matches takes r w) e m, λ m. subst (λ r. Matches takes r w) (sym e) m)

-- what a list shorter than two ends in is the whole of it
pub ended : {X : Type 0} (n : ℕ) (old new last : List X) → n < 2 → new ≡ take (n - 1) old → old ≡ new ++ last → old ≡ last
ended n old new last h r e = let z : n - 1 ≡ 0 = omega arith in e ∙ ap (λ xs. xs ++ last) (r ∙ ap (λ k. take k old) z)

module _ {A L S : Type 0} where
  -- a choice and a group of one pattern at most

  pub choice_of_few : (parts : List (Pat A L S)) (p : Pat A L S) → ((parts ≡ []) × (p ≡ Never)) ⊎ (parts ≡ p ∷ []) → IsChoiceOf parts p
  choice_of_few parts p (inl e) = subst (λ q. IsChoiceOf parts q) (sym e.1) (subst (λ ps. IsChoiceOf ps Never) (sym e.0) (λ takes w. (λ n. n, λ n. n)))
  choice_of_few parts p (inr e) = subst (λ ps. IsChoiceOf ps p) (sym e) (λ takes w. (λ m. inl m, λ m. elim m [ inl x ↦ x | inr n ↦ absurd n ]))

  pub group_of_few : (parts : List (Pat A L S)) (p : Pat A L S) → ((parts ≡ []) × (p ≡ Empty)) ⊎ (parts ≡ p ∷ []) → IsGroupOf parts p
  group_of_few parts p (inl e) = subst (λ q. IsGroupOf parts q) (sym e.1) (subst (λ ps. IsGroupOf ps Empty) (sym e.0) (λ takes w. (λ n. n, λ n. n)))
  group_of_few parts p (inr e) = subst (λ ps. IsGroupOf ps p) (sym e) (λ takes. then_empty (Matches takes p))

  -- two lists of patterns, one after the other

  some_append : (takes : L → S → Bool) (ps qs : List (Pat A L S)) (w : List S) → SomeMatches takes (ps ++ qs) w ↔ (SomeMatches takes ps w ⊎ SomeMatches takes qs w)
  some_append takes [] qs w = (λ m. inr m, λ m. elim m [ inl n ↦ absurd n | inr x ↦ x ])
  some_append takes (p ∷ ps) qs w =
      let more = some_append takes ps qs w in (
        λ m. elim m [ inl x ↦ inl (inl x) | inr y ↦ elim (more.0 y) [ inl x ↦ inl (inr x) | inr z ↦ inr z ] ],
        λ m. elim m [ inl x ↦ elim x [ inl y ↦ inl y | inr z ↦ inr (more.1 (inl z)) ] | inr y ↦ inr (more.1 (inr y)) ],
      )

  each_append : (takes : L → S → Bool) (ps qs : List (Pat A L S)) → Same (EachMatches takes (ps ++ qs)) (Then (EachMatches takes ps) (EachMatches takes qs))
  each_append takes [] qs = empty_then (EachMatches takes qs)
  each_append takes (p ∷ ps) qs =
      let P = Matches takes p in
      let rest = Then (EachMatches takes ps) (EachMatches takes qs) in
      let again = then_again P (EachMatches takes ps) (EachMatches takes qs) in
      same_trans (Then P (EachMatches takes (ps ++ qs))) (Then P rest) (Then (Then P (EachMatches takes ps)) (EachMatches takes qs))
      (same_then P (EachMatches takes (ps ++ qs)) P rest (λ w. (λ m. m, λ m. m)) (each_append takes ps qs))
      (λ w. ((again w).1, (again w).0))

  -- a list by its halves

  pub choice_halves : (parts front back : List (Pat A L S)) (n : ℕ) (p q made : Pat A L S) → front ≡ take n parts → back ≡ drop n parts
      → IsChoiceOf front p → IsChoiceOf back q → SameWords made (Choice p q) → IsChoiceOf parts made
  unfolding hidden-the_row-Pat-0 hidden
  choice_halves parts front back n p q made f b h k m =
      let is : front ++ back ≡ parts = ap (λ xs. xs ++ back) f ∙ ap (λ ys. take n parts ++ ys) b ∙ take-append-drop n parts in
      subst (λ xs. IsChoiceOf xs made) is (λ takes w.
      let both = some_append takes front back w in (
        λ x. both.1 (elim ((m takes w).0 x) [ inl y ↦ inl ((h takes w).0 y) | inr z ↦ inr ((k takes w).0 z) ]),
        λ x. (m takes w).1 (elim (both.0 x) [ inl y ↦ inl ((h takes w).1 y) | inr z ↦ inr ((k takes w).1 z) ]),
      ))

  pub group_halves : (parts front back : List (Pat A L S)) (n : ℕ) (p q made : Pat A L S) → front ≡ take n parts → back ≡ drop n parts
      → IsGroupOf front p → IsGroupOf back q → SameWords made (Group p q) → IsGroupOf parts made
  unfolding hidden-the_row-Pat-0 hidden
  group_halves parts front back n p q made f b h k m =
      let is : front ++ back ≡ parts = ap (λ xs. xs ++ back) f ∙ ap (λ ys. take n parts ++ ys) b ∙ take-append-drop n parts in
      subst (λ xs. IsGroupOf xs made) is (λ takes w.
      let both = each_append takes front back w in
      let parts_same = same_then (Matches takes p) (Matches takes q) (EachMatches takes front) (EachMatches takes back) (h takes) (k takes) w in
      (λ x. both.1 (parts_same.0 ((m takes w).0 x)), λ x. (m takes w).1 (parts_same.1 (both.0 x))))
