-- Lists that are split into pieces, of items that are such; and choices, which match what one of them matches.
use Rattle.std.proofs.Common.{◌≡◌, ◌↔◌, ◌⊎◌, inl, inr, ℕ, zero, suc, ◌≤◌, List, [], ◌∷◌, ◌++◌, refl, sym, ap, subst, ◌∙◌, arith}
use Rattle.std.proofs.lemmas.List.{append-nil}
use Rattle.std.proofs.lemmas.List.Elements.{All-nil, All-cons, All-head, All-tail}
use Rattle.std.specs.Prelude.{All}
use Rattle.odd_tree.specs.Splits.{Counted, Pieces, Then}

module _ {C : Type 0} (Q : C → Type 0) where
  -- what holds of each item of a list holds of each of a front of it
  all_left : (xs ys : List C) → All Q (xs ++ ys) → All Q xs
  all_left [] ys h = All-nil Q
  all_left (x ∷ xs) ys h = All-cons Q x xs (All-head Q x (xs ++ ys) h) (all_left xs ys (All-tail Q x (xs ++ ys) h))

  -- and of each of the rest
  all_right : (xs ys : List C) → All Q (xs ++ ys) → All Q ys
  all_right [] ys h = h
  all_right (x ∷ xs) ys h = all_right xs ys (All-tail Q x (xs ++ ys) h)

  -- one and the other hold the same lists
  abbrev pub Same : (List C → Type 0) → (List C → Type 0) → Type 0
  Same P R = (w : List C) → All Q w → P w ↔ R w

  -- each is the same as itself
  pub same : (P : List C → Type 0) → Same P P
  same P w q = (λ h. h, λ h. h)

  -- the other way round
  pub swap : {P R : List C → Type 0} → Same P R → Same R P
  swap a w q = ((a w q).1, (a w q).0)

  -- one after the other
  pub trans : {P R S : List C → Type 0} → Same P R → Same R S → Same P S
  trans a b w q = (λ h. (b w q).0 ((a w q).0 h), λ h. (a w q).1 ((b w q).1 h))

  -- the other holds what one does
  abbrev pub Into : (List C → Type 0) → (List C → Type 0) → Type 0
  Into P R = (w : List C) → All Q w → P w → R w

  -- a split of the list, piece by piece
  pub then_into : {P P' R R' : List C → Type 0} → Into P P' → Into R R' → Into (Then P R) (Then P' R')
  then_into a b w q h =
      let both : All Q (h.left ++ h.right) = subst (All Q) h.split q in
      record {
        left = h.left;
        right = h.right;
        split = h.split;
        first = a h.left (all_left h.left h.right both) h.first;
        second = b h.right (all_right h.left h.right both) h.second;
      }

  -- a piece and a rest that are the same
  pub then_same : {P P' R R' : List C → Type 0} → Same P P' → Same R R' → Same (Then P R) (Then P' R')
  then_same a b w q = (then_into (λ v s. (a v s).0) (λ v s. (b v s).0) w q, then_into (λ v s. (a v s).1) (λ v s. (b v s).1) w q)

  -- one of two
  pub or_into : {P P' R R' : List C → Type 0} → Into P P' → Into R R' → Into (λ w. P w ⊎ R w) (λ w. P' w ⊎ R' w)
  or_into a b w q h = elim h [ inl x ↦ inl (a w q x) | inr y ↦ inr (b w q y) ]

  -- one of two that are the same
  pub or_same : {P P' R R' : List C → Type 0} → Same P P' → Same R R' → Same (λ w. P w ⊎ R w) (λ w. P' w ⊎ R' w)
  or_same a b w q = (or_into (λ v s. (a v s).0) (λ v s. (b v s).0) w q, or_into (λ v s. (a v s).1) (λ v s. (b v s).1) w q)

  -- one piece, and nothing after it
  pub then_end : (P : List C → Type 0) → Same P (Then P (λ w. w ≡ []))
  then_end P w q = (
    λ h. record { left = w; right = []; split = sym (append-nil w); first = h; second = refl },
    λ h. subst P (sym (h.split ∙ ap (λ r. h.left ++ r) h.second ∙ append-nil h.left)) h.first,
  )

  -- so many pieces
  pieces_into : {P R : List C → Type 0} → Into P R → (n : ℕ) → Into (Pieces P n) (Pieces R n)
  pieces_into a zero = λ w q h. h
  pieces_into a (suc n) = then_into a (pieces_into a n)

  -- an allowed number of pieces
  pub counted_into : {Allowed : ℕ → Type 0} {P R : List C → Type 0} → Into P R → Into (Counted Allowed P) (Counted Allowed R)
  counted_into a w q h = record { count = h.count; allowed = h.allowed; pieces = pieces_into a h.count w q h.pieces }

  -- a number of pieces that are the same
  pub counted_same : {Allowed : ℕ → Type 0} {P R : List C → Type 0} → Same P R → Same (Counted Allowed P) (Counted Allowed R)
  counted_same a w q = (counted_into (λ v s. (a v s).0) w q, counted_into (λ v s. (a v s).1) w q)

  -- the same numbers of pieces
  pub counts_same : {A B : ℕ → Type 0} {P : List C → Type 0} → ((n : ℕ) → A n ↔ B n) → Same (Counted A P) (Counted B P)
  counts_same a w q = (
    λ h. record { count = h.count; allowed = (a h.count).0 h.allowed; pieces = h.pieces },
    λ h. record { count = h.count; allowed = (a h.count).1 h.allowed; pieces = h.pieces },
  )

  -- one piece more, where no piece at all is not allowed
  pub one_more : {A B : ℕ → Type 0} {P R : List C → Type 0} → ((n : ℕ) → A n ↔ B (suc n)) → (B zero → ⊥) → Same R (Counted A P) → Same (Then P R) (Counted B P)
  one_more {A = A} {B = B} {P = P} {R = R} a never r w q = trans (then_same (same P) r) counted w q
    where
      back : (n : ℕ) → (v : List C) → B n → Pieces P n v → Then P (Counted A P) v
      back zero v b h = absurd (never b)
      back (suc n) v b h = record { left = h.left; right = h.right; split = h.split; first = h.first; second = record { count = n; allowed = (a n).1 b; pieces = h.second } }

      counted : Same (Then P (Counted A P)) (Counted B P)
      counted v s = (
        λ h. record {
          count = suc h.second.count;
          allowed = (a h.second.count).0 h.second.allowed;
          pieces = record { left = h.left; right = h.right; split = h.split; first = h.first; second = h.second.pieces };
        },
        λ h. back h.count v h.allowed h.pieces,
      )

  -- at most so many pieces: nothing, or one piece and at most one less
  pub at_most_more : {P : List C → Type 0} (k : ℕ) → Same (Then (λ w. (w ≡ []) ⊎ P w) (Counted (λ n. n ≤ k) P)) (Counted (λ n. n ≤ suc k) P)
  at_most_more {P = P} k w q = (
    λ h. elim h.first [
      | inl e ↦ record {
        count = h.second.count;
        allowed = omega (arith, h.second.allowed);
        pieces = subst (Pieces P h.second.count) (sym (h.split ∙ ap (λ l. l ++ h.right) e)) h.second.pieces;
      }
      | inr x ↦ record {
        count = suc h.second.count;
        allowed = omega (arith, h.second.allowed);
        pieces = record { left = h.left; right = h.right; split = h.split; first = x; second = h.second.pieces };
      }
    ],
    λ h. back h.count h.allowed h.pieces,
  )
    where
      back : (n : ℕ) → n ≤ suc k → Pieces P n w → Then (λ v. (v ≡ []) ⊎ P v) (Counted (λ m. m ≤ k) P) w
      back zero l h = record { left = []; right = w; split = refl; first = inl refl; second = record { count = 0; allowed = omega arith; pieces = h } }
      back (suc n) l h = record { left = h.left; right = h.right; split = h.split; first = inr h.first; second = record { count = n; allowed = omega arith; pieces = h.second } }

  -- no piece
  pub none_same : {P : List C → Type 0} → Same (λ w. w ≡ []) (Counted (λ n. n ≤ 0) P)
  none_same {P = P} w q = (λ h. record { count = 0; allowed = omega arith; pieces = h }, λ h. none_at h.count h.allowed h.pieces)
    where
      none_at : (n : ℕ) → n ≤ 0 → Pieces P n w → w ≡ []
      none_at zero l h = h
      none_at (suc n) l h = absurd (omega arith)
