-- The standard's words for what matches, as words in pieces.
use Rattle.std.proofs.Common.{◌≡◌, ◌<◌, ◌⊎◌, ℕ, zero, suc, Bool, List, [], ◌∷◌, ◌++◌, length, refl, sym, subst, inl, inr, arith, get_or}
use Rattle.std.specs.List.{Contains}
use Rattle.odd_patterns.specs.Pieces.{Then}
use Rattle.odd_patterns.specs.Words.{Matches, EachMatches, SomeMatches}
use Rattle.odd_patterns.specs.declared.pattern.Pat.{Pat}
use Rattle.odd_patterns.proofs.Pieces.{Same, same_then}
use Rattle.rng_dialect.specs.Matching.{AreMatched, IsRepeated, IsWithin, Takes, nothing, more, never, again, branch}
use Rattle.rng_dialect.specs.Matching.{Matches as RegexMatches}
use Rattle.rng_dialect.specs.declared.regex.Atom.{Atom}
use Rattle.rng_dialect.specs.declared.regex.Piece.{Piece, out-Piece}
use Rattle.rng_dialect.specs.declared.regex.Regex.{Regex, out-Regex}
use Rattle.rng_matching.specs.Making.{PieceMatches}
use Rattle.rng_matching.specs.Times.{Times, Within}

-- a repetition is so many pieces
repeated_times : {a : Atom} {n : ℕ} {w : List ℕ} → IsRepeated a n w → Times (Takes a) n w
repeated_times never = refl
repeated_times (again {cs = cs} {ds = ds} t r) = (cs, ds, refl, t, repeated_times r)

times_repeated : (a : Atom) (n : ℕ) (w : List ℕ) → Times (Takes a) n w → IsRepeated a n w
times_repeated a zero w e = subst (IsRepeated a 0) (sym e) never
times_repeated a (suc n) w t = subst (IsRepeated a (suc n)) (sym t.2) (again t.3 (times_repeated a n t.1 t.4))

pub piece_within : (p : Piece) → Same (PieceMatches p) (Within (IsWithin (out-Piece p).bounds) (Takes (out-Piece p).atom))
piece_within p w = (λ m. (m.0, m.1, repeated_times m.2), λ m. (m.0, m.1, times_repeated (out-Piece p).atom m.0 w m.2))

-- a branch is one piece of the word for each of its pieces
abbrev Split : List Piece → List ℕ → Type 0
Split [] w = w ≡ []
Split (p ∷ ps) w = Then (PieceMatches p) (AreMatched ps) w

split : {ps : List Piece} {w : List ℕ} → AreMatched ps w → Split ps w
split nothing = refl
split (more {cs = cs} {ds = ds} n b r m) = (cs, ds, refl, (n, b, r), m)

-- each thing of a list has a pattern that matches its words
module _ {A X : Type 0} (P : X → List ℕ → Type 0) (takes : ℕ → ℕ → Bool) where
  abbrev pub EachFits : List X → List (Pat A ℕ ℕ) → Type 0
  EachFits [] [] = Unit {0}
  EachFits [] (q ∷ qs) = ⊥
  EachFits (x ∷ xs) [] = ⊥
  EachFits (x ∷ xs) (q ∷ qs) = Same (P x) (Matches takes q) × EachFits xs qs

  pub fits_push : (xs : List X) (qs : List (Pat A ℕ ℕ)) (x : X) (q : Pat A ℕ ℕ) → EachFits xs qs → Same (P x) (Matches takes q) → EachFits (xs ++ x ∷ []) (qs ++ q ∷ [])
  fits_push [] [] x q f s = (s, tt)
  fits_push [] (r ∷ qs) x q f s = absurd f
  fits_push (y ∷ xs) [] x q f s = absurd f
  fits_push (y ∷ xs) (r ∷ qs) x q f s = (f.0, fits_push xs qs x q f.1 s)

module _ {A : Type 0} (takes : ℕ → ℕ → Bool) where
  -- a branch is matched as the patterns of its pieces are, in order
  pub each_is : (ps : List Piece) (qs : List (Pat A ℕ ℕ)) → EachFits PieceMatches takes ps qs → Same (AreMatched ps) (EachMatches takes qs)
  each_is [] [] f w = (λ m. split m, λ e. subst (AreMatched []) (sym e) nothing)
  each_is [] (q ∷ qs) f w = absurd f
  each_is (p ∷ ps) [] f w = absurd f
  each_is (p ∷ ps) (q ∷ qs) f w =
      let both = same_then (PieceMatches p) (AreMatched ps) (Matches takes q) (EachMatches takes qs) f.0 (each_is ps qs f.1) w in (
        λ m. both.0 (split m),
        λ m. let s = both.1 m in subst (AreMatched (p ∷ ps)) (sym s.2) (more s.3.0 s.3.1 s.3.2 s.4),
      )

-- some of the branches is matched
abbrev SomeMatched : List (List Piece) → List ℕ → Type 0
SomeMatched [] w = ⊥
SomeMatched (b ∷ bs) w = AreMatched b w ⊎ SomeMatched bs w

some_at : (bs : List (List Piece)) (w : List ℕ) (k : ℕ) (d : List Piece) → k < length bs → AreMatched (get_or bs k d) w → SomeMatched bs w
some_at [] w k d l m = absurd (omega arith)
some_at (b ∷ bs) w zero d l m = inl m
some_at (b ∷ bs) w (suc k) d l m = inr (some_at bs w k d (omega arith) m)

at_some : (bs : List (List Piece)) (w : List ℕ) → SomeMatched bs w → (b : List Piece) × Contains bs b × AreMatched b w
at_some [] w m = absurd m
at_some (b ∷ bs) w (inl m) = (b, (0, omega arith, refl), m)
at_some (b ∷ bs) w (inr m) = let r = at_some bs w m in (r.0, (suc r.1.0, omega (arith, r.1.1), r.1.2), r.2)

branched : {r : Regex} {w : List ℕ} → RegexMatches r w → SomeMatched (out-Regex r).branches w
branched {r = r} {w = w} (branch pieces c m) = some_at (out-Regex r).branches w c.0 pieces c.1 (subst (λ b. AreMatched b w) (sym c.2) m)

-- a pattern of values is matched as some of its branches is
regex_some : (r : Regex) → Same (RegexMatches r) (SomeMatched (out-Regex r).branches)
regex_some r w = (λ m. branched m, λ s. let b = at_some (out-Regex r).branches w s in branch b.0 b.1 b.2)

module _ {A : Type 0} (takes : ℕ → ℕ → Bool) where
  some_is : (bs : List (List Piece)) (qs : List (Pat A ℕ ℕ)) → EachFits AreMatched takes bs qs → Same (SomeMatched bs) (SomeMatches takes qs)
  some_is [] [] f w = (λ m. m, λ m. m)
  some_is [] (q ∷ qs) f w = absurd f
  some_is (b ∷ bs) [] f w = absurd f
  some_is (b ∷ bs) (q ∷ qs) f w =
      let rest = some_is bs qs f.1 w in (
        λ m. elim m [ inl x ↦ inl ((f.0 w).0 x) | inr y ↦ inr (rest.0 y) ],
        λ m. elim m [ inl x ↦ inl ((f.0 w).1 x) | inr y ↦ inr (rest.1 y) ],
      )

  -- and so as some of the patterns of its branches is
  pub branches_are : (r : Regex) (qs : List (Pat A ℕ ℕ)) → EachFits AreMatched takes (out-Regex r).branches qs → Same (RegexMatches r) (SomeMatches takes qs)
  branches_are r qs f w =
      let one = regex_some r w in
      let two = some_is (out-Regex r).branches qs f w in
      (λ m. two.0 (one.0 m), λ m. one.1 (two.1 m))
