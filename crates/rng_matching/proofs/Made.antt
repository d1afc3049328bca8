-- The patterns of the parts of a pattern of values, from those of their own parts.
use Rattle.std.proofs.Common.{◌≡◌, ◌≤◌, ◌<◌, ◌+◌, ℕ, List, [], ◌∷◌, ◌++◌, length, get_or, take, sym, ap, subst, ◌∙◌}
use Rattle.odd_patterns.proofs.Pieces.{same_trans}
use Rattle.std.proofs.lemmas.List.{take_all, take_more}
use Rattle.odd_patterns.specs.Words.{EachMatches, IsChoiceOf, IsGroupOf, Matches, SomeMatches}
use Rattle.odd_patterns.specs.declared.pattern.Pat.{Pat}
use Rattle.rng_dialect.specs.Matching.{AreMatched, IsWithin, Takes}
use Rattle.rng_dialect.specs.Matching.{Matches as RegexMatches}
use Rattle.rng_dialect.specs.declared.regex.Atom.{Atom}
use Rattle.rng_dialect.specs.declared.regex.Piece.{Piece, out-Piece}
use Rattle.rng_dialect.specs.declared.regex.Regex.{Regex, out-Regex}
use Rattle.rng_matching.specs.Chars.{admits}
use Rattle.rng_matching.specs.Making.{Grows, IsFor, IsWithinOf, PieceMatches}
use Rattle.rng_matching.specs.Times.{Within}
use Rattle.rng_matching.proofs.Bounding.{same_back, same_within}
use Rattle.rng_matching.proofs.Joining.{EachFits, branches_are, each_is, fits_push, piece_within}

pub grows_trans : (a b c : List Atom) → Grows a b → Grows b c → Grows a c
grows_trans a b c g h n x e = h n x (g n x e)

module _ {A X : Type 0} (P : X → List ℕ → Type 0) where
  -- each of the things so far has its pattern, whatever atoms come
  abbrev pub AllFit : List Atom → List X → List (Pat A ℕ ℕ) → Type 0
  AllFit classes xs qs = (later : List Atom) → Grows classes later → EachFits P (admits later) xs qs

  -- and one more
  pub one_more_fits : (old new : List Atom) (xs items : List X) (qs : List (Pat A ℕ ℕ)) (i : ℕ) (x : X) (q : Pat A ℕ ℕ) → items ≡ xs → Grows old new → i < length items
      → x ≡ get_or items i x → AllFit old (take i xs) qs → IsFor (P x) new q → AllFit new (take (i + 1) xs) (qs ++ q ∷ [])
  one_more_fits old new xs items qs i x q same g m d f h later k =
      let l : i < length xs = subst (λ ys. i < length ys) same m in
      let e : x ≡ get_or xs i x = subst (λ ys. x ≡ get_or ys i x) same d in
      let is : take i xs ++ x ∷ [] ≡ take (i + 1) xs = ap (λ y. take i xs ++ y ∷ []) e ∙ sym (take_more xs i x l) in
      subst (λ ys. EachFits P (admits later) ys (qs ++ q ∷ [])) is (fits_push P (admits later) (take i xs) qs x q (f later (grows_trans old new later g k)) (h later k))

  -- all of them
  pub whole_fit : (classes : List Atom) (xs items : List X) (qs : List (Pat A ℕ ℕ)) (i : ℕ) → items ≡ xs → length items ≤ i → AllFit classes (take i xs) qs → AllFit classes xs qs
  whole_fit classes xs items qs i same l f = subst (λ ys. AllFit classes ys qs) (take_all i xs (subst (λ ys. length ys ≤ i) same l)) f

module _ {A : Type 0} where
  -- of branches
  pub choice_for : (r : Regex) (classes : List Atom) (qs : List (Pat A ℕ ℕ)) (made : Pat A ℕ ℕ) → AllFit AreMatched classes (out-Regex r).branches qs → IsChoiceOf qs made
      → IsFor (RegexMatches r) classes made
  choice_for r classes qs made f h later g =
      let takes = admits later in
      same_trans (RegexMatches r) (SomeMatches takes qs) (Matches takes made) (branches_are takes r qs (f later g))
      (same_back (Matches takes made) (SomeMatches takes qs) (h takes))

  -- of the pieces of a branch
  pub group_for : (ps : List Piece) (classes : List Atom) (qs : List (Pat A ℕ ℕ)) (made : Pat A ℕ ℕ) → AllFit PieceMatches classes ps qs → IsGroupOf qs made → IsFor (AreMatched ps) classes made
  group_for ps classes qs made f h later g =
      let takes = admits later in
      same_trans (AreMatched ps) (EachMatches takes qs) (Matches takes made) (each_is takes ps qs (f later g)) (same_back (Matches takes made) (EachMatches takes qs) (h takes))

  -- of a piece
  pub piece_for : (p : Piece) (classes : List Atom) (atom made : Pat A ℕ ℕ) → IsFor (Takes (out-Piece p).atom) classes atom
      → IsWithinOf (IsWithin (out-Piece p).bounds) atom made → IsFor (PieceMatches p) classes made
  piece_for p classes atom made f h later g =
      let takes = admits later in
      let B = IsWithin (out-Piece p).bounds in
      let T = Takes (out-Piece p).atom in
      same_trans (PieceMatches p) (Within B T) (Matches takes made) (piece_within p)
      (same_trans (Within B T) (Within B (Matches takes atom)) (Matches takes made) (same_within B T (Matches takes atom) (f later g))
      (same_back (Matches takes made) (Within B (Matches takes atom)) (h takes)))
