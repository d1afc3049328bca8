-- The words of a text, which are what stands between white space (XML 1.0, section 2.3).
use Rattle.std.specs.Prelude.{ℕ, Bool, true, false, List, [], ◌∷◌, filter, if◌then◌else◌}
use Rattle.odd_tokens.specs.Characters.{is_space}

-- the character stands before the first piece
abbrev pub begun_with : ℕ → List (List ℕ) → List (List ℕ)
begun_with c [] = (c ∷ []) ∷ []
begun_with c (piece ∷ pieces) = (c ∷ piece) ∷ pieces

-- the pieces between the characters of white space, which may be empty
abbrev pub pieces_of : List ℕ → List (List ℕ)
pieces_of [] = [] ∷ []
pieces_of (c ∷ cs) = if is_space c then [] ∷ pieces_of cs else begun_with c (pieces_of cs)

abbrev pub is_filled : List ℕ → Bool
is_filled [] = false
is_filled (c ∷ cs) = true

abbrev pub words_of : List ℕ → List (List ℕ)
words_of value = filter is_filled (pieces_of value)

-- a word that ends, where one has begun, before those that come later
abbrev pub ended : List ℕ → List (List ℕ) → List (List ℕ)
ended [] later = later
ended (c ∷ cs) later = (c ∷ cs) ∷ later
