-- What a part of a pattern is made into.
use Rattle.std.specs.Prelude.{◌≡◌, ◌↔◌, ℕ, Bool, IsTrue, List, [], ◌∷◌, Some, slice_get}
use Rattle.odd_patterns.specs.Pieces.{Then}
use Rattle.odd_patterns.specs.Words.{Matches}
use Rattle.odd_patterns.specs.declared.pattern.Pat.{Pat}
use Rattle.rng_dialect.specs.declared.regex.Atom.{Atom}
use Rattle.rng_dialect.specs.declared.regex.Piece.{Piece, out-Piece}
use Rattle.rng_dialect.specs.Matching.{IsRepeated, IsWithin}
use Rattle.rng_matching.specs.Chars.{admits, takes_char}
use Rattle.rng_matching.specs.Times.{Times, Within}

-- each atom of the old list has its number in the new one
abbrev pub Grows : List Atom → List Atom → Type 0
Grows old new = (n : ℕ) (a : Atom) → slice_get old n ≡ Some a → slice_get new n ≡ Some a

-- the pattern matches exactly the words that P holds of, also with more atoms
abbrev pub IsFor : {A : Type 0} → (List ℕ → Type 0) → List Atom → Pat A ℕ ℕ → Type 0
IsFor P classes made = (later : List Atom) → Grows classes later → (w : List ℕ) → P w ↔ Matches (admits later) made w

-- the word is one character that the atom takes by itself
abbrev pub TakesOne : Atom → List ℕ → Type 0
TakesOne a w = (c : ℕ) × (w ≡ c ∷ []) × IsTrue (takes_char a c)

-- the word is a number of parts within the piece's bounds, of which its atom takes each
abbrev pub PieceMatches : Piece → List ℕ → Type 0
PieceMatches p w = (n : ℕ) × IsWithin (out-Piece p).bounds n × IsRepeated (out-Piece p).atom n w

-- the pattern matches so many words of the other, one after the other
abbrev pub IsTimes : {A L S : Type 0} → ℕ → Pat A L S → Pat A L S → Type 0
IsTimes {A} {L} {S} n pat made = (takes : L → S → Bool) (w : List S) → Matches takes made w ↔ Times (Matches takes pat) n w

-- the pattern matches so many words of one, and then a word of the rest
abbrev pub IsFollowed : {A L S : Type 0} → ℕ → Pat A L S → Pat A L S → Pat A L S → Type 0
IsFollowed {A} {L} {S} n pat rest made = (takes : L → S → Bool) (w : List S) → Matches takes made w ↔ Then (Times (Matches takes pat) n) (Matches takes rest) w

-- the pattern matches any number of words of the other that is within the bounds
abbrev pub IsWithinOf : {A L S : Type 0} → (ℕ → Type 0) → Pat A L S → Pat A L S → Type 0
IsWithinOf {A} {L} {S} B pat made = (takes : L → S → Bool) (w : List S) → Matches takes made w ↔ Within B (Matches takes pat) w
