-- The dialect of patterns: which characters spell which pattern. It is a part of the regular expressions of XML Schema, Part 2, appendix F. Each relation
-- says that characters begin with a spelling, with its size and how many levels of parentheses stand in one another in it, and what comes after it.
use Rattle.std.specs.Prelude.{◌≡◌, ◌≢◌, ◌≤◌, ◌<◌, ◌+◌, ◌*◌, ℕ, Bool, not, List, [], ◌∷◌, ◌++◌, Option, Some, None, codes, length, max, take, IsTrue}
use Rattle.std.specs.Char.{is_ascii_digit}
use Rattle.std.specs.List.{list_all}
use Rattle.std.specs.Str.{encode_utf8_all}
use Rattle.std.specs.Str.Parse.{digits_value}
use Rattle.rng_types.specs.declared.bounds.Bounds.{Bounds}
use Rattle.rng_dialect.specs.Class.{IsClass, backslash, is_escaped, is_one_of}
use Rattle.rng_dialect.specs.declared.regex.Atom.{Atom}
use Rattle.rng_dialect.specs.declared.regex.Atom.TheVariants as atom
use Rattle.rng_dialect.specs.declared.regex.Member.{Member}
use Rattle.rng_dialect.specs.declared.regex.Piece.{Piece, out-Piece}
use Rattle.rng_dialect.specs.declared.regex.Regex.{Regex, out-Regex}

-- a character that stands for itself outside of a class
abbrev pub is_plain : ℕ → Bool
is_plain c = not (is_one_of (codes ".\\?*+{}()[]|") c)

-- the character, and then the rest
abbrev pub Begins : (c : ℕ) → List ℕ → (rest : List ℕ) → Type 0
Begins c cs rest = cs ≡ c ∷ rest

-- 1 to 4 digits, and their value
pub record IsNumber (digits : List ℕ) (n : ℕ) : Type 0 where
  pub some : digits ≢ []
  pub few : length digits ≤ 4
  pub are_digits : IsTrue (list_all is_ascii_digit digits)
  pub value : n ≡ digits_value 10 digits

abbrev pub between : ℕ → Option ℕ → Bounds
between min max = record { min = min; max = max }

-- How often an atom of a size stands, which is once where nothing is said, and the size of both.
pub data IsQuantifier (atom : ℕ) : List ℕ → Bounds → (size : ℕ) → (rest : List ℕ) → Type 0 where
  once : {cs : List ℕ} → IsQuantifier atom cs (between 1 (Some 1)) atom cs
  optional : {cs rest : List ℕ} → Begins 0x3F cs rest → IsQuantifier atom cs (between 0 (Some 1)) (atom + 1) rest
  any_number : {cs rest : List ℕ} → Begins 0x2A cs rest → IsQuantifier atom cs (between 0 None) (atom + 1) rest
  some : {cs rest : List ℕ} → Begins 0x2B cs rest → IsQuantifier atom cs (between 1 None) (atom + 1) rest
  exactly : {cs : List ℕ} {n : ℕ} (digits : List ℕ) {rest : List ℕ} → IsNumber digits n → cs ≡ codes "{" ++ digits ++ codes "}" ++ rest
      → IsQuantifier atom cs (between n (Some n)) (atom * max n 1) rest
  at_least : {cs : List ℕ} {n : ℕ} (digits : List ℕ) {rest : List ℕ} → IsNumber digits n → cs ≡ codes "{" ++ digits ++ codes ",}" ++ rest
      → IsQuantifier atom cs (between n None) (atom * (n + 1)) rest
  within : {cs : List ℕ} {n m : ℕ} (digits others : List ℕ) {rest : List ℕ} → IsNumber digits n → IsNumber others m → n ≤ m
      → cs ≡ codes "{" ++ digits ++ codes "," ++ others ++ codes "}" ++ rest → IsQuantifier atom cs (between n (Some m)) (atom * max m 1) rest

mutual
  -- branches, with `|` between them
  pub data AreBranches : List ℕ → List (List Piece) → (size levels : ℕ) → (rest : List ℕ) → Type 0 where
    one : {cs : List ℕ} {pieces : List Piece} {size levels : ℕ} {rest : List ℕ} → ArePieces cs pieces size levels rest → AreBranches cs (pieces ∷ []) size levels rest
    further : {cs ds es : List ℕ} {pieces : List Piece} {branches : List (List Piece)} {size levels others others_levels : ℕ} {rest : List ℕ}
        → ArePieces cs pieces size levels ds → Begins 0x7C ds es → AreBranches es branches others others_levels rest
        → AreBranches cs (pieces ∷ branches) (size + others) (max levels others_levels) rest

  -- a branch has any number of pieces
  pub data ArePieces : List ℕ → List Piece → (size levels : ℕ) → (rest : List ℕ) → Type 0 where
    nothing : {cs : List ℕ} → ArePieces cs [] 0 0 cs
    more : {cs ds : List ℕ} {p : Piece} {ps : List Piece} {size levels others others_levels : ℕ} {rest : List ℕ}
        → IsPiece cs p size levels ds → ArePieces ds ps others others_levels rest → ArePieces cs (p ∷ ps) (size + others) (max levels others_levels) rest

  -- an atom, and how often it stands
  pub data IsPiece : List ℕ → Piece → (size levels : ℕ) → (rest : List ℕ) → Type 0 where
    piece : {cs ds : List ℕ} {p : Piece} {atom size levels : ℕ} {rest : List ℕ}
        → IsAtom cs (out-Piece p).atom atom levels ds → IsQuantifier atom ds (out-Piece p).bounds size rest → IsPiece cs p size levels rest

  pub data IsAtom : List ℕ → Atom → (size levels : ℕ) → (rest : List ℕ) → Type 0 where
    plain : {c : ℕ} {rest : List ℕ} → IsTrue (is_plain c) → IsAtom (c ∷ rest) (atom.Char c) 1 0 rest
    escaped : {c : ℕ} {cs rest : List ℕ} → Begins backslash cs (c ∷ rest) → IsTrue (is_escaped c) → IsAtom cs (atom.Char c) 1 0 rest
    any : {cs rest : List ℕ} → Begins 0x2E cs rest → IsAtom cs atom.Any 1 0 rest
    class : {cs ds : List ℕ} {negated : Bool} {ms : List Member} {rest : List ℕ} → Begins 0x5B cs ds → IsClass ds negated ms rest → IsAtom cs (atom.Class negated ms) 1 0 rest
    nested : {cs ds es : List ℕ} {a : Atom} {size levels : ℕ} {rest : List ℕ} (r : Regex) → Begins 0x28 cs ds → AreBranches ds (out-Regex r).branches size levels es → Begins 0x29 es rest
        → a ≡ atom.Nested r → IsAtom cs a (size + 1) (levels + 1) rest

-- all of the characters spell the pattern
abbrev pub Spells : List ℕ → Regex → (size levels : ℕ) → Type 0
Spells cs r size levels = AreBranches cs (out-Regex r).branches size levels []

-- whatever its size
abbrev pub SpellsRegex : List ℕ → Regex → Type 0
SpellsRegex cs r = (size : ℕ) × (levels : ℕ) × Spells cs r size levels

-- of a size of at most 20,000, with at most 60 levels
pub record IsPattern (cs : List ℕ) (r : Regex) : Type 0 where
  pub size : ℕ
  pub levels : ℕ
  pub spelled : Spells cs r size levels
  pub few : size ≤ 20000
  pub low : levels ≤ 60

-- the characters begin some text of the dialect's grammar
abbrev pub BeginsPattern : List ℕ → Type 0
BeginsPattern cs = (ds : List ℕ) × (r : Regex) × SpellsRegex (cs ++ ds) r

-- so many characters are the longest front that does
pub record IsLongestFront (cs : List ℕ) (count : ℕ) : Type 0 where
  pub within : count ≤ length cs
  pub begins : BeginsPattern (take count cs)
  pub longest : count < length cs → BeginsPattern (take (count + 1) cs) → ⊥

-- The text spells no pattern within the limits. The place is behind the longest front that begins one, which may be the whole text.
pub record IsNoPattern (cs : List ℕ) (count : ℕ) : Type 0 where
  pub none : (r : Regex) → IsPattern cs r → ⊥
  pub place : IsLongestFront cs count

-- the same with the place counted in bytes of UTF-8
abbrev pub IsNoPatternAt : List ℕ → (at : ℕ) → Type 0
IsNoPatternAt cs at = (count : ℕ) × IsNoPattern cs count × (at ≡ length (encode_utf8_all (take count cs)))
