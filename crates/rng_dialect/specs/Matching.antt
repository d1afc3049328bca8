-- Which characters match a pattern (XML Schema, Part 2, appendix F), by its branches and pieces.
use Rattle.std.specs.Prelude.{◌≡◌, ◌≢◌, ◌≤◌, ℕ, suc, Bool, true, false, List, [], ◌∷◌, ◌++◌, Some}
use Rattle.std.specs.List.{Contains}
use Rattle.rng_types.specs.declared.bounds.Bounds.{Bounds}
use Rattle.rng_dialect.specs.declared.regex.Atom.{Atom}
use Rattle.rng_dialect.specs.declared.regex.Atom.TheVariants as atom
use Rattle.rng_dialect.specs.declared.regex.Member.{Member}
use Rattle.rng_dialect.specs.declared.regex.Member.TheVariants as member
use Rattle.rng_dialect.specs.declared.regex.Piece.{Piece, out-Piece}
use Rattle.rng_dialect.specs.declared.regex.Regex.{Regex, out-Regex}

abbrev pub IsOfMember : Member → ℕ → Type 0
IsOfMember (member.Char d) c = c ≡ d
IsOfMember (member.Range low high) c = (low ≤ c) × (c ≤ high)

-- one of the members takes the character
abbrev pub IsOfMembers : List Member → ℕ → Type 0
IsOfMembers ms c = (m : Member) × Contains ms m × IsOfMember m c

abbrev pub IsOfClass : Bool → List Member → ℕ → Type 0
IsOfClass false ms c = IsOfMembers ms c
IsOfClass true ms c = IsOfMembers ms c → ⊥

-- so many times are within bounds
pub record IsWithin (b : Bounds) (n : ℕ) : Type 0 where
  pub least : b.min ≤ n
  pub most : (max : ℕ) → b.max ≡ Some max → n ≤ max

mutual
  -- one of the branches
  pub data Matches : Regex → List ℕ → Type 0 where
    branch : {r : Regex} {cs : List ℕ} (pieces : List Piece) → Contains (out-Regex r).branches pieces → AreMatched pieces cs → Matches r cs

  -- a split with one part a piece, which is split again into a number of parts within its bounds
  pub data AreMatched : List Piece → List ℕ → Type 0 where
    nothing : AreMatched [] []
    more : {p : Piece} {ps : List Piece} {cs ds : List ℕ} (n : ℕ) → IsWithin (out-Piece p).bounds n → IsRepeated (out-Piece p).atom n cs → AreMatched ps ds → AreMatched (p ∷ ps) (cs ++ ds)

  pub data IsRepeated : Atom → ℕ → List ℕ → Type 0 where
    never : {a : Atom} → IsRepeated a 0 []
    again : {a : Atom} {n : ℕ} {cs ds : List ℕ} → Takes a cs → IsRepeated a n ds → IsRepeated a (suc n) (cs ++ ds)

  pub data Takes : Atom → List ℕ → Type 0 where
    char : {c : ℕ} → Takes (atom.Char c) (c ∷ [])
    any : {c : ℕ} → c ≢ 0xA → c ≢ 0xD → Takes atom.Any (c ∷ [])
    class : {negated : Bool} {ms : List Member} {c : ℕ} → IsOfClass negated ms c → Takes (atom.Class negated ms) (c ∷ [])
    nested : {a : Atom} {cs : List ℕ} (r : Regex) → a ≡ atom.Nested r → Matches r cs → Takes a cs
