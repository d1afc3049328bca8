-- Classes of the dialect of patterns (XML Schema, Part 2, appendix F.1): which characters spell which class. Each relation says that characters begin with a
-- spelling, and what comes after it.
use Rattle.std.specs.Prelude.{◌≡◌, ◌≤◌, ℕ, Bool, false, true, ◌==◌, not, List, [], ◌∷◌, codes, IsTrue}
use Rattle.std.specs.List.{list_any}
use Rattle.rng_dialect.specs.declared.regex.Member.{Member}
use Rattle.rng_dialect.specs.declared.regex.Member.TheVariants as member

abbrev pub is_one_of : List ℕ → ℕ → Bool
is_one_of cs c = list_any (λ d. d == c) cs

-- one that may stand after `\`, and stands for itself there
abbrev pub is_escaped : ℕ → Bool
is_escaped c = is_one_of (codes ".\\?*+{}()[]|-^") c

-- one that stands for itself in a class
abbrev pub is_plain_member : ℕ → Bool
is_plain_member c = not (is_one_of (codes "[]\\-") c)

abbrev pub backslash : ℕ
backslash = 0x5C

abbrev pub hyphen : ℕ
hyphen = 0x2D

-- a character, as it is or after `\`
pub data IsSingle : List ℕ → ℕ → (rest : List ℕ) → Type 0 where
  plain : {c : ℕ} {rest : List ℕ} → IsTrue (is_plain_member c) → IsSingle (c ∷ rest) c rest
  escaped : {b c : ℕ} {rest : List ℕ} → b ≡ backslash → IsTrue (is_escaped c) → IsSingle (b ∷ c ∷ rest) c rest

-- a single character, or those from one to another
pub data IsMember : List ℕ → Member → (rest : List ℕ) → Type 0 where
  single : {cs : List ℕ} {c : ℕ} {rest : List ℕ} → IsSingle cs c rest → IsMember cs (member.Char c) rest
  range : {cs ds : List ℕ} {h low high : ℕ} {rest : List ℕ} → IsSingle cs low (h ∷ ds) → h ≡ hyphen → IsSingle ds high rest → low ≤ high → IsMember cs (member.Range low high) rest

-- what closes the class
pub data IsClosed : List ℕ → (rest : List ℕ) → Type 0 where
  closed : {c : ℕ} {rest : List ℕ} → c ≡ 0x5D → IsClosed (c ∷ rest) rest

-- members up to the end of the class. A `-` may be the last of them
pub data AreMembers : List ℕ → List Member → (rest : List ℕ) → Type 0 where
  last : {cs ds : List ℕ} {m : Member} {rest : List ℕ} → IsMember cs m ds → IsClosed ds rest → AreMembers cs (m ∷ []) rest
  last_hyphen : {cs ds : List ℕ} {h : ℕ} {m : Member} {rest : List ℕ} → IsMember cs m (h ∷ ds) → h ≡ hyphen → IsClosed ds rest → AreMembers cs (m ∷ member.Char hyphen ∷ []) rest
  more : {cs ds : List ℕ} {m : Member} {ms : List Member} {rest : List ℕ} → IsMember cs m ds → AreMembers ds ms rest → AreMembers cs (m ∷ ms) rest

-- and so may the first be
pub data AreListed : List ℕ → List Member → (rest : List ℕ) → Type 0 where
  members : {cs : List ℕ} {ms : List Member} {rest : List ℕ} → AreMembers cs ms rest → AreListed cs ms rest
  one_hyphen : {h : ℕ} {cs rest : List ℕ} → h ≡ hyphen → IsClosed cs rest → AreListed (h ∷ cs) (member.Char hyphen ∷ []) rest
  two_hyphens : {h i : ℕ} {cs rest : List ℕ} → h ≡ hyphen → i ≡ hyphen → IsClosed cs rest → AreListed (h ∷ i ∷ cs) (member.Char hyphen ∷ member.Char hyphen ∷ []) rest
  first_hyphen : {h : ℕ} {cs : List ℕ} {ms : List Member} {rest : List ℕ} → h ≡ hyphen → AreMembers cs ms rest → AreListed (h ∷ cs) (member.Char hyphen ∷ ms) rest

-- the sign of the complement, which `^` is wherever it is the first
abbrev pub sign : ℕ
sign = 0x5E

abbrev pub BeginsWithSign : List ℕ → Type 0
BeginsWithSign [] = ⊥
BeginsWithSign (c ∷ cs) = c ≡ sign

-- what stands between `[` and `]`, with the `]`
pub data IsClass : List ℕ → (negated : Bool) → List Member → (rest : List ℕ) → Type 0 where
  of_members : {cs : List ℕ} {ms : List Member} {rest : List ℕ} → (BeginsWithSign cs → ⊥) → AreListed cs ms rest → IsClass cs false ms rest
  of_others : {c : ℕ} {cs : List ℕ} {ms : List Member} {rest : List ℕ} → c ≡ sign → AreListed cs ms rest → IsClass (c ∷ cs) true ms rest
