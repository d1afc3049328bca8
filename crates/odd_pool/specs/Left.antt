-- What is left of patterns, as lists of positions.
use Rattle.std.specs.Prelude.{◌≡◌, ◌↔◌, ◌⊎◌, ◌<◌, ℕ, Bool, List, ◌∷◌, length}
use Rattle.std.specs.List.{All, Contains}
use Rattle.odd_patterns.specs.Pieces.{Then}
use Rattle.odd_pool.specs.Pattern.{Pattern, Fits}
use Rattle.odd_pool.specs.Pool.{pattern_at, Grows}
use Rattle.odd_pool.specs.declared.walk.Way.{Way}

-- the words that P holds of with s before them
abbrev pub After : {S : Type 0} → (List S → Type 0) → S → List S → Type 0
After P s v = P (s ∷ v)

-- one of the patterns at the positions matches the word
abbrev pub SomeFits : {L S : Type 0} → (L → S → Bool) → List (Pattern L) → List ℕ → List S → Type 0
SomeFits takes ps is v = (i : ℕ) × Contains is i × Fits takes (pattern_at ps i) v

-- the words that N holds of are those of O and those of X
abbrev pub Gains : {S : Type 0} → (List S → Type 0) → (List S → Type 0) → (List S → Type 0) → Type 0
Gains {S} N O X = (v : List S) → N v ↔ (O v ⊎ X v)

-- all positions are before the length
abbrev pub AllBelow : List ℕ → ℕ → Type 0
AllBelow is n = All (λ i. i < n) is

-- new has what old has, and x
abbrev pub HasOneMore : {X : Type 0} → List X → List X → X → Type 0
HasOneMore {X} old new x = (y : X) → Contains new y ↔ (Contains old y ⊎ (y ≡ x))

-- the word is left after s of the pattern at a position, with that at another behind it
abbrev pub IsLeftOf : {L S : Type 0} → (L → S → Bool) → S → List (Pattern L) → ℕ → ℕ → List S → Type 0
IsLeftOf takes s ps at rest v = Then (After (Fits takes (pattern_at ps at)) s) (Fits takes (pattern_at ps rest)) v

-- the positions gain what is left of the pattern at `at` after s, with that at `rest` behind it
abbrev pub Begun : {L S : Type 0} → (L → S → Bool) → S → List (Pattern L) → ℕ → ℕ → List ℕ → List ℕ → Type 0
Begun {L} {S} takes s now at rest old new = (ps : List (Pattern L)) → Grows now ps → Gains (SomeFits takes ps new) (SomeFits takes ps old) (IsLeftOf takes s ps at rest)

-- what is left by each way that was gone through is matched by a pattern at the positions
abbrev pub Covered : {L S : Type 0} → (L → S → Bool) → S → List (Pattern L) → List ℕ → List Way → Type 0
Covered {L} {S} takes s now members ways = (way : Way) → Contains ways way → (ps : List (Pattern L)) → Grows now ps → (v : List S) → IsLeftOf takes s ps way.at way.rest v → SomeFits takes ps members v

-- so the ways that were gone through need not be gone through again
abbrev pub IsWalk : {L S : Type 0} → (L → S → Bool) → S → List (Pattern L) → List ℕ → List Way → Type 0
IsWalk takes s now members ways = AllBelow members (length now) × Covered takes s now members ways

-- the pattern at the position matches the words that p does, whatever comes later
abbrev pub Stands : {L S : Type 0} → (L → S → Bool) → List (Pattern L) → ℕ → (List (Pattern L) → Pattern L) → Type 0
Stands {L} {S} takes now at p = (ps : List (Pattern L)) → Grows now ps → (w : List S) → Fits takes (pattern_at ps at) w ↔ Fits takes (p ps) w

-- it matches the words that one of the patterns at the positions does
abbrev pub StandsForSome : {L S : Type 0} → (L → S → Bool) → List (Pattern L) → ℕ → List ℕ → Type 0
StandsForSome {L} {S} takes now at is = (ps : List (Pattern L)) → Grows now ps → (w : List S) → Fits takes (pattern_at ps at) w ↔ SomeFits takes ps is w
