-- What a matcher matches by: the sets of its atoms, and a pattern over the characters.
use Rattle.std.specs.Prelude.{◌↔◌, ◌++◌, ℕ, Bool, List}
use Rattle.odd_pool.specs.Pattern.{Pattern, Fits}
use Rattle.rng_matching.specs.Searched.{admits}
use Rattle.rng_matching.specs.declared.searched.Set.{Set}

-- the characters match
abbrev pub IsMatchedBy : List Set × Pattern ℕ → List ℕ → Type 0
IsMatchedBy (sets, pattern) cs = Fits (admits sets) pattern cs

-- what one pattern matches after some symbols, the other matches
abbrev pub LeadsTo : {L S : Type 0} → (L → S → Bool) → Pattern L → List S → Pattern L → Type 0
LeadsTo {L} {S} takes p w d = (v : List S) → Fits takes d v ↔ Fits takes p (w ++ v)
