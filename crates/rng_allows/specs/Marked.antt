-- The same of a list of patterns of values.
use Rattle.std.specs.Prelude.{◌↔◌, ℕ, Bool, IsTrue, List, [], ◌∷◌}
use Rattle.rng_allows.specs.Allowed.{AllowedBy, AreMatched, WordPattern}
use Rattle.rng_allows.specs.declared.value_pattern.ValuePattern.{ValuePattern}

-- a word has a mark for each leaf: whether that allows it
abbrev pub IsMarked : List ValuePattern → List ℕ → List Bool → Type 0
IsMarked [] word [] = Unit {0}
IsMarked (leaf ∷ leaves) word (mark ∷ marks) = (IsTrue mark ↔ AllowedBy leaf word) × IsMarked leaves word marks
IsMarked leaves word marks = ⊥

-- a pattern over the words matches them
abbrev pub AreWordsAllowed : List ValuePattern → WordPattern → List (List ℕ) → Type 0
AreWordsAllowed leaves = AreMatched (IsMarked leaves)
