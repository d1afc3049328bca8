-- Whether two texts are the same, and whether a text is one of some words.
use Rattle.std.specs.Prelude.{ℕ, Bool, ◌==◌, List}
use Rattle.std.specs.Cmp.Lexicographic.{pointwise}
use Rattle.std.specs.List.{list_any}

abbrev pub is_same : List ℕ → List ℕ → Bool
is_same = pointwise ◌==◌

-- the text is one of the words
abbrev pub is_among : List (List ℕ) → List ℕ → Bool
is_among words text = list_any (is_same text) words
