-- The alphabet of the characters with each atom as a set of spans.
use Rattle.std.specs.Prelude.{ℕ, Bool, false, true, not, List, Option, Some, None, slice_get}
use Rattle.rng_matching.specs.Chars.{is_of_spans}
use Rattle.rng_matching.specs.declared.searched.Set.{Set}
use Rattle.rng_matching.specs.declared.spans.Span.{Span}

-- whether the character is one of the spans', or of none of them
abbrev pub is_of_either : Bool → List Span → ℕ → Bool
is_of_either false spans c = is_of_spans spans c
is_of_either true spans c = not (is_of_spans spans c)

abbrev pub is_of_set : Set → ℕ → Bool
is_of_set set c = is_of_either set.negated set.spans c

abbrev pub leaf_has : Option Set → ℕ → Bool
leaf_has None c = false
leaf_has (Some set) c = is_of_set set c

-- a leaf takes what is of the set of its number, and nothing where there is none
abbrev pub admits : List Set → (leaf symbol : ℕ) → Bool
admits sets leaf symbol = leaf_has (slice_get sets leaf) symbol
