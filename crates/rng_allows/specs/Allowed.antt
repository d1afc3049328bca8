-- Which texts a pattern of values allows, by their characters (ISO/IEC 19757-2, section 9.3; XML Schema, Part 2, sections 3 and 4.3).
use Rattle.std.specs.Prelude.{◌≡◌, ◌↔◌, ◌⊎◌, ℕ, All, Bool, IsTrue, List, [], ◌∷◌}
use Rattle.std.specs.Str.{chars}
use Rattle.odd_patterns.specs.Children.{is_marked}
use Rattle.odd_patterns.specs.Words.{Matches}
use Rattle.odd_patterns.specs.declared.pattern.Pat.{Pat}
use Rattle.rng_types.specs.Words.{words_of}
use Rattle.rng_types.specs.declared.data_type.DataType.{DataType}
use Rattle.rng_types.specs.declared.facet.Facet.{Facet}
use Rattle.rng_values.specs.Facets.{Meets}
use Rattle.rng_values.specs.Lexical.{Fits}
use Rattle.rng_values.specs.Treated.{collapsed, treated}
use Rattle.rng_allows.specs.declared.items.Items.{Items}
use Rattle.rng_allows.specs.declared.value_pattern.ValuePattern.{ValuePattern, Never, Any, Choice', Typed, Same, List', Row_of-ValuePattern, end_of-ValuePattern, more_of-ValuePattern}

-- the text is of the datatype, and once its white space is treated it meets each facet
abbrev pub IsTyped : DataType → List Facet → List ℕ → Type 0
IsTyped k facets cs = Fits k cs × All (λ f. Meets f (treated k cs)) facets

abbrev pub WordPattern : Type 0
WordPattern = Pat Items ℕ (List Bool)

-- words and their marks, one after another
abbrev pub AreEach : (List ℕ → List Bool → Type 0) → List (List ℕ) → List (List Bool) → Type 0
AreEach Marked [] [] = Unit {0}
AreEach Marked (word ∷ words) (of_word ∷ marks) = Marked word of_word × AreEach Marked words marks
AreEach Marked words marks = ⊥

-- a pattern over the words matches them, where each word has such marks
abbrev pub AreMatched : (List ℕ → List Bool → Type 0) → WordPattern → List (List ℕ) → Type 0
AreMatched Marked pat words = (marks : List (List Bool)) × AreEach Marked words marks × Matches (λ leaf symbol. is_marked symbol leaf) pat marks

abbrev mutual
  pub AllowedBy : ValuePattern → List ℕ → Type 0
  AllowedBy Never cs = ⊥
  AllowedBy Any cs = Unit {0}
  AllowedBy (Choice' x (more_of-ValuePattern p end_of-ValuePattern) y (more_of-ValuePattern q end_of-ValuePattern)) cs = AllowedBy p cs ⊎ AllowedBy q cs
  AllowedBy (Typed k facets) cs = IsTyped k facets cs
  AllowedBy (Same text) cs = collapsed (chars text) ≡ collapsed cs
  -- the list of the marks that the words have is matched
  AllowedBy (List' shape leaves pat) cs = AreMatched (HasMarks leaves) pat (words_of cs)

  -- a word has a mark for each leaf: whether that allows it
  pub HasMarks : {n : _} → Row_of-ValuePattern n → List ℕ → List Bool → Type 0
  HasMarks end_of-ValuePattern word [] = Unit {0}
  HasMarks (more_of-ValuePattern leaf leaves) word (mark ∷ marks) = (IsTrue mark ↔ AllowedBy leaf word) × HasMarks leaves word marks
  HasMarks leaves word marks = ⊥
