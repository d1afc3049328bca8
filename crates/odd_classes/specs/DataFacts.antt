-- What is kept of contents: whether they reach data, and whether they are data content.
use Rattle.std.specs.Prelude.{◌≡◌, ◌↔◌, ℕ, Bool, List, Some, IsTrue}
use Rattle.std.specs.FinMap.{find}
use Rattle.odd_text.specs.Text.{text_cmp}
use Rattle.odd_text.specs.Standing.{StandsIn}
use Rattle.odd_content.specs.declared.content.Content.{Content}
use Rattle.odd_library.specs.declared.library.Component.{Component}
use Rattle.odd_library.specs.declared.library.Library.{Library}
use Rattle.odd_meaning.specs.Data.{IsDataBy, IsLeast, OfMacros, ReachesBy, own_content}
use Rattle.odd_classes.specs.declared.data.DataFacts.{DataFacts}

-- by ident, what holds of macros
abbrev pub Facts : Type 0
Facts = List (List ℕ × DataFacts)

-- by the map the macro reaches data
abbrev pub TellsReaches : Facts → OfMacros
TellsReaches macros ident = (facts : DataFacts) × (find text_cmp ident macros ≡ Some facts) × IsTrue facts.reaches

-- by the map its content is data content
abbrev pub TellsData : Facts → OfMacros
TellsData macros ident = (facts : DataFacts) × (find text_cmp ident macros ≡ Some facts) × IsTrue facts.is_data

-- the facts hold of the content, as the map tells of macros
pub record HasFacts (macros : Facts) (content : Content) (facts : DataFacts) : Type 0 where
  pub reaches : IsTrue facts.reaches ↔ ReachesBy (TellsReaches macros) content
  pub is_data : IsTrue facts.is_data ↔ IsDataBy (TellsData macros) content

-- one of the parts reaches data, and each is data content
pub record HasFactsOfParts (macros : Facts) (parts : List Content) (facts : DataFacts) : Type 0 where
  pub reaches : IsTrue facts.reaches ↔ ((part : Content) × StandsIn parts part × ReachesBy (TellsReaches macros) part)
  pub is_data : IsTrue facts.is_data ↔ ((part : Content) → StandsIn parts part → IsDataBy (TellsData macros) part)

-- the map tells exactly what holds of the macros of the library
pub record AreFactsOf (library : Library) (macros : Facts) : Type 0 where
  pub reaches : (ident : List ℕ) → TellsReaches macros ident ↔ IsLeast ReachesBy library ident
  pub is_data : (ident : List ℕ) → TellsData macros ident ↔ IsLeast IsDataBy library ident

-- whether the content of an element or a macro reaches data and is not data content
abbrev pub IsMixedPart : Facts → Component → Bool → Type 0
IsMixedPart macros part answer = IsTrue answer
    ↔ ((content : Content) × (own_content part ≡ Some content) × ReachesBy (TellsReaches macros) content × (IsDataBy (TellsData macros) content → ⊥))
