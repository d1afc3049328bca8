-- The conditions of `anyElement` in the contents of a library's components.
use Rattle.std.specs.Prelude.{List, [], ◌∷◌, ◌++◌, Option, Some, None}
use Rattle.odd_text.specs.declared.key.Key.{Key}
use Rattle.odd_text.specs.Standing.{StandsIn}
use Rattle.odd_content.specs.declared.content.Condition.{Condition}
use Rattle.odd_content.specs.declared.content.Content.{Content, Empty, Text, Value, Vals, Element, Class, Macro, Any, Sequence', Alternate', Row_of-Content, end_of-Content, more_of-Content}
use Rattle.odd_library.specs.Library.{content_of}
use Rattle.odd_library.specs.declared.library.Component.{Component}
use Rattle.odd_library.specs.declared.library.Library.{Library}

abbrev mutual
  -- the conditions in a content, at any depth
  pub conditions_in : Content → List Condition
  conditions_in Empty = []
  conditions_in Text = []
  conditions_in (Value item) = []
  conditions_in (Vals list) = []
  conditions_in (Element key b) = []
  conditions_in (Class key p b) = []
  conditions_in (Macro key b) = []
  conditions_in (Any c b) = c ∷ []
  conditions_in (Sequence' shape parts b) = conditions_in_parts parts
  conditions_in (Alternate' shape parts b) = conditions_in_parts parts

  pub conditions_in_parts : {n : _} → Row_of-Content n → List Condition
  conditions_in_parts end_of-Content = []
  conditions_in_parts (more_of-Content part parts) = conditions_in part ++ conditions_in_parts parts

-- those in the content of a component, where it has one
abbrev pub conditions_of : Option Content → List Condition
conditions_of None = []
conditions_of (Some content) = conditions_in content

-- the condition stands in the content of a held component
pub record IsConditionOf (library : Library) (c : Condition) : Type 0 where
  pub entry : Key × Component
  pub among : StandsIn library.parts entry
  pub holds : StandsIn (conditions_of (content_of entry.1)) c
