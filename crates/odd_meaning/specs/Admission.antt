-- Which documents a library admits. No pattern and no schema is spoken of.
use Rattle.std.specs.Prelude.{◌≡◌, ℕ, zero, suc, false, List, Some}
use Rattle.std.specs.FinMap.{find}
use Rattle.std.specs.List.{list_any}
use Rattle.std.specs.Str.{chars}
use Rattle.odd_text.specs.Key.{key_cmp}
use Rattle.odd_text.specs.Standing.{StandsIn}
use Rattle.odd_tree.specs.Elements.{texts_in}
use Rattle.odd_tree.specs.Significant.{IsSignificant, Marking, depth, is_element}
use Rattle.odd_tree.specs.declared.tree.Node.{Node}
use Rattle.odd_tree.specs.declared.tree.Tree.{Tree, out-Tree}
use Rattle.odd_content.specs.declared.content.Content.{Content}
use Rattle.odd_library.specs.Odd.{element_key}
use Rattle.odd_library.specs.declared.library.Component.TheVariants as component
use Rattle.odd_library.specs.declared.library.ElementPart.{ElementPart}
use Rattle.odd_library.specs.declared.library.Library.{Library}
use Rattle.odd_meaning.specs.Attributed.{AreAdmittedAttributes}
use Rattle.odd_meaning.specs.Conditions.{IsMetThroughout}
use Rattle.odd_meaning.specs.Contents as contents
use Rattle.odd_meaning.specs.Labels.{Label, condition, element}
use Rattle.odd_meaning.specs.Naming.{element_name}
use Rattle.odd_meaning.specs.Values.{IsDataValue}

-- The content admits the significant children, or, where no element stands among the children, it is data content that admits their text as one value.
pub data AreAdmitted (counts : Marking Label) (library : Library) (content : Content) (t : Tree) : Type 0 where
  children : (nodes : List Node) → IsSignificant (out-Tree t).children nodes → contents.Admits library counts content nodes → AreAdmitted counts library content t
  value : list_any is_element (out-Tree t).children ≡ false → IsDataValue library content (chars (texts_in (out-Tree t).children)) → AreAdmitted counts library content t

-- An element is valid for the held element of the ident, where each of its children is valid for those that it counts for.
pub record IsValidBy (counts : Marking Label) (library : Library) (t : Tree) (ident : List ℕ) : Type 0 where
  pub part : ElementPart
  pub held : find key_cmp (element_key ident) library.parts ≡ Some (component.Element part)
  pub named : (out-Tree t).name ≡ element_name ident part
  pub attributed : AreAdmittedAttributes library ident (out-Tree t).attrs
  pub admitted : AreAdmitted counts library part.content t

-- an element counts for the held elements for which it is valid, and for the conditions that it meets throughout
abbrev pub counting : (Tree → List ℕ → Type 0) → Marking Label
counting valid t (element ident) = valid t ident
counting valid t (condition c) = IsMetThroughout c t

-- by recursion on the depth
abbrev pub IsValidWithin : ℕ → Library → Tree → List ℕ → Type 0
IsValidWithin zero library t ident = ⊥
IsValidWithin (suc levels) library t ident = IsValidBy (counting (IsValidWithin levels library)) library t ident

abbrev pub IsValid : Library → Tree → List ℕ → Type 0
IsValid library t ident = IsValidWithin (depth t) library t ident

-- a start word names a held element for which the root is valid
pub record Admits (library : Library) (start : List (List ℕ)) (t : Tree) : Type 0 where
  pub word : List ℕ
  pub among : StandsIn start word
  pub valid : IsValid library t word
