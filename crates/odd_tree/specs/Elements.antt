-- What stands in a tree: the elements among the children of an element, their texts, and the value of an attribute.
use Rattle.std.specs.Prelude.{ℕ, Bool, ◌&&◌, if◌then◌else◌, List, [], ◌∷◌, ◌++◌, Option, Some, None}
use Rattle.odd_text.specs.declared.name.Bind.{Bind}
use Rattle.odd_text.specs.Same.{is_same}
use Rattle.odd_text.specs.Standing.{StandsIn}
use Rattle.odd_tree.specs.declared.tree.Attr.{Attr}
use Rattle.odd_tree.specs.declared.tree.Tree.{Tree, out-Tree}
use Rattle.odd_tree.specs.declared.tree.Node.{Node, Node-F, out-Node}
use Rattle.odd_tree.specs.declared.tree.Node.TheOpen.{Element, Text}

-- the element that a child is, if it is one
abbrev pub shown_elements : Node-F Node Tree → List Tree
shown_elements (Element t) = t ∷ []
shown_elements (Text x) = []

-- the elements among the children
abbrev pub elements_of : List Node → List Tree
elements_of [] = []
elements_of (n ∷ ns) = shown_elements (out-Node n) ++ elements_of ns

abbrev pub children_of : Tree → List Tree
children_of t = elements_of (out-Tree t).children

-- the text that a child is, if it is one
abbrev pub shown_text : Node-F Node Tree → List ℕ
shown_text (Element t) = []
shown_text (Text text) = text

-- the texts among the children, one after the other
abbrev pub texts_in : List Node → List ℕ
texts_in [] = []
texts_in (n ∷ ns) = shown_text (out-Node n) ++ texts_in ns

-- the text of an element, without that of the elements in it
abbrev pub text_of : Tree → List ℕ
text_of t = texts_in (out-Tree t).children

-- the attribute has the local name, and no namespace
abbrev pub is_named : Attr → List ℕ → Bool
is_named a local = is_same a.name.ns [] && is_same a.name.local local

-- the value of an attribute without a namespace
abbrev pub attribute_value : List Attr → List ℕ → Option (List ℕ)
attribute_value [] local = None
attribute_value (a ∷ rest) local = if is_named a local then Some a.value else attribute_value rest local

-- the value that an element gives for it
abbrev pub given : Tree → List ℕ → Option (List ℕ)
given t local = attribute_value (out-Tree t).attrs local

-- the declarations of several levels, the outermost first
abbrev pub all_binds : List (List Bind) → List Bind
all_binds [] = []
all_binds (binds ∷ levels) = binds ++ all_binds levels

-- the declarations in force in an element, under those around it
abbrev pub within : List Bind → Tree → List Bind
within around t = around ++ (out-Tree t).binds

-- the element itself, or one inside it
pub data StandsWithin : Tree → Tree → Type 0 where
  itself : {t : Tree} → StandsWithin t t
  inside : {t u : Tree} (child : Tree) → StandsIn (children_of t) child → StandsWithin child u → StandsWithin t u
