-- The items of a file, each with the element of the table that it is.
use Rattle.std.specs.Prelude.{◌≡◌, ℕ, Option, Some, None, codes, IsTrue}
use Rattle.odd_text.specs.declared.key.Key.{Key}
use Rattle.odd_text.specs.declared.key.Kind.{Kind}
use Rattle.odd_text.specs.declared.key.Kind.TheVariants as kind
use Rattle.odd_tokens.specs.Characters.{IsNCName}
use Rattle.odd_tree.specs.Elements.{given}
use Rattle.odd_tree.specs.declared.tree.Tree.{Tree, out-Tree}
use Rattle.odd_forms.specs.Children.{IsChild}
use Rattle.odd_forms.specs.Faults.{child_in}
use Rattle.odd_forms.specs.Names.{is_one_of}
use Rattle.odd_forms.specs.Table.{form_at}
use Rattle.odd_forms.specs.declared.element.Element.{Element}
use Rattle.odd_forms.specs.declared.element.Element.TheVariants as element
use Rattle.odd_items.specs.Groups.{group_names}
use Rattle.odd_items.specs.Search.{Found}
use Rattle.odd_items.specs.declared.listing.Item.{Item}

-- the item is an element of the table that a `schemaSpec` may have; a group is none of these, since its children are items by themselves
abbrev pub IsItem : Element → Tree → Type 0
IsItem e item = IsChild element.SchemaSpec e item × (IsTrue (is_one_of group_names item) → ⊥)

-- the kind of the component that such an item declares
abbrev pub kind_declared : Element → Option Kind
kind_declared element.ElementSpec = Some kind.Element
kind_declared element.ClassSpec = Some kind.Class
kind_declared element.MacroSpec = Some kind.Macro
kind_declared element.DataSpec = Some kind.Datatype
kind_declared e = None

-- the item declares the component of this key
pub record IsSpecOf (key : Key) (item : Tree) : Type 0 where
  pub element : Element
  pub is_item : IsItem element item
  pub of_kind : kind_declared element ≡ Some key.kind
  pub ident : given item (codes "ident") ≡ Some key.ident
  pub named : IsNCName key.ident

-- where an element begins
abbrev pub at_of : Found → ℕ
at_of f = (out-Tree f.element).at

-- the element that an item is, as an item of a `schemaSpec`
abbrev pub IsTold : Item → Type 0
IsTold item = item.element ≡ child_in (form_at element.SchemaSpec) item.tree.now
