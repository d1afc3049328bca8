-- The patterns of data: of items, of lists of values, of datatypes, and of the values of attributes, where `d.KEY` is the define of the datatype KEY.
use Rattle.std.specs.Prelude.{◌++◌, ℕ, zero, suc, List, [], ◌∷◌, Option, Some, None, codes, map}
use Rattle.rng_types.specs.declared.bounds.Bounds.{Bounds}
use Rattle.rng_types.specs.declared.data_type.DataType.TheVariants as kind
use Rattle.rng_types.specs.declared.item.Item.{Item}
use Rattle.rng_types.specs.declared.item.Item.TheVariants as items
use Rattle.rng_types.specs.declared.val_list.ListKind.{ListKind}
use Rattle.rng_types.specs.declared.val_list.ListKind.TheVariants as listing
use Rattle.rng_types.specs.declared.val_list.ValList.{ValList}
use Rattle.odd_content.specs.declared.content.Content.{Content, Empty, Text, Value, Vals, Element, Class, Macro, Any, Sequence', Alternate', Row_of-Content, end_of-Content, more_of-Content}
use Rattle.odd_attributes.specs.declared.att_def.AttDef.{AttDef}
use Rattle.odd_attributes.specs.declared.att_def.Datatype.{Datatype}
use Rattle.odd_meaning.specs.Values.{bounds_of}
use Rattle.rng_grammar.specs.Denoting.{read_as}
use Rattle.rng_grammar.specs.declared.grammar.Expr.{Expr}
use Rattle.rng_grammar.specs.declared.grammar.Expr.TheVariants as expr
use Rattle.compile_defines.specs.Repeating.{choice_pattern, repeated_within}

-- the name of the define of a datatype
abbrev pub datatype_name : List ℕ → List ℕ
datatype_name ident = codes "d." ++ ident

-- a datatype with its facets, where no link between an ID and an IDREF is asked; or a reference
abbrev pub item_pattern : Item → Expr
item_pattern (items.Typed k facets) = expr.Typed (read_as k) facets
item_pattern (items.Key key) = expr.Ref (datatype_name key)

-- a choice of values
abbrev pub values_pattern : List (List ℕ) → Expr
values_pattern values = choice_pattern (map expr.Same values)

-- a list that is not closed restricts nothing
abbrev pub listed_pattern : ListKind → List (List ℕ) → Expr
listed_pattern listing.Closed values = values_pattern values
listed_pattern k values = expr.Typed kind.String []

abbrev pub list_pattern : ValList → Expr
list_pattern list = listed_pattern list.kind list.values

-- the content of a datatype: an item, a list of values, or an alternation of such, once; no other content allows a value
abbrev mutual
  pub data_pattern : Content → Expr
  data_pattern (Value item) = item_pattern item
  data_pattern (Vals list) = list_pattern list
  data_pattern (Alternate' shape parts b) = choice_pattern (data_patterns parts)
  data_pattern Empty = expr.NotAllowed
  data_pattern Text = expr.NotAllowed
  data_pattern (Element key b) = expr.NotAllowed
  data_pattern (Class key p b) = expr.NotAllowed
  data_pattern (Macro key b) = expr.NotAllowed
  data_pattern (Any c b) = expr.NotAllowed
  data_pattern (Sequence' shape parts b) = expr.NotAllowed

  pub data_patterns : {n : _} → Row_of-Content n → List Expr
  data_patterns end_of-Content = []
  data_patterns (more_of-Content part parts) = data_pattern part ∷ data_patterns parts

-- what tests a piece of an attribute's value, where there is something
abbrev of_datatype : Option Datatype → Expr
of_datatype None = expr.Text
of_datatype (Some datatype) = item_pattern datatype.item

abbrev of_list : ListKind → List (List ℕ) → Option Datatype → Expr
of_list listing.Closed values datatype = values_pattern values
of_list k values datatype = of_datatype datatype

-- a closed list takes the place of the datatype's item
abbrev pub piece_pattern : Option Datatype → Option ValList → Expr
piece_pattern datatype None = of_datatype datatype
piece_pattern datatype (Some list) = of_list list.kind list.values datatype

-- once it tests the whole value, and else the words of a list
abbrev pieces_within : Expr → ℕ → Option ℕ → Expr
pieces_within piece (suc zero) (Some (suc zero)) = piece
pieces_within piece min max = expr.List (repeated_within piece min max)

abbrev pub pieces_pattern : Expr → Bounds → Expr
pieces_pattern piece b = pieces_within piece b.min b.max

abbrev pub value_pattern : AttDef → Expr
value_pattern def = pieces_pattern (piece_pattern def.datatype def.vals) (bounds_of def.datatype)
