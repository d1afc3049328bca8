-- So it holds of the data in a content, and of the values of attributes, where it holds of items, values and lists.
use Rattle.compile_defines.specs.Contents.{content_pattern}
use Rattle.odd_content.specs.declared.content.Condition.{Condition}
use Rattle.odd_content.specs.declared.content.Content.{Content, Empty, Text, Value, Vals, Element, Class, Macro, Any, Sequence', Alternate', Row_of-Content, end_of-Content, more_of-Content}
use Rattle.odd_library.specs.declared.library.Library.{Library}
use Rattle.odd_meaning.specs.Classes.{Members}
use Rattle.odd_text.specs.Standing.{StandsIn}
use Rattle.rng_grammar.specs.declared.grammar.Expr.{Expr}
use Rattle.rng_grammar.specs.declared.grammar.Expr.TheVariants as expr
use Rattle.compile_laws.proofs.Closed.{IsClosed, choice_good, repeated_good}
use Rattle.std.specs.Option.{IfSome}
use Rattle.odd_attributes.specs.Formed.{IsFormedDatatype, IsFormedDef}
use Rattle.odd_attributes.specs.declared.att_def.AttDef.{AttDef}
use Rattle.odd_attributes.specs.declared.att_def.Datatype.{Datatype}
use Rattle.compile_defines.specs.Data.{item_pattern, list_pattern, listed_pattern, piece_pattern, value_pattern, values_pattern}
use Rattle.odd_content.specs.Formed.{AreFormedWithin, IsFormedWithin}
use Rattle.odd_content.specs.FormedData.{IsFormedData, IsFormedList, IsListed}
use Rattle.odd_meaning.specs.Links.{datatype_key, named_by_datatype, named_by_item, named_in, named_in_parts}
use Rattle.odd_meaning.specs.Values.{bounds_of}
use Rattle.odd_text.proofs.InList.{contained, nothing_stands, only_item}
use Rattle.compile_defines.proofs.Standing.{each_stands, stands_either, stands_left, stands_right}
use Rattle.std.proofs.lemmas.List.Elements.{All-contains, All-map}
use Rattle.rng_types.specs.declared.data_type.DataType.TheVariants as kind
use Rattle.rng_types.specs.declared.item.Item.{Item}
use Rattle.rng_types.specs.declared.val_list.ListKind.{ListKind}
use Rattle.rng_types.specs.declared.val_list.ListKind.TheVariants as listing
use Rattle.rng_types.specs.declared.val_list.ValList.{ValList}
use Rattle.std.proofs.Common.{◌-◌, ℕ, List, [], Option, Some, None, map, sym, subst, ⊎_elim}
use Rattle.compile_laws.proofs.AttributeValueLaw.{IsOnceOrListed, by_bounds, is_listed, is_once}
use Rattle.compile_laws.proofs.Good.{data_in, data_in_parts}

-- it holds of the patterns of items that are formed and name such datatypes, of values of lists, and of lists of words
pub record IsGoodOfData (Good : Expr → Type 0) (Known : List ℕ → Type 0) : Type 0 where
  pub items : (i : Item) → IsFormedData i → ((key : List ℕ) → StandsIn (named_by_item i) (datatype_key key) → Known key) → Good (item_pattern i)
  pub values : (value : List ℕ) → IsListed value → Good (expr.Same value)
  pub strings : Good (expr.Typed kind.String [])
  pub lists : (p : Expr) → Good p → Good (expr.List p)

module _ (Good : Expr → Type 0) (closed : IsClosed Good) (text : Good expr.Text) (library : Library) (conditions : List Condition) (members : Members) (Known : List ℕ → Type 0)
    (of_data : IsGoodOfData Good Known) where
  -- so of the values of a list
  values_good : (list : ValList) → IsFormedList list → Good (values_pattern list.values)
  values_good list f =
      choice_good Good closed (map expr.Same list.values)
      (All-map Good expr.Same list.values (each_stands (λ v. Good (expr.Same v)) list.values (λ v s. of_data.values v (All-contains IsListed list.values v f.listed (contained list.values v s)))))

  list_good : (list : ValList) → IsFormedList list → Good (list_pattern list)
  list_good list f = by list.kind
    where
      by : (k : ListKind) → Good (listed_pattern k list.values)
      by listing.Closed = values_good list f
      by listing.Semi = of_data.strings
      by listing.Open = of_data.strings

  mutual
    -- and of the data in a formed content that names such datatypes
    pub data_good : (left : ℕ) (c : Content) → IsFormedWithin left c → ((key : List ℕ) → StandsIn (named_in c) (datatype_key key) → Known key)
        → (leaf : Content) → StandsIn (data_in c) leaf → Good (content_pattern library conditions members leaf)
    data_good left (Value item) f held leaf s = subst (λ x. Good (content_pattern library conditions members x)) (sym (only_item (Value item) leaf s)) (of_data.items item f held)
    data_good left (Vals list) f held leaf s = subst (λ x. Good (content_pattern library conditions members x)) (sym (only_item (Vals list) leaf s)) (list_good list f)
    data_good left (Sequence' shape parts b) f held leaf s = parts_data_good (left - 1) parts f.1 held leaf s
    data_good left (Alternate' shape parts b) f held leaf s = parts_data_good (left - 1) parts f.1 held leaf s
    data_good left Empty f held leaf s = absurd (nothing_stands leaf s)
    data_good left Text f held leaf s = absurd (nothing_stands leaf s)
    data_good left (Element key b) f held leaf s = absurd (nothing_stands leaf s)
    data_good left (Class key p b) f held leaf s = absurd (nothing_stands leaf s)
    data_good left (Macro key b) f held leaf s = absurd (nothing_stands leaf s)
    data_good left (Any c b) f held leaf s = absurd (nothing_stands leaf s)

    parts_data_good : {n : _} (left : ℕ) (parts : Row_of-Content n) → AreFormedWithin left parts
        → ((key : List ℕ) → StandsIn (named_in_parts parts) (datatype_key key) → Known key)
        → (leaf : Content) → StandsIn (data_in_parts parts) leaf → Good (content_pattern library conditions members leaf)
    parts_data_good left end_of-Content f held leaf s = absurd (nothing_stands leaf s)
    parts_data_good left (more_of-Content part parts) f held leaf s =
        let names = named_in part in
        let others = named_in_parts parts in
        ⊎_elim (λ a. data_good left part f.0 (λ key t. held key (stands_left names others (datatype_key key) t)) leaf a)
        (λ b. parts_data_good left parts f.1 (λ key t. held key (stands_right names others (datatype_key key) t)) leaf b)
        (stands_either (data_in part) (data_in_parts parts) leaf s)

  -- what tests a piece of an attribute's value
  datatype_good : (o : Option Datatype) → IfSome o IsFormedDatatype → ((key : List ℕ) → StandsIn (named_by_datatype o) (datatype_key key) → Known key) → Good (piece_pattern o None)
  datatype_good None f held = text
  datatype_good (Some d) f held = of_data.items d.item f.item held

  piece_good : (o : Option Datatype) (vals : Option ValList) → Good (piece_pattern o None) → IfSome vals IsFormedList → Good (piece_pattern o vals)
  piece_good o None h f = h
  piece_good o (Some list) h f = by list.kind
    where
      by : (k : ListKind) → Good (piece_pattern o (Some (record { kind = k; values = list.values })))
      by listing.Closed = values_good list f
      by listing.Semi = h
      by listing.Open = h

  -- and so of the pattern of a formed attribute's value
  pub value_good : (def : AttDef) → IsFormedDef def → ((key : List ℕ) → StandsIn (named_by_datatype def.datatype) (datatype_key key) → Known key) → Good (value_pattern def)
  value_good def f known =
      let piece = piece_pattern def.datatype def.vals in
      let b = bounds_of def.datatype in
      by (by_bounds piece b.min b.max) (piece_good def.datatype def.vals (datatype_good def.datatype f.datatype known) f.vals)
    where
      by : IsOnceOrListed (piece_pattern def.datatype def.vals) (bounds_of def.datatype) → Good (piece_pattern def.datatype def.vals) → Good (value_pattern def)
      by (is_once e p) h = subst Good (sym p) h
      by (is_listed other p) h = subst Good (sym p) (of_data.lists _ (repeated_good Good closed (piece_pattern def.datatype def.vals) (bounds_of def.datatype) h))
