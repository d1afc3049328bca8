-- The text of a library's schema, define by define (docs/schema.md).
use Rattle.std.specs.Prelude.{◌≡◌, ℕ, suc, zero, ◌-◌, if◌then◌else◌, List, [], ◌∷◌, ◌++◌, Option, Some, None, codes, filter, map, replicate}
use Rattle.std.specs.FinMap.{find}
use Rattle.std.specs.declared.cmp.Ordering.{Ordering}
use Rattle.odd_text.specs.Key.{key_cmp}
use Rattle.odd_text.specs.Text.{text_cmp}
use Rattle.odd_text.specs.declared.name.Name.{Name}
use Rattle.odd_text.specs.Same.{is_same}
use Rattle.odd_text.specs.Standing.{StandsIn}
use Rattle.odd_tree.specs.Markup.{Markup, element, file_printed, line, none}
use Rattle.odd_attributes.specs.declared.att_def.AttDef.{AttDef}
use Rattle.odd_attributes.specs.declared.att_def.Datatype.{Datatype}
use Rattle.odd_text.specs.Sorted.{IsSet}
use Rattle.odd_content.specs.ConditionOrder.{condition_cmp}
use Rattle.odd_content.specs.Picking.{is_picked}
use Rattle.odd_content.specs.declared.content.Condition.{Condition}
use Rattle.odd_content.specs.declared.content.Content.{Content, Empty, Text, Value, Vals, Element, Class, Macro, Any, Sequence', Alternate', Row_of-Content, end_of-Content, more_of-Content}
use Rattle.odd_content.specs.declared.content.Pick.{Pick}
use Rattle.odd_content.specs.declared.content.Pick.TheVariants as pick
use Rattle.odd_library.specs.Odd.{element_key}
use Rattle.odd_library.specs.declared.library.Component.TheVariants as component
use Rattle.odd_library.specs.declared.library.ElementPart.{ElementPart}
use Rattle.odd_library.specs.declared.library.Library.{Library}
use Rattle.odd_library.specs.declared.library.OtherPart.{OtherPart}
use Rattle.odd_meaning.specs.Classes.{AreMembers, Members}
use Rattle.odd_meaning.specs.Links.{datatype_key, macro_key}
use Rattle.odd_meaning.specs.Naming.{attribute_name, element_name}
use Rattle.odd_meaning.specs.Values.{bounds_of}
use Rattle.rng_emit.specs.Grammar.{all_of, named, param_markup, plain, type_name}
use Rattle.rng_grammar.specs.Names.{datatype_library, relax_ng_namespace}
use Rattle.rng_types.specs.declared.bounds.Bounds.{Bounds}
use Rattle.rng_types.specs.declared.item.Item.{Item}
use Rattle.rng_types.specs.declared.item.Item.TheVariants as item
use Rattle.rng_types.specs.declared.val_list.ListKind.{ListKind}
use Rattle.rng_types.specs.declared.val_list.ListKind.TheVariants as listing
use Rattle.rng_types.specs.declared.val_list.ValList.{ValList}
use Rattle.compile_defines.specs.Conditions.{IsConditionOf}
use Rattle.compile_defines.specs.Contents.{class_name, condition_name, define_name, holds_element, holds_macro, macro_name}
use Rattle.compile_defines.specs.Compiled.{AllOffers, AreAllOffers, spaces_left}
use Rattle.compile_defines.specs.Data.{datatype_name}

-- nothing, and what stands nowhere
abbrev empty : Markup
empty = plain (codes "empty") []

abbrev not_allowed : Markup
not_allowed = plain (codes "notAllowed") []

abbrev ref : List ℕ → Markup
ref name = named (codes "ref") name []

-- a group of no part is `empty`, a choice of none `notAllowed`, and either of one part is that part
abbrev pub group : List Markup → Markup
group [] = empty
group (m ∷ []) = m
group (m ∷ n ∷ ms) = plain (codes "group") (m ∷ n ∷ ms)

abbrev pub choice : List Markup → Markup
choice [] = not_allowed
choice (m ∷ []) = m
choice (m ∷ n ∷ ms) = plain (codes "choice") (m ∷ n ∷ ms)

-- what may stand after the least number of times
abbrev pub further : Markup → ℕ → Option ℕ → List Markup
further m min None = plain (codes "zeroOrMore") (m ∷ []) ∷ []
further m min (Some max) = replicate (max - min) (plain (codes "optional") (m ∷ []))

-- as often as bounds say
abbrev pub often_within : Markup → ℕ → Option ℕ → Markup
often_within m (suc zero) None = plain (codes "oneOrMore") (m ∷ [])
often_within m min max = group (replicate min m ++ further m min max)

abbrev pub often : Markup → Bounds → Markup
often m b = often_within m b.min b.max

-- a choice of refs to elements
abbrev pub refs : List (List ℕ) → Markup
refs idents = choice (map (λ ident. ref (define_name ident)) idents)

-- the class, or those of its members that are picked
abbrev pub members_markup : List ℕ → Pick → Option (List (List ℕ)) → Markup
members_markup key p None = not_allowed
members_markup key pick.All (Some idents) = ref (class_name key)
members_markup key (pick.Include words) (Some idents) = refs (filter (is_picked (pick.Include words)) idents)
members_markup key (pick.Except words) (Some idents) = refs (filter (is_picked (pick.Except words)) idents)

-- a datatype with its facets, or the define of a datatype
abbrev pub item_markup : Item → Markup
item_markup (item.Typed k facets) = element (codes "data") ((codes "type", type_name k) ∷ []) (all_of (map param_markup facets))
item_markup (item.Key key) = ref (datatype_name key)

-- the values of a closed list; one that is not closed restricts nothing
abbrev pub listed_markup : ListKind → List (List ℕ) → Markup → Markup
listed_markup listing.Closed values other = choice (map (line (codes "value") []) values)
listed_markup k values other = other

abbrev pub list_markup : ValList → Markup
list_markup list = listed_markup list.kind list.values (element (codes "data") ((codes "type", codes "string") ∷ []) none)

-- what tests a piece of an attribute's value: a closed list in the place of the datatype
abbrev pub datatype_markup : Option Datatype → Markup
datatype_markup None = plain (codes "text") []
datatype_markup (Some datatype) = item_markup datatype.item

abbrev pub piece_markup : Option Datatype → Option ValList → Markup
piece_markup datatype None = datatype_markup datatype
piece_markup datatype (Some list) = listed_markup list.kind list.values (datatype_markup datatype)

-- once it tests the whole value, and else the words of a list
abbrev pub pieces_markup : Markup → ℕ → Option ℕ → Markup
pieces_markup m (suc zero) (Some (suc zero)) = m
pieces_markup m min max = plain (codes "list") (often_within m min max ∷ [])

-- an attribute with its name in documents, and with its namespace where it has one; one that is not needed is optional
abbrev pub attribute_markup : List ℕ × AttDef → Markup
attribute_markup (ident, def) = element (codes "attribute")
    ((codes "name", (attribute_name ident def).local) ∷ (if is_same (attribute_name ident def).ns [] then [] else (codes "ns", (attribute_name ident def).ns) ∷ []))
    (all_of (pieces_markup (piece_markup def.datatype def.vals) (bounds_of def.datatype).min (bounds_of def.datatype).max ∷ []))

abbrev pub offer_markup : List ℕ × AttDef → Markup
offer_markup offer = if offer.1.needed then attribute_markup offer else plain (codes "optional") (attribute_markup offer ∷ [])

-- the content of a datatype: an item, a list of values, or an alternation of such; no other content allows a value
abbrev mutual
  pub data_markup : Content → Markup
  data_markup (Value i) = item_markup i
  data_markup (Vals list) = list_markup list
  data_markup (Alternate' shape parts b) = choice (data_parts_markup parts)
  data_markup Empty = not_allowed
  data_markup Text = not_allowed
  data_markup (Element key b) = not_allowed
  data_markup (Class key p b) = not_allowed
  data_markup (Macro key b) = not_allowed
  data_markup (Any c b) = not_allowed
  data_markup (Sequence' shape parts b) = not_allowed

  pub data_parts_markup : {n : _} → Row_of-Content n → List Markup
  data_parts_markup end_of-Content = []
  data_parts_markup (more_of-Content part parts) = data_markup part ∷ data_parts_markup parts

module _ (library : Library) (conditions : List Condition) (members : Members) where
  abbrev mutual
    pub content_markup : Content → Markup
    content_markup Empty = empty
    content_markup Text = plain (codes "text") []
    content_markup (Value i) = item_markup i
    content_markup (Vals list) = list_markup list
    content_markup (Element key b) = often (if holds_element library key then ref (define_name key) else not_allowed) b
    content_markup (Class key p b) = often (members_markup key p (members key)) b
    content_markup (Macro key b) = often (if holds_macro library key then ref (macro_name key) else not_allowed) b
    content_markup (Any c b) = often (ref (condition_name conditions c)) b
    content_markup (Sequence' shape parts b) = often (group (parts_markup parts)) b
    content_markup (Alternate' shape parts b) = often (choice (parts_markup parts)) b

    pub parts_markup : {n : _} → Row_of-Content n → List Markup
    parts_markup end_of-Content = []
    parts_markup (more_of-Content part parts) = content_markup part ∷ parts_markup parts

-- a namespace, and a name in one
abbrev pub space_markup : List ℕ → List Markup → Markup
space_markup space inside = element (codes "nsName") ((codes "ns", space) ∷ []) (all_of inside)

abbrev pub name_markup : Name → Markup
name_markup name = line (codes "name") ((codes "ns", name.ns) ∷ []) name.local

-- an `except`, where something is excepted
abbrev pub except : List Markup → List Markup
except [] = []
except (m ∷ ms) = plain (codes "except") (m ∷ ms) ∷ []

-- a required namespace without the names in it that are excepted
abbrev pub required_markup : Condition → List ℕ → Markup
required_markup c space = space_markup space (except (map name_markup (filter (λ name. is_same name.ns space) c.names)))

-- an element of these names, with any attributes, over texts and such elements
abbrev pub element_throughout : List ℕ → Markup → Markup
element_throughout name names = plain (codes "element") (names
    ∷ plain (codes "zeroOrMore") (plain (codes "attribute") (plain (codes "anyName") [] ∷ []) ∷ [])
    ∷ plain (codes "zeroOrMore") (plain (codes "choice") (plain (codes "text") [] ∷ ref name ∷ []) ∷ []) ∷ [])

-- in one of these namespaces, of which there may be none
abbrev pub within_spaces : List ℕ → List Markup → Markup
within_spaces name [] = not_allowed
within_spaces name (m ∷ ms) = element_throughout name (choice (m ∷ ms))

-- an element that meets the condition
abbrev pub condition_markup : List ℕ → Condition → List (List ℕ) → Markup
condition_markup name c [] = element_throughout name (plain (codes "anyName") (except (map (λ space. space_markup space []) c.spaces ++ map name_markup c.names)))
condition_markup name c (space ∷ spaces) = within_spaces name (map (required_markup c) (spaces_left c))

-- the name of a define, and what it holds
abbrev pub Held : Type 0
Held = List ℕ × Markup

-- an element with its name in documents, the attributes that it offers, and its content
abbrev pub element_markup : Library → List Condition → Members → List (List ℕ × AttDef) → List ℕ → ElementPart → Markup
element_markup library conditions members offers ident part = element (codes "element")
    ((codes "name", (element_name ident part).local) ∷ (codes "ns", part.ns) ∷ []) (all_of (map offer_markup offers ++ content_markup library conditions members part.content ∷ []))

-- the define of one of the conditions, of a class of type `model`, a datatype, an element or a macro that is held
pub data Defines (library : Library) (conditions : List Condition) (members : Members) (offers : AllOffers) (d : Held) : Type 0 where
  of_condition : (c : Condition) → StandsIn conditions c → d ≡ (condition_name conditions c, condition_markup (condition_name conditions c) c c.require)
      → Defines library conditions members offers d
  of_class : (ident : List ℕ) (idents : List (List ℕ)) → members ident ≡ Some idents → d ≡ (class_name ident, refs idents) → Defines library conditions members offers d
  of_datatype : (ident : List ℕ) (part : OtherPart) → find key_cmp (datatype_key ident) library.parts ≡ Some (component.Datatype part)
      → d ≡ (datatype_name ident, data_markup part.content) → Defines library conditions members offers d
  of_element : (ident : List ℕ) (part : ElementPart) → find key_cmp (element_key ident) library.parts ≡ Some (component.Element part)
      → d ≡ (define_name ident, element_markup library conditions members (offers ident) ident part) → Defines library conditions members offers d
  of_macro : (ident : List ℕ) (part : OtherPart) → find key_cmp (macro_key ident) library.parts ≡ Some (component.Macro part)
      → d ≡ (macro_name ident, content_markup library conditions members part.content) → Defines library conditions members offers d

-- in order of name
abbrev pub held_cmp : Held → Held → Ordering
held_cmp d e = text_cmp d.0 e.0

-- the start and the defines, in the namespace of RELAX NG
abbrev pub schema_markup : Markup → List Held → Markup
schema_markup start defines = element (codes "grammar") ((codes "xmlns", relax_ng_namespace) ∷ (codes "datatypeLibrary", datatype_library) ∷ [])
    (all_of (plain (codes "start") (start ∷ []) ∷ map (λ d. named (codes "define") d.0 (d.1 ∷ [])) defines))

-- the text of the schema of a library and a list of start words
pub record IsSchemaText (library : Library) (start : List (List ℕ)) (text : List ℕ) : Type 0 where
  pub conditions : List Condition
  pub are_conditions : IsSet condition_cmp (IsConditionOf library) conditions
  pub members : Members
  pub are_members : AreMembers library members
  pub offers : AllOffers
  pub are_offers : AreAllOffers library offers
  pub defines : List Held
  pub are_defines : IsSet held_cmp (Defines library conditions members offers) defines
  pub text_is : text ≡ file_printed (schema_markup (refs start) defines)
