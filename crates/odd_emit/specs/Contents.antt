-- The elements of a merged ODD that stand for content models, data and lists of values.
use Rattle.std.specs.Prelude.{ℕ, Bool, false, ◌&&◌, ◌||◌, ◌==◌, ◌+◌, ◌/◌, ◌%◌, nat_lt, not, suc, zero, if◌then◌else◌, List, [], ◌∷◌, ◌++◌, map, Option, Some, None, codes}
use Rattle.odd_text.specs.declared.name.Name.{Name}
use Rattle.odd_text.specs.Same.{is_same}
use Rattle.odd_tree.specs.Markup.{Markup, Pair}
use Rattle.odd_tree.specs.Names.{xml_namespace}
use Rattle.rng_types.specs.declared.bounds.Bounds.{Bounds}
use Rattle.rng_types.specs.declared.data_type.DataType.{DataType}
use Rattle.rng_types.specs.declared.data_type.DataType.TheVariants as kind
use Rattle.rng_types.specs.declared.facet.Facet.{Facet}
use Rattle.rng_types.specs.declared.item.Item.{Item}
use Rattle.rng_types.specs.declared.item.Item.TheVariants as item
use Rattle.rng_types.specs.declared.val_list.ListKind.{ListKind}
use Rattle.rng_types.specs.declared.val_list.ListKind.TheVariants as list
use Rattle.rng_types.specs.declared.val_list.ValList.{ValList}
use Rattle.rng_emit.specs.Grammar.{facet_name}
use Rattle.odd_content.specs.declared.content.Condition.{Condition}
use Rattle.odd_content.specs.declared.content.Content.{Content, Empty, Text, Value, Vals, Element, Class, Macro, Any, Sequence', Alternate', Row_of-Content, end_of-Content, more_of-Content}
use Rattle.odd_content.specs.declared.content.Pick.{Pick}
use Rattle.odd_content.specs.declared.content.Pick.TheVariants as pick
use Rattle.odd_emit.specs.Saying as say
use Rattle.odd_emit.specs.Saying.{Said, a_greatest, a_name, a_number, a_text, a_word, says, says_if, some_names, some_words, spoken, spoken_with}

abbrev pub key_said : List ℕ → Said
key_said key = says (codes "key") (a_name key)

-- how often a part may stand, always written
abbrev pub bounds_said : Bounds → List Said
bounds_said b = says (codes "minOccurs") (a_number b.min) ∷ says (codes "maxOccurs") (a_greatest b.max) ∷ []

-- but on a reference to a macro only where it is not once
abbrev pub is_one : Option ℕ → Bool
is_one None = false
is_one (Some n) = n == 1

abbrev pub is_once : Bounds → Bool
is_once b = b.min == 1 && is_one b.max

abbrev pub bounds_unless_once : Bounds → List Said
bounds_unless_once b = if is_once b then [] else bounds_said b

-- which members of a class a reference names, where not all
abbrev pub included : Pick → Option say.Value
included pick.All = None
included (pick.Include words) = Some (some_names words)
included (pick.Except words) = None

abbrev pub excepted : Pick → Option say.Value
excepted pick.All = None
excepted (pick.Include words) = None
excepted (pick.Except words) = Some (some_names words)

abbrev pub pick_said : Pick → List Said
pick_said p = says_if (codes "include") (included p) ∷ says_if (codes "except") (excepted p) ∷ []

-- Names that a condition excepts stand by prefixes. XML's namespace has its own, and each other one is declared where its first name stands,
-- with the next number. So there are, before a name, the namespace of the name before it and the number of namespaces so far.
abbrev pub begins : (before ns : List ℕ) → Bool
begins before ns = not (is_same ns before || is_same ns xml_namespace)

abbrev pub number_at : (before ns : List ℕ) → ℕ → ℕ
number_at before ns count = if begins before ns then suc count else count

-- A number has no more digits than it says and one. They stand before what is put behind them.
abbrev pub digits_before : (most number : ℕ) → List ℕ → List ℕ
digits_before zero number behind = behind
digits_before (suc most) number behind = if nat_lt number 10 then (0x30 + number) ∷ behind else digits_before most (number / 10) ((0x30 + number % 10) ∷ behind)

abbrev pub prefix : ℕ → List ℕ
prefix number = codes "n" ++ digits_before (suc number) number []

abbrev pub prefix_if : Bool → ℕ → List ℕ → List Pair
prefix_if is_new number ns = if is_new then (prefix number, ns) ∷ [] else []

abbrev pub prefixes_from : List ℕ → ℕ → List Name → List Pair
prefixes_from before count [] = []
prefixes_from before count (name ∷ names) =
    let number = number_at before name.ns count in
    prefix_if (begins before name.ns) number name.ns ++ prefixes_from name.ns number names

abbrev pub prefix_for : ℕ → List ℕ → List ℕ
prefix_for number ns = if is_same ns xml_namespace then codes "xml" else prefix number

abbrev pub prefixed : ℕ → Name → List ℕ
prefixed number name = prefix_for number name.ns ++ codes ":" ++ name.local

abbrev pub prefixed_from : List ℕ → ℕ → List Name → List (List ℕ)
prefixed_from before count [] = []
prefixed_from before count (name ∷ names) =
    let number = number_at before name.ns count in
    prefixed number name ∷ prefixed_from name.ns number names

abbrev pub prefixes_of : Condition → List Pair
prefixes_of c = prefixes_from xml_namespace zero c.names

-- words, where there are some
abbrev pub words_value : List (List ℕ) → Option say.Value
words_value [] = None
words_value (word ∷ words) = Some (some_words (word ∷ words))

-- the words of `except`: namespaces and then names
abbrev pub except_words : Condition → List (List ℕ)
except_words c = c.spaces ++ prefixed_from xml_namespace zero c.names

abbrev pub condition_said : Condition → List Said
condition_said c = says_if (codes "require") (words_value c.require) ∷ says_if (codes "except") (words_value (except_words c)) ∷ []

-- the name of a datatype of XML Schema
abbrev pub type_name : DataType → List ℕ
type_name kind.String = codes "string"
type_name kind.NormalizedString = codes "normalizedString"
type_name kind.Token = codes "token"
type_name kind.Nmtoken = codes "NMTOKEN"
type_name kind.Name = codes "Name"
type_name kind.NcName = codes "NCName"
type_name kind.Id = codes "ID"
type_name kind.Idref = codes "IDREF"
type_name kind.Language = codes "language"
type_name kind.AnyUri = codes "anyURI"
type_name kind.Boolean = codes "boolean"
type_name kind.Integer = codes "integer"
type_name kind.NonNegativeInteger = codes "nonNegativeInteger"
type_name kind.PositiveInteger = codes "positiveInteger"
type_name kind.Decimal = codes "decimal"

-- a reference to a datatype, by its key or by its name with facets
abbrev pub facet_markup : Facet → Markup
facet_markup f = spoken (codes "dataFacet") (says (codes "name") (a_text (facet_name f.name)) ∷ says (codes "value") (a_text f.value) ∷ []) []

abbrev pub item_markup : Item → Markup
item_markup (item.Key key) = spoken (codes "dataRef") (key_said key ∷ []) []
item_markup (item.Typed k facets) = spoken (codes "dataRef") (says (codes "name") (a_text (type_name k)) ∷ []) (map facet_markup facets)

-- a list of values
abbrev pub list_word : ListKind → List ℕ
list_word list.Closed = codes "closed"
list_word list.Semi = codes "semi"
list_word list.Open = codes "open"

abbrev pub type_said : ListKind → Said
type_said k = says (codes "type") (a_word (list_word k))

abbrev pub mode_said : List ℕ → Said
mode_said word = says (codes "mode") (a_word word)

abbrev pub value_markup : List ℕ → Markup
value_markup value = spoken (codes "valItem") (says (codes "ident") (a_text value) ∷ []) []

abbrev pub list_markup : ValList → Markup
list_markup l = spoken (codes "valList") (type_said l.kind ∷ mode_said (codes "add") ∷ []) (map value_markup l.values)

-- each part of a content model is the element of its name
abbrev mutual
  pub part_markup : Content → Markup
  part_markup Empty = spoken (codes "empty") [] []
  part_markup Text = spoken (codes "textNode") [] []
  part_markup (Value item) = item_markup item
  part_markup (Vals values) = list_markup values
  part_markup (Element key b) = spoken (codes "elementRef") (key_said key ∷ bounds_said b) []
  part_markup (Class key p b) = spoken (codes "classRef") (key_said key ∷ pick_said p ++ bounds_said b) []
  part_markup (Macro key b) = spoken (codes "macroRef") (key_said key ∷ bounds_unless_once b) []
  part_markup (Any c b) = spoken_with (codes "anyElement") (prefixes_of c) (condition_said c ++ bounds_said b)
  part_markup (Sequence' shape parts b) = spoken (codes "sequence") (bounds_said b) (parts_markup parts)
  part_markup (Alternate' shape parts b) = spoken (codes "alternate") (bounds_said b) (parts_markup parts)

  pub parts_markup : {n : _} → Row_of-Content n → List Markup
  parts_markup end_of-Content = []
  parts_markup (more_of-Content part parts) = part_markup part ∷ parts_markup parts

-- a `content` holds one part
abbrev pub content_markup : Content → Markup
content_markup c = spoken (codes "content") [] (part_markup c ∷ [])
