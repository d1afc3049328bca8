-- The text of a grammar as a RELAX NG schema in XML syntax.
use Rattle.std.specs.Prelude.{ℕ, List, [], ◌∷◌, ◌++◌, map, codes}
use Rattle.odd_text.specs.declared.name.Name.{Name}
use Rattle.odd_tree.specs.Markup.{Markup, Pair, element, line, file_printed}
pub use Rattle.odd_tree.specs.Markup.{all_of, plain}
use Rattle.rng_types.specs.declared.data_type.DataType.TheVariants as kind
use Rattle.rng_types.specs.declared.data_type.DataType.{DataType}
use Rattle.rng_types.specs.declared.facet.Facet.{Facet}
use Rattle.rng_types.specs.declared.facet.FacetName.TheVariants as facet
use Rattle.rng_types.specs.declared.facet.FacetName.{FacetName}
use Rattle.rng_grammar.specs.Names.{datatype_library, relax_ng_namespace}
use Rattle.rng_grammar.specs.declared.grammar.AttrPart.TheVariants as attributes
use Rattle.rng_grammar.specs.declared.grammar.AttrPart.{AttrPart}
use Rattle.rng_grammar.specs.declared.grammar.AttrRule.{AttrRule}
use Rattle.rng_grammar.specs.declared.grammar.Body.TheVariants as body
use Rattle.rng_grammar.specs.declared.grammar.Body.{Body}
use Rattle.rng_grammar.specs.declared.grammar.Define.{Define}
use Rattle.rng_grammar.specs.declared.grammar.Expr.TheOpen.{Empty, NotAllowed, Text, Typed, Same, List as ListOf, Ref, Group, Choice, Optional, ZeroOrMore, OneOrMore}
use Rattle.rng_grammar.specs.declared.grammar.Expr.{Expr, Expr-F, fold-Expr}
use Rattle.rng_grammar.specs.declared.grammar.Grammar.{Grammar}
use Rattle.rng_grammar.specs.declared.grammar.NameClass.TheVariants as class
use Rattle.rng_grammar.specs.declared.grammar.NameClass.{NameClass}
use Rattle.rng_grammar.specs.declared.grammar.NsPart.{NsPart}
use Rattle.std.specs.Prelude.{if◌then◌else◌}
use Rattle.odd_text.specs.Same.{is_same}

-- an element with a name, and one with a namespace
abbrev pub named : List ℕ → List ℕ → List Markup → Markup
named tag name inside = element tag ((codes "name", name) ∷ []) (all_of inside)

abbrev pub spaced : List ℕ → List ℕ → List Markup → Markup
spaced tag ns inside = element tag ((codes "ns", ns) ∷ []) (all_of inside)

-- the name of a datatype of XML Schema; ID and IDREF are written as NCName
abbrev pub type_name : DataType → List ℕ
type_name kind.String = codes "string"
type_name kind.NormalizedString = codes "normalizedString"
type_name kind.Token = codes "token"
type_name kind.Nmtoken = codes "NMTOKEN"
type_name kind.Name = codes "Name"
type_name kind.NcName = codes "NCName"
type_name kind.Id = codes "NCName"
type_name kind.Idref = codes "NCName"
type_name kind.Language = codes "language"
type_name kind.AnyUri = codes "anyURI"
type_name kind.Boolean = codes "boolean"
type_name kind.Integer = codes "integer"
type_name kind.NonNegativeInteger = codes "nonNegativeInteger"
type_name kind.PositiveInteger = codes "positiveInteger"
type_name kind.Decimal = codes "decimal"

abbrev pub facet_name : FacetName → List ℕ
facet_name facet.Length = codes "length"
facet_name facet.MaxInclusive = codes "maxInclusive"
facet_name facet.MaxLength = codes "maxLength"
facet_name facet.MinInclusive = codes "minInclusive"
facet_name facet.MinLength = codes "minLength"
facet_name facet.Pattern = codes "pattern"

abbrev pub param_markup : Facet → Markup
param_markup f = line (codes "param") ((codes "name", facet_name f.name) ∷ []) f.value

abbrev pattern_step : Expr-F Markup → Markup
pattern_step Empty = plain (codes "empty") []
pattern_step NotAllowed = plain (codes "notAllowed") []
pattern_step Text = plain (codes "text") []
pattern_step (Typed kind facets) = element (codes "data") ((codes "type", type_name kind) ∷ []) (all_of (map param_markup facets))
pattern_step (Same text) = line (codes "value") [] text
pattern_step (ListOf part) = plain (codes "list") (part ∷ [])
pattern_step (Ref name) = named (codes "ref") name []
pattern_step (Group parts) = plain (codes "group") parts
pattern_step (Choice parts) = plain (codes "choice") parts
pattern_step (Optional part) = plain (codes "optional") (part ∷ [])
pattern_step (ZeroOrMore part) = plain (codes "zeroOrMore") (part ∷ [])
pattern_step (OneOrMore part) = plain (codes "oneOrMore") (part ∷ [])

-- each pattern is the element of its name, over its parts in their order
abbrev pub pattern_markup : Expr → Markup
pattern_markup = fold-Expr Markup pattern_step

abbrev pub space_markup : List ℕ → Markup
space_markup ns = spaced (codes "nsName") ns []

abbrev pub name_markup : Name → Markup
name_markup n = line (codes "name") ((codes "ns", n.ns) ∷ []) n.local

-- an `except`, where something is left out
abbrev pub except_markup : List Markup → List Markup
except_markup [] = []
except_markup (m ∷ ms) = plain (codes "except") (m ∷ ms) ∷ []

abbrev pub part_markup : NsPart → Markup
part_markup p = spaced (codes "nsName") p.ns (except_markup (map name_markup p.but))

abbrev pub parts_markup : List NsPart → Markup
parts_markup (part ∷ []) = part_markup part
parts_markup parts = plain (codes "choice") (map part_markup parts)

-- a name class that stands in the `element`; one name stands on it
abbrev pub class_markup : NameClass → List Markup
class_markup (class.One name) = []
class_markup (class.AnyBut spaces names) = plain (codes "anyName") (except_markup (map space_markup spaces ++ map name_markup names)) ∷ []
class_markup (class.Within parts) = parts_markup parts ∷ []

abbrev pub name_pairs : NameClass → List Pair
name_pairs (class.One name) = (codes "name", name.local) ∷ (codes "ns", name.ns) ∷ []
name_pairs names = []

-- an attribute, with its namespace where it has one
abbrev pub attribute_markup : AttrRule → Markup
attribute_markup rule = element (codes "attribute")
    ((codes "name", rule.name.local) ∷ (if is_same rule.name.ns [] then [] else (codes "ns", rule.name.ns) ∷ []))
    (all_of (pattern_markup rule.value ∷ []))

abbrev pub rule_markup : AttrRule → Markup
rule_markup rule = if rule.needed then attribute_markup rule else plain (codes "optional") (attribute_markup rule ∷ [])

abbrev pub any_attributes : Markup
any_attributes = plain (codes "zeroOrMore") (plain (codes "attribute") (plain (codes "anyName") [] ∷ []) ∷ [])

abbrev pub attributes_markup : AttrPart → List Markup
attributes_markup attributes.AnyAttributes = any_attributes ∷ []
attributes_markup (attributes.Listed rules) = map rule_markup rules

-- an `element` with its names, its attributes and its content
abbrev pub body_markup : Body → Markup
body_markup (body.Element names attrs content) = element (codes "element") (name_pairs names) (all_of (class_markup names ++ attributes_markup attrs ++ pattern_markup content ∷ []))
body_markup (body.Part p) = pattern_markup p

abbrev pub define_markup : Define → Markup
define_markup d = named (codes "define") d.name (body_markup d.body ∷ [])

-- a grammar with a start and defines
abbrev pub grammar_markup : Markup → List Markup → Markup
grammar_markup start defines =
    element (codes "grammar") ((codes "xmlns", relax_ng_namespace) ∷ (codes "datatypeLibrary", datatype_library) ∷ []) (all_of (plain (codes "start") (start ∷ []) ∷ defines))

abbrev pub grammar_text : Grammar → List ℕ
grammar_text g = file_printed (grammar_markup (pattern_markup g.start) (map define_markup g.defines))
