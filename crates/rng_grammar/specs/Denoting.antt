-- Which grammar some bytes denote: they spell a tree, and the tree stands for the grammar, by the elements of ISO/IEC 19757-2.
use Rattle.std.specs.Prelude.{◌≡◌, ℕ, ◌||◌, true, false, List, [], ◌∷◌, ◌++◌, map, filter, Some, None, IsTrue, All, codes, unwrap_or}
use Rattle.std.specs.List.{list_all}
use Rattle.std.specs.FinMap.{find, is_sorted}
use Rattle.odd_text.specs.Text.{text_cmp}
use Rattle.odd_text.specs.declared.name.Name.{Name}
use Rattle.odd_tokens.specs.Characters.{IsNCName}
use Rattle.odd_text.specs.Same.{is_same}
use Rattle.odd_tokens.specs.Tokens.{NoneTwice}
use Rattle.odd_text.specs.Standing.{StandsIn}
use Rattle.odd_tree.specs.Elements.{children_of, given}
use Rattle.odd_tree.specs.Significant.{is_blank, is_element}
use Rattle.odd_tree.specs.Spelled.{Spells}
use Rattle.odd_tree.specs.declared.tree.Node.{Node, Text}
use Rattle.odd_tree.specs.declared.tree.Tree.{Tree, out-Tree}
use Rattle.rng_types.specs.declared.data_type.DataType.{DataType}
use Rattle.rng_types.specs.declared.data_type.DataType.TheVariants as kinds
use Rattle.rng_types.specs.declared.facet.Facet.{Facet}
use Rattle.rng_types.specs.declared.facet.FacetText.{FacetText}
use Rattle.rng_types.specs.declared.item.Item.TheVariants as items
use Rattle.rng_values.specs.Items.{IsItemOf, ItemFault}
use Rattle.rng_grammar.specs.Linked.{HasData, IsLinked, names_of}
use Rattle.rng_grammar.specs.Names.{datatype_library, relax_ng, relax_ng_namespace}
use Rattle.rng_grammar.specs.Sorts.{IsSorted}
use Rattle.rng_grammar.specs.declared.grammar.AttrPart.TheVariants as attributes
use Rattle.rng_grammar.specs.declared.grammar.AttrPart.{AttrPart}
use Rattle.rng_grammar.specs.declared.grammar.AttrRule.{AttrRule}
use Rattle.rng_grammar.specs.declared.grammar.Body.TheVariants as body
use Rattle.rng_grammar.specs.declared.grammar.Body.{Body}
use Rattle.rng_grammar.specs.declared.grammar.Define.{Define}
use Rattle.rng_grammar.specs.declared.grammar.Expr.TheVariants as expr
use Rattle.rng_grammar.specs.declared.grammar.Expr.{Expr}
use Rattle.rng_grammar.specs.declared.grammar.Grammar.{Grammar}
use Rattle.rng_grammar.specs.declared.grammar.NameClass.TheVariants as class
use Rattle.rng_grammar.specs.declared.grammar.NameClass.{NameClass}
use Rattle.rng_grammar.specs.declared.grammar.NsPart.{NsPart}

-- the elements of RELAX NG in an element; those of other namespaces are passed over
abbrev pub parts_of : Tree → List Tree
parts_of t = filter (λ u. is_same (out-Tree u).name.ns relax_ng_namespace) (children_of t)

-- an element of RELAX NG of this name, and which attributes it may have; attributes in a namespace are passed over
pub record IsNamed (local : List ℕ) (allowed : List (List ℕ)) (t : Tree) : Type 0 where
  pub named : (out-Tree t).name ≡ relax_ng local
  pub attributed : All (λ a. a.name.ns ≡ [] → StandsIn allowed a.name.local) (out-Tree t).attrs

-- such an element with no text but white space
pub record IsPart (local : List ℕ) (allowed : List (List ℕ)) (t : Tree) : Type 0 where
  pub is_named : IsNamed local allowed t
  pub blank : IsTrue (list_all (λ n. is_element n || is_blank n) (out-Tree t).children)

-- such an element without a part
pub record IsLeaf (local : List ℕ) (allowed : List (List ℕ)) (t : Tree) : Type 0 where
  pub is_part : IsPart local allowed t
  pub alone : parts_of t ≡ []

-- an attribute that is needed, and whose value is a name
pub record HasName (t : Tree) (name : List ℕ) : Type 0 where
  pub is_given : given t (codes "name") ≡ Some name
  pub is_ncname : IsNCName name

-- several patterns where one stands are a group (section 7.13)
abbrev pub grouped : Expr → List Expr → Expr
grouped first [] = first
grouped first (next ∷ more) = expr.Group (first ∷ next ∷ more)

-- the text of an element in which no element stands
pub data HasText : List Node → List ℕ → Type 0 where
  nothing : HasText [] []
  text : {text : List ℕ} → HasText (Text text ∷ []) text

-- a `param` with its name and its text
pub record IsParam (t : Tree) (f : FacetText) : Type 0 where
  pub is_named : IsNamed (codes "param") (codes "name" ∷ []) t
  pub named : given t (codes "name") ≡ Some f.name
  pub written : HasText (out-Tree t).children f.value

pub data AreParams : List Tree → List FacetText → Type 0 where
  none : AreParams [] []
  more : {t : Tree} {f : FacetText} {ts : List Tree} {fs : List FacetText} → IsParam t f → AreParams ts fs → AreParams (t ∷ ts) (f ∷ fs)

-- ID and IDREF are read as NCName, since no schema asks whether an ID stands twice
abbrev pub read_as : DataType → DataType
read_as kinds.Id = kinds.NcName
read_as kinds.Idref = kinds.NcName
read_as k = k

-- a `data` with its type and its params, which together make an item
pub record IsData (t : Tree) (k : DataType) (facets : List Facet) : Type 0 where
  pub is_part : IsPart (codes "data") (codes "type" ∷ []) t
  pub type : List ℕ
  pub typed : given t (codes "type") ≡ Some type
  pub params : List FacetText
  pub are_params : AreParams (parts_of t) params
  pub sound : (rule : ℕ) → ItemFault type params rule → ⊥
  pub kind : DataType
  pub item : IsItemOf type params (items.Typed kind facets)
  pub read : k ≡ read_as kind

-- a `value` with its text
pub record IsSame (t : Tree) (text : List ℕ) : Type 0 where
  pub is_named : IsNamed (codes "value") [] t
  pub written : HasText (out-Tree t).children text

mutual
  -- an element that is a pattern
  pub data IsPattern : Tree → Expr → Type 0 where
    empty : {t : Tree} → IsLeaf (codes "empty") [] t → IsPattern t expr.Empty
    not_allowed : {t : Tree} → IsLeaf (codes "notAllowed") [] t → IsPattern t expr.NotAllowed
    text : {t : Tree} → IsLeaf (codes "text") [] t → IsPattern t expr.Text
    data_of : {t : Tree} {k : DataType} {facets : List Facet} → IsData t k facets → IsPattern t (expr.Typed k facets)
    value : {t : Tree} {text : List ℕ} → IsSame t text → IsPattern t (expr.Same text)
    list : {t : Tree} {p : Expr} (first : Expr) (more : List Expr) → IsPart (codes "list") [] t → ArePatterns (parts_of t) (first ∷ more) → p ≡ expr.List (grouped first more) → IsPattern t p
    reference : {t : Tree} {name : List ℕ} → IsLeaf (codes "ref") (codes "name" ∷ []) t → HasName t name → IsPattern t (expr.Ref name)
    group : {t : Tree} {p : Expr} (first : Expr) (more : List Expr) → IsPart (codes "group") [] t → ArePatterns (parts_of t) (first ∷ more) → p ≡ expr.Group (first ∷ more) → IsPattern t p
    choice : {t : Tree} {p : Expr} (first : Expr) (more : List Expr) → IsPart (codes "choice") [] t → ArePatterns (parts_of t) (first ∷ more) → p ≡ expr.Choice (first ∷ more) → IsPattern t p
    optional : {t : Tree} {p : Expr} (first : Expr) (more : List Expr) → IsPart (codes "optional") [] t → ArePatterns (parts_of t) (first ∷ more) → p ≡ expr.Optional (grouped first more) → IsPattern t p
    zero_or_more : {t : Tree} {p : Expr} (first : Expr) (more : List Expr) → IsPart (codes "zeroOrMore") [] t → ArePatterns (parts_of t) (first ∷ more)
        → p ≡ expr.ZeroOrMore (grouped first more) → IsPattern t p
    one_or_more : {t : Tree} {p : Expr} (first : Expr) (more : List Expr) → IsPart (codes "oneOrMore") [] t → ArePatterns (parts_of t) (first ∷ more)
        → p ≡ expr.OneOrMore (grouped first more) → IsPattern t p

  pub data ArePatterns : List Tree → List Expr → Type 0 where
    none : ArePatterns [] []
    more : {t : Tree} {p : Expr} {ts : List Tree} {ps : List Expr} → IsPattern t p → ArePatterns ts ps → ArePatterns (t ∷ ts) (p ∷ ps)

-- elements that together are one pattern
pub record AreOnePattern (ts : List Tree) (p : Expr) : Type 0 where
  pub first : Expr
  pub more : List Expr
  pub are : ArePatterns ts (first ∷ more)
  pub one : p ≡ grouped first more

-- a `name` with its text, and the namespace of `ns`, or the default one
pub record IsNameOf (default : List ℕ) (t : Tree) (name : Name) : Type 0 where
  pub is_named : IsNamed (codes "name") (codes "ns" ∷ []) t
  pub written : (out-Tree t).children ≡ Text name.local ∷ []
  pub is_ncname : IsNCName name.local
  pub space : name.ns ≡ unwrap_or (given t (codes "ns")) default

-- a `nsName` without an `except` says its namespace
pub record IsSpaceOf (default : List ℕ) (t : Tree) (space : List ℕ) : Type 0 where
  pub is_leaf : IsLeaf (codes "nsName") (codes "ns" ∷ []) t
  pub is : space ≡ unwrap_or (given t (codes "ns")) default

-- what an `except` leaves out: namespaces and names, each in the order in which they stand
pub data AreExcepted (default : List ℕ) : List Tree → List (List ℕ) → List Name → Type 0 where
  none : AreExcepted default [] [] []
  space : {t : Tree} {ts : List Tree} {space : List ℕ} {spaces : List (List ℕ)} {names : List Name} → IsSpaceOf default t space → AreExcepted default ts spaces names
      → AreExcepted default (t ∷ ts) (space ∷ spaces) names
  name : {t : Tree} {ts : List Tree} {name : Name} {spaces : List (List ℕ)} {names : List Name} → IsNameOf default t name → AreExcepted default ts spaces names
      → AreExcepted default (t ∷ ts) spaces (name ∷ names)

-- at most one `except`, which holds something
pub data HasExcept (default : List ℕ) : List Tree → List (List ℕ) → List Name → Type 0 where
  none : HasExcept default [] [] []
  one : {t u : Tree} {us : List Tree} {spaces : List (List ℕ)} {names : List Name} → IsPart (codes "except") [] t → parts_of t ≡ u ∷ us → AreExcepted default (u ∷ us) spaces names
      → HasExcept default (t ∷ []) spaces names

-- a `nsName`, of whose `except` the names are left out: one without `ns` is of the namespace of the `nsName` around it
pub record IsSpacePart (default : List ℕ) (t : Tree) (part : NsPart) : Type 0 where
  pub is_part : IsPart (codes "nsName") (codes "ns" ∷ []) t
  pub space : part.ns ≡ unwrap_or (given t (codes "ns")) default
  pub but : HasExcept part.ns (parts_of t) [] part.but

pub data AreSpaceParts (default : List ℕ) : List Tree → List NsPart → Type 0 where
  none : AreSpaceParts default [] []
  more : {t : Tree} {ts : List Tree} {part : NsPart} {parts : List NsPart} → IsSpacePart default t part → AreSpaceParts default ts parts → AreSpaceParts default (t ∷ ts) (part ∷ parts)

-- an element that is a name class
pub data IsNameClass (default : List ℕ) (t : Tree) : NameClass → Type 0 where
  any : {spaces : List (List ℕ)} {names : List Name} → IsPart (codes "anyName") [] t → HasExcept default (parts_of t) spaces names → IsNameClass default t (class.AnyBut spaces names)
  space : {part : NsPart} → IsSpacePart default t part → IsNameClass default t (class.Within (part ∷ []))
  spaces : {part : NsPart} {parts : List NsPart} → IsPart (codes "choice") [] t → AreSpaceParts default (parts_of t) (part ∷ parts) → IsNameClass default t (class.Within (part ∷ parts))

-- nothing, or a `text`
pub data HoldsText : List Tree → Type 0 where
  nothing : HoldsText []
  text : {t : Tree} → IsLeaf (codes "text") [] t → HoldsText (t ∷ [])

-- `zeroOrMore` of an `attribute` of any name and any text
pub record IsAnyAttributes (t : Tree) : Type 0 where
  pub is_part : IsPart (codes "zeroOrMore") [] t
  pub attribute : Tree
  pub alone : parts_of t ≡ attribute ∷ []
  pub is_attribute : IsPart (codes "attribute") [] attribute
  pub any : Tree
  pub value : List Tree
  pub parts : parts_of attribute ≡ any ∷ value
  pub is_any : IsLeaf (codes "anyName") [] any
  pub holds : HoldsText value

-- the names of an `element`, by its `name` or by its first part, and the parts that are left
pub data HasNames (default : List ℕ) (t : Tree) : NameClass → List Tree → Type 0 where
  by_name : {local : List ℕ} → HasName t local → HasNames default t (class.One (record { ns = unwrap_or (given t (codes "ns")) default; local = local })) (parts_of t)
  by_part : {part : Tree} {rest : List Tree} {names : NameClass} → given t (codes "name") ≡ None → given t (codes "ns") ≡ None → parts_of t ≡ part ∷ rest
      → IsNameClass default part names → HasNames default t names rest

-- nothing, which is `text`, or a pattern
pub data HoldsValue : List Tree → Expr → Type 0 where
  nothing : HoldsValue [] expr.Text
  pattern : {t : Tree} {p : Expr} → IsPattern t p → HoldsValue (t ∷ []) p

-- an `attribute` of a name, which is in no namespace where `ns` says none, and the pattern of its value
pub record IsAttribute (t : Tree) (name : Name) (value : Expr) : Type 0 where
  pub is_part : IsPart (codes "attribute") (codes "name" ∷ codes "ns" ∷ []) t
  pub named : HasName t name.local
  pub space : name.ns ≡ unwrap_or (given t (codes "ns")) []
  pub holds : HoldsValue (parts_of t) value

-- one that is needed, or one in an `optional`
pub data IsRule (t : Tree) : AttrRule → Type 0 where
  needed : {name : Name} {value : Expr} → IsAttribute t name value → IsRule t (record { name = name; needed = true; value = value })
  optional : {name : Name} {value : Expr} (attribute : Tree) → IsPart (codes "optional") [] t → parts_of t ≡ attribute ∷ [] → IsAttribute attribute name value
      → IsRule t (record { name = name; needed = false; value = value })

-- rules that parts begin with, and the parts that are left
pub data AreRules : List Tree → List AttrRule → List Tree → Type 0 where
  none : {ts : List Tree} → AreRules ts [] ts
  more : {t : Tree} {ts rest : List Tree} {rule : AttrRule} {rules : List AttrRule} → IsRule t rule → AreRules ts rules rest → AreRules (t ∷ ts) (rule ∷ rules) rest

-- the attributes that parts begin with, no two of one name, and the parts that are left: any attributes, or rules
pub data HasAttributes : List Tree → AttrPart → List Tree → Type 0 where
  listed : {ts rest : List Tree} {rules : List AttrRule} → AreRules ts rules rest → NoneTwice (map (λ rule. rule.name) rules) → HasAttributes ts (attributes.Listed rules) rest
  any : {t : Tree} {ts : List Tree} → IsAnyAttributes t → HasAttributes (t ∷ ts) attributes.AnyAttributes ts

-- an `element` with its names, its attributes and its content
pub record IsElementOf (default : List ℕ) (t : Tree) (b : Body) : Type 0 where
  pub is_part : IsPart (codes "element") (codes "name" ∷ codes "ns" ∷ []) t
  pub names : NameClass
  pub after_names : List Tree
  pub has_names : HasNames default t names after_names
  pub attrs : AttrPart
  pub inside : List Tree
  pub has_attributes : HasAttributes after_names attrs inside
  pub content : Expr
  pub holds : AreOnePattern inside content
  pub body_is : b ≡ body.Element names attrs content

-- what a `define` holds: an `element`, or patterns
pub data IsBody (default : List ℕ) : List Tree → Body → Type 0 where
  element : {t : Tree} {b : Body} → IsElementOf default t b → IsBody default (t ∷ []) b
  part : {ts : List Tree} {p : Expr} → AreOnePattern ts p → IsBody default ts (body.Part p)

pub record IsDefine (default : List ℕ) (t : Tree) (d : Define) : Type 0 where
  pub is_part : IsPart (codes "define") (codes "name" ∷ []) t
  pub named : HasName t d.name
  pub holds : IsBody default (parts_of t) d.body

pub data AreDefines (default : List ℕ) : List Tree → List Define → Type 0 where
  none : AreDefines default [] []
  more : {t : Tree} {d : Define} {ts : List Tree} {ds : List Define} → IsDefine default t d → AreDefines default ts ds → AreDefines default (t ∷ ts) (d ∷ ds)

-- a `start` holds one pattern
pub record IsStart (t : Tree) (p : Expr) : Type 0 where
  pub is_part : IsPart (codes "start") [] t
  pub inside : Tree
  pub alone : parts_of t ≡ inside ∷ []
  pub is_pattern : IsPattern inside p

abbrev pub entry_of : Define → List ℕ × Body
entry_of d = (d.name, d.body)

-- The tree of a schema stands for the grammar. A `grammar` holds one `start`, and defines in any order, no two of one name. The grammar has them in order of name.
pub record StandsFor (t : Tree) (g : Grammar) : Type 0 where
  pub is_part : IsPart (codes "grammar") (codes "ns" ∷ codes "datatypeLibrary" ∷ []) t
  pub datatypes : (value : List ℕ) → given t (codes "datatypeLibrary") ≡ Some value → value ≡ datatype_library
  pub has_datatypes : HasData g → given t (codes "datatypeLibrary") ≡ Some datatype_library
  pub start : Tree
  pub before : List Tree
  pub after : List Tree
  pub parts : parts_of t ≡ before ++ start ∷ after
  pub is_start : IsStart start g.start
  pub defines : List Define
  pub are_defines : AreDefines (unwrap_or (given t (codes "ns")) []) (before ++ after) defines
  pub once : NoneTwice (names_of defines)
  pub rising : IsTrue (is_sorted text_cmp (map entry_of g.defines))
  pub same : (name : List ℕ) → find text_cmp name (map entry_of g.defines) ≡ find text_cmp name (map entry_of defines)
  pub linked : IsLinked g
  pub sorted : IsSorted g

-- the bytes denote the grammar
pub record Denotes (bytes : List ℕ) (g : Grammar) : Type 0 where
  pub tree : Tree
  pub spelled : Spells bytes tree
  pub stands : StandsFor tree g

-- and no other
pub record DenotesOnly (bytes : List ℕ) (g : Grammar) : Type 0 where
  pub denoted : Denotes bytes g
  pub only : (other : Grammar) → Denotes bytes other → other ≡ g
