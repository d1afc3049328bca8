-- Printable grammars, of the forms whose text is shown to denote them: lists of two parts or more, and names and texts that XML can write.
use Rattle.std.specs.Prelude.{◌≡◌, ◌≢◌, ℕ, List, [], ◌∷◌, map, IsTrue, All}
use Rattle.std.specs.FinMap.{is_sorted}
use Rattle.odd_text.specs.Text.{text_cmp}
use Rattle.odd_text.specs.declared.name.Name.{Name}
use Rattle.odd_tokens.specs.Characters.{IsLegal, IsNCName}
use Rattle.odd_tokens.specs.Tokens.{NoneTwice}
use Rattle.rng_types.specs.declared.data_type.DataType.{DataType}
use Rattle.rng_types.specs.declared.facet.Facet.{Facet}
use Rattle.rng_types.specs.declared.facet.FacetText.{FacetText}
use Rattle.rng_types.specs.declared.item.Item.TheVariants as items
use Rattle.rng_values.specs.Items.{IsItemOf, ItemFault}
use Rattle.rng_grammar.specs.Denoting.{entry_of, read_as}
use Rattle.rng_grammar.specs.Linked.{IsLinked}
use Rattle.rng_grammar.specs.Sorts.{IsSorted}
use Rattle.rng_grammar.specs.declared.grammar.AttrPart.TheVariants as attributes
use Rattle.rng_grammar.specs.declared.grammar.AttrPart.{AttrPart}
use Rattle.rng_grammar.specs.declared.grammar.AttrRule.{AttrRule}
use Rattle.rng_grammar.specs.declared.grammar.Body.TheVariants as body
use Rattle.rng_grammar.specs.declared.grammar.Body.{Body}
use Rattle.rng_grammar.specs.declared.grammar.Define.{Define}
use Rattle.rng_grammar.specs.declared.grammar.Expr.TheVariants as expr
use Rattle.rng_grammar.specs.declared.grammar.Expr.{Expr}
use Rattle.rng_grammar.specs.declared.grammar.Grammar.{Grammar}
use Rattle.rng_grammar.specs.declared.grammar.NameClass.TheVariants as class
use Rattle.rng_grammar.specs.declared.grammar.NameClass.{NameClass}
use Rattle.rng_grammar.specs.declared.grammar.NsPart.{NsPart}

-- a datatype and facets that some name and params make, of characters that XML can write
pub record IsPlainType (k : DataType) (facets : List Facet) : Type 0 where
  pub type : List ℕ
  pub params : List FacetText
  pub sound : (rule : ℕ) → ItemFault type params rule → ⊥
  pub kind : DataType
  pub item : IsItemOf type params (items.Typed kind facets)
  pub read : k ≡ read_as kind
  pub legal : All (λ f. IsLegal f.value) facets

mutual
  -- a pattern whose groups and choices have two or more parts
  pub data IsPlainPattern : Expr → Type 0 where
    empty : IsPlainPattern expr.Empty
    not_allowed : IsPlainPattern expr.NotAllowed
    text : IsPlainPattern expr.Text
    reference : {name : List ℕ} → IsNCName name → IsPlainPattern (expr.Ref name)
    typed : {k : DataType} {facets : List Facet} → IsPlainType k facets → IsPlainPattern (expr.Typed k facets)
    same : {text : List ℕ} → IsLegal text → IsPlainPattern (expr.Same text)
    list : {p : Expr} (part : Expr) → IsPlainPattern part → p ≡ expr.List part → IsPlainPattern p
    group : {p : Expr} (first second : Expr) (more : List Expr) → ArePlainPatterns (first ∷ second ∷ more) → p ≡ expr.Group (first ∷ second ∷ more) → IsPlainPattern p
    choice : {p : Expr} (first second : Expr) (more : List Expr) → ArePlainPatterns (first ∷ second ∷ more) → p ≡ expr.Choice (first ∷ second ∷ more) → IsPlainPattern p
    optional : {p : Expr} (part : Expr) → IsPlainPattern part → p ≡ expr.Optional part → IsPlainPattern p
    zero_or_more : {p : Expr} (part : Expr) → IsPlainPattern part → p ≡ expr.ZeroOrMore part → IsPlainPattern p
    one_or_more : {p : Expr} (part : Expr) → IsPlainPattern part → p ≡ expr.OneOrMore part → IsPlainPattern p

  pub data ArePlainPatterns : List Expr → Type 0 where
    none : ArePlainPatterns []
    more : {p : Expr} {ps : List Expr} → IsPlainPattern p → ArePlainPatterns ps → ArePlainPatterns (p ∷ ps)

-- a local name that is one, and a namespace of XML's characters
pub record IsPlainName (n : Name) : Type 0 where
  pub named : IsNCName n.local
  pub legal : IsLegal n.ns

pub record IsPlainPart (part : NsPart) : Type 0 where
  pub legal : IsLegal part.ns
  pub but : All IsPlainName part.but

abbrev pub IsPlainClass : NameClass → Type 0
IsPlainClass (class.One name) = IsPlainName name
IsPlainClass (class.AnyBut spaces names) = All IsLegal spaces × All IsPlainName names
IsPlainClass (class.Within parts) = (parts ≢ []) × All IsPlainPart parts

pub record IsPlainRule (rule : AttrRule) : Type 0 where
  pub named : IsPlainName rule.name
  pub value : IsPlainPattern rule.value

-- any attributes, or some, no two of one name
abbrev pub ArePlainAttributes : AttrPart → Type 0
ArePlainAttributes attributes.AnyAttributes = Unit {0}
ArePlainAttributes (attributes.Listed rules) = All IsPlainRule rules × NoneTwice (map (λ rule. rule.name) rules)

abbrev pub IsPlainBody : Body → Type 0
IsPlainBody (body.Element names attrs content) = IsPlainClass names × ArePlainAttributes attrs × IsPlainPattern content
IsPlainBody (body.Part p) = IsPlainPattern p

pub record IsPlainDefine (d : Define) : Type 0 where
  pub named : IsNCName d.name
  pub body : IsPlainBody d.body

pub record IsPrintable (g : Grammar) : Type 0 where
  pub start : IsPlainPattern g.start
  pub defines : All IsPlainDefine g.defines
  pub rising : IsTrue (is_sorted text_cmp (map entry_of g.defines))
  pub linked : IsLinked g
  pub sorted : IsSorted g
