-- What the parts of a plain grammar print to: tags whose names and values are of XML.
use Rattle.std.proofs.Common.{◌≡◌, ℕ, Bool, true, false, cond, List, [], ◌∷◌, ◌++◌, map, codes, refl, sym, ap, subst, ◌∙◌, rules, ◌≢◌}
use Rattle.std.proofs.lemmas.Bool.{false≢true}
use Rattle.std.proofs.lemmas.List.Elements.{All-nil, All-cons, All-head, All-tail}
use Rattle.std.specs.Prelude.{IsTrue, All}
use Rattle.odd_text.specs.declared.name.Name.{Name}
use Rattle.odd_tokens.proofs.Ascii.{ascii_name, ascii_ncname, is_ascii_name, ascii_legal, ncname_legal}
use Rattle.odd_tokens.proofs.Characters.{none_twice}
use Rattle.odd_tokens.specs.Characters.{IsLegal, IsNCName}
use Rattle.odd_text.specs.Same.{is_same}
use Rattle.odd_tree.proofs.PrintedTrees.{IsNamespace, IsPlainAttribute, IsPlainTag, ArePlain, IsPlain}
use Rattle.odd_tree.specs.Markup.{Pair, Markup, element, line, printed, all_printed, attributes_printed, all_of, plain}
use Rattle.odd_tree.specs.Names.{xml_namespace, xmlns_namespace}
use Rattle.odd_printing.proofs.Shapes.{alone, both, full, full_of_one, full_plain, plain_of_one}
use Rattle.rng_types.specs.declared.data_type.DataType.{DataType}
use Rattle.rng_types.specs.declared.data_type.DataType.TheVariants as kind
use Rattle.rng_types.specs.declared.facet.Facet.{Facet}
use Rattle.rng_types.specs.declared.facet.FacetName.{FacetName}
use Rattle.rng_types.specs.declared.facet.FacetName.TheVariants as facet
use Rattle.rng_grammar.specs.Names.{datatype_library, relax_ng_namespace}
use Rattle.rng_grammar.specs.declared.grammar.AttrPart.{AttrPart}
use Rattle.rng_grammar.specs.declared.grammar.AttrPart.TheVariants as attributes
use Rattle.rng_grammar.specs.declared.grammar.AttrRule.{AttrRule}
use Rattle.rng_grammar.specs.declared.grammar.Body.{Body}
use Rattle.rng_grammar.specs.declared.grammar.Body.TheVariants as body
use Rattle.rng_grammar.specs.declared.grammar.Define.{Define}
use Rattle.rng_grammar.specs.declared.grammar.Expr as E
use Rattle.rng_grammar.specs.declared.grammar.Expr.{Expr}
use Rattle.rng_grammar.specs.declared.grammar.Expr.TheVariants as expr
use Rattle.rng_grammar.specs.declared.grammar.Grammar.{Grammar}
use Rattle.rng_grammar.specs.declared.grammar.NameClass.{NameClass}
use Rattle.rng_grammar.specs.declared.grammar.NameClass.TheVariants as class
use Rattle.rng_grammar.specs.declared.grammar.NsPart.{NsPart}
use Rattle.rng_emit.specs.Grammar.{except_markup, named, pattern_markup, attributes_markup, body_markup, class_markup, define_markup, name_markup, name_pairs, part_markup, parts_markup, space_markup, attribute_markup, facet_name, param_markup, rule_markup, type_name}
use Rattle.rng_emit.proofs.Printable.{IsPlainName, ArePlainAttributes, ArePlainPatterns, IsPlainBody, IsPlainClass, IsPlainDefine, IsPlainPart, IsPlainPattern, IsPlainRule}
use Rattle.rng_emit.proofs.Printable as is

-- the element of each pattern
pub empty_is : pattern_markup expr.Empty ≡ plain (codes "empty") []
empty_is = search (rules, E.the_lemmas)

pub not_allowed_is : pattern_markup expr.NotAllowed ≡ plain (codes "notAllowed") []
not_allowed_is = search (rules, E.the_lemmas)

pub text_is : pattern_markup expr.Text ≡ plain (codes "text") []
text_is = search (rules, E.the_lemmas)

pub typed_is : (k : DataType) (facets : List Facet)
    → pattern_markup (expr.Typed k facets) ≡ element (codes "data") ((codes "type", type_name k) ∷ []) (all_of (map param_markup facets))
typed_is k facets = search (rules, E.the_lemmas)

pub same_is : (text : List ℕ) → pattern_markup (expr.Same text) ≡ line (codes "value") [] text
same_is text = search (rules, E.the_lemmas)

pub list_is : (part : Expr) → pattern_markup (expr.List part) ≡ plain (codes "list") (pattern_markup part ∷ [])
list_is part = search (rules, E.the_lemmas)

pub ref_is : (name : List ℕ) → pattern_markup (expr.Ref name) ≡ named (codes "ref") name []
ref_is name = search (rules, E.the_lemmas)

pub group_is : (parts : List Expr) → pattern_markup (expr.Group parts) ≡ plain (codes "group") (map pattern_markup parts)
group_is parts = search (rules, E.the_lemmas)

pub choice_is : (parts : List Expr) → pattern_markup (expr.Choice parts) ≡ plain (codes "choice") (map pattern_markup parts)
choice_is parts = search (rules, E.the_lemmas)

pub optional_is : (part : Expr) → pattern_markup (expr.Optional part) ≡ plain (codes "optional") (pattern_markup part ∷ [])
optional_is part = search (rules, E.the_lemmas)

pub zero_or_more_is : (part : Expr) → pattern_markup (expr.ZeroOrMore part) ≡ plain (codes "zeroOrMore") (pattern_markup part ∷ [])
zero_or_more_is part = search (rules, E.the_lemmas)

pub one_or_more_is : (part : Expr) → pattern_markup (expr.OneOrMore part) ≡ plain (codes "oneOrMore") (pattern_markup part ∷ [])
one_or_more_is part = search (rules, E.the_lemmas)

-- what an element with parts holds is not nothing
pub ends_some : (ms ns : List Markup) (m : Markup) → ms ++ ns ++ m ∷ [] ≡ [] → ⊥
ends_some [] [] m e = cc
ends_some [] (n ∷ ns) m e = cc
ends_some (k ∷ ms) ns m e = cc

-- an `except` of some elements, and the element around it
except_is : (ms : List Markup) → (ms ≡ [] → ⊥) → plain (codes "except") ms ∷ [] ≡ except_markup ms
except_is [] some = absurd (some refl)
except_is (m ∷ ms) some = refl

pub around_except : (o tag : List ℕ) (attrs : List Pair) (ms : List Markup) → (ms ≡ [] → ⊥) → (o1 o2 o3 o4 o5 new : List ℕ) → o1 ≡ o ++ (codes "<" ++ tag ++ attributes_printed attrs)
    → o2 ≡ o1 ++ codes ">\n" → o3 ≡ o2 ++ (codes "<" ++ codes "except" ++ codes ">\n") → o4 ≡ o3 ++ all_printed (all_of ms) → o5 ≡ o4 ++ (codes "</" ++ codes "except" ++ codes ">\n")
    → new ≡ o5 ++ (codes "</" ++ tag ++ codes ">\n") → new ≡ o ++ printed (element tag attrs (all_of (except_markup ms)))
around_except o tag attrs ms some o1 o2 o3 o4 o5 new e f g h k l =
    full_of_one o tag attrs (plain (codes "except") ms) o1 o2 o5 new e f (full_plain o2 (codes "except") ms some o3 o4 o5 g h k) l
    ∙ ap (λ ns. o ++ printed (element tag attrs (all_of ns))) (except_is ms some)

-- all names but some
pub any_name : (o : List ℕ) (ms ns : List Markup) → (ms ++ ns ≡ [] → ⊥) → (o1 o2 o3 o4 o5 new : List ℕ) → o1 ≡ o ++ (codes "<" ++ codes "anyName" ++ codes ">\n")
    → o2 ≡ o1 ++ (codes "<" ++ codes "except" ++ codes ">\n") → o3 ≡ o2 ++ all_printed (all_of ms) → o4 ≡ o3 ++ all_printed (all_of ns)
    → o5 ≡ o4 ++ (codes "</" ++ codes "except" ++ codes ">\n") → new ≡ o5 ++ (codes "</" ++ codes "anyName" ++ codes ">\n")
    → new ≡ o ++ printed (plain (codes "anyName") (except_markup (ms ++ ns)))
any_name o ms ns some o1 o2 o3 o4 o5 new e f g h k l =
    plain_of_one o (codes "anyName") (plain (codes "except") (ms ++ ns)) o1 o5 new e (full_plain o1 (codes "except") (ms ++ ns) some o2 o4 o5 f (both o2 o3 o4 ms ns g h) k) l
    ∙ ap (λ xs. o ++ printed (plain (codes "anyName") xs)) (except_is (ms ++ ns) some)

-- an `element`: its names, its attributes and its content
pub element_put : (o : List ℕ) (attrs : List Pair) (ms ns : List Markup) (m : Markup) (o1 o2 o3 o4 o5 new : List ℕ) → o1 ≡ o ++ (codes "<" ++ codes "element" ++ attributes_printed attrs)
    → o2 ≡ o1 ++ codes ">\n" → o3 ≡ o2 ++ all_printed (all_of ms) → o4 ≡ o3 ++ all_printed (all_of ns) → o5 ≡ o4 ++ printed m
    → new ≡ o5 ++ (codes "</" ++ codes "element" ++ codes ">\n") → new ≡ o ++ printed (element (codes "element") attrs (all_of (ms ++ ns ++ m ∷ [])))
element_put o attrs ms ns m o1 o2 o3 o4 o5 new e f g h k l =
    full o (codes "element") attrs (ms ++ ns ++ m ∷ []) (ends_some ms ns m) o1 o2 o5 new e f (both o2 o4 o5 (ms ++ ns) (m ∷ []) (both o2 o3 o4 ms ns g h) (alone o4 o5 m k)) l

-- a name of ASCII is an NCName
pub is_name : (name : List ℕ) → IsTrue (is_ascii_name name) → IsNCName name
is_name name h = (name, ascii_name name h, ascii_ncname name h)

-- the tags: with no attribute, with one, and with a name and a namespace

pub bare_tag : (tag : List ℕ) → IsTrue (is_ascii_name tag) → IsPlainTag tag []
bare_tag tag h = record { named = is_name tag h; attributed = All-nil IsPlainAttribute; once = none_twice [] tt }

pub one_tag : (tag name value : List ℕ) → IsTrue (is_ascii_name tag) → IsTrue (is_ascii_name name) → name ≢ codes "xmlns" → IsLegal value → IsPlainTag tag ((name, value) ∷ [])
one_tag tag name value h k apart legal = record {
  named = is_name tag h;
  attributed = All-cons IsPlainAttribute (name, value) [] (record { named = is_name name k; apart = apart; legal = legal }) (All-nil IsPlainAttribute);
  once = none_twice (name ∷ []) (tt, tt);
}

full_tag : (tag : List ℕ) → IsTrue (is_ascii_name tag) → (name : Name) → IsPlainName name → IsPlainTag tag ((codes "name", name.local) ∷ (codes "ns", name.ns) ∷ [])
full_tag tag h name n = record {
  named = is_name tag h;
  attributed =
      All-cons IsPlainAttribute (codes "name", name.local) ((codes "ns", name.ns) ∷ [])
      (record { named = is_name (codes "name") refl; apart = λ e. cc; legal = ncname_legal name.local n.named })
      (All-cons IsPlainAttribute (codes "ns", name.ns) [] (record { named = is_name (codes "ns") refl; apart = λ e. cc; legal = n.legal }) (All-nil IsPlainAttribute));
  once = none_twice (codes "name" ∷ codes "ns" ∷ []) (((λ e. cc), tt), (tt, tt));
}

pub element_tag : (name : Name) → IsPlainName name → IsPlainTag (codes "element") ((codes "name", name.local) ∷ (codes "ns", name.ns) ∷ [])
element_tag name n = full_tag (codes "element") refl name n

pub space_tag : (ns : List ℕ) → IsLegal ns → IsPlainTag (codes "nsName") ((codes "ns", ns) ∷ [])
space_tag ns legal = one_tag (codes "nsName") (codes "ns") ns refl refl (λ e. cc) legal

-- the tag of the root, and its namespace
pub grammar_tag : IsPlainTag (codes "grammar") ((codes "datatypeLibrary", datatype_library) ∷ [])
grammar_tag = one_tag (codes "grammar") (codes "datatypeLibrary") datatype_library refl refl (λ e. cc) (ascii_legal datatype_library refl)

pub relax_ng_bound : IsNamespace relax_ng_namespace
relax_ng_bound = record {
  legal = ascii_legal relax_ng_namespace refl;
  xml = λ e. false≢true (ap (λ ns. is_same ns xml_namespace) e);
  reserved = λ e. false≢true (ap (λ ns. is_same ns xmlns_namespace) e);
}

-- lists of elements

both_plain : (ms ns : List Markup) → ArePlain (all_of ms) → ArePlain (all_of ns) → ArePlain (all_of (ms ++ ns))
both_plain [] ns p q = q
both_plain (m ∷ ms) ns p q = (p.0, both_plain ms ns p.1 q)

all_plain : {A : Type 0} (P : A → Type 0) (f : A → Markup) → ((x : A) → P x → IsPlain (f x)) → (xs : List A) → All P xs → ArePlain (all_of (map f xs))
all_plain P f h [] a = tt
all_plain P f h (x ∷ xs) a = (h x (All-head P x xs a), all_plain P f h xs (All-tail P x xs a))

-- a pattern, by what it is printed to
by_print : (p : Expr) (m : Markup) → pattern_markup p ≡ m → IsPlain m → IsPlain (pattern_markup p)
by_print p m e h = subst IsPlain (sym e) h

-- the names of datatypes and of facets are ASCII
type_legal : (k : DataType) → IsLegal (type_name k)
type_legal kind.String = ascii_legal _ refl
type_legal k = ascii_legal _ refl

facet_legal : (name : FacetName) → IsLegal (facet_name name)
facet_legal facet.Pattern = ascii_legal _ refl
facet_legal name = ascii_legal _ refl

-- so a `param` is plain, and a `data` with its params
param_plain : (f : Facet) → IsLegal f.value → IsPlain (param_markup f)
param_plain f legal = (one_tag (codes "param") (codes "name") (facet_name f.name) refl refl (λ e. cc) (facet_legal f.name), legal)

data_plain : (k : DataType) (facets : List Facet) → is.IsPlainType k facets → IsPlain (element (codes "data") ((codes "type", type_name k) ∷ []) (all_of (map param_markup facets)))
data_plain k facets p =
    (one_tag (codes "data") (codes "type") (type_name k) refl refl (λ e. cc) (type_legal k), all_plain (λ f. IsLegal f.value) param_markup param_plain facets p.legal)

-- by what a plain pattern is made of
mutual
  pattern_plain : (p : Expr) → IsPlainPattern p → IsPlain (pattern_markup p)
  pattern_plain p is.empty = by_print p _ empty_is (bare_tag (codes "empty") refl, tt)
  pattern_plain p is.not_allowed = by_print p _ not_allowed_is (bare_tag (codes "notAllowed") refl, tt)
  pattern_plain p is.text = by_print p _ text_is (bare_tag (codes "text") refl, tt)
  pattern_plain p (is.typed {k = k} {facets = facets} d) = by_print p _ (typed_is k facets) (data_plain k facets d)
  pattern_plain p (is.same {text = text} legal) = by_print p _ (same_is text) (bare_tag (codes "value") refl, legal)
  pattern_plain p (is.list part a e) = by_print p _ (ap pattern_markup e ∙ list_is part) (bare_tag (codes "list") refl, (pattern_plain part a, tt))
  pattern_plain p (is.reference {name = name} n) = by_print p _ (ref_is name) (one_tag (codes "ref") (codes "name") name refl refl (λ e. cc) (ncname_legal name n), tt)
  pattern_plain p (is.group first second more a e) =
      by_print p _ (ap pattern_markup e ∙ group_is (first ∷ second ∷ more)) (bare_tag (codes "group") refl, patterns_plain (first ∷ second ∷ more) a)
  pattern_plain p (is.choice first second more a e) =
      by_print p _ (ap pattern_markup e ∙ choice_is (first ∷ second ∷ more)) (bare_tag (codes "choice") refl, patterns_plain (first ∷ second ∷ more) a)
  pattern_plain p (is.optional part a e) = by_print p _ (ap pattern_markup e ∙ optional_is part) (bare_tag (codes "optional") refl, (pattern_plain part a, tt))
  pattern_plain p (is.zero_or_more part a e) = by_print p _ (ap pattern_markup e ∙ zero_or_more_is part) (bare_tag (codes "zeroOrMore") refl, (pattern_plain part a, tt))
  pattern_plain p (is.one_or_more part a e) = by_print p _ (ap pattern_markup e ∙ one_or_more_is part) (bare_tag (codes "oneOrMore") refl, (pattern_plain part a, tt))

  patterns_plain : (ps : List Expr) → ArePlainPatterns ps → ArePlain (all_of (map pattern_markup ps))
  patterns_plain ps is.none = tt
  patterns_plain ps (is.more {p = p} {ps = rest} a later) = (pattern_plain p a, patterns_plain rest later)

-- names

name_plain : (n : Name) → IsPlainName n → IsPlain (name_markup n)
name_plain n p = (one_tag (codes "name") (codes "ns") n.ns refl refl (λ e. cc) p.legal, ncname_legal n.local p.named)

except_plain : (ms : List Markup) → ArePlain (all_of ms) → ArePlain (all_of (except_markup ms))
except_plain [] p = tt
except_plain (m ∷ ms) p = ((bare_tag (codes "except") refl, p), tt)

part_plain : (part : NsPart) → IsPlainPart part → IsPlain (part_markup part)
part_plain part p = (space_tag part.ns p.legal, except_plain (map name_markup part.but) (all_plain IsPlainName name_markup name_plain part.but p.but))

parts_plain : (parts : List NsPart) → All IsPlainPart parts → IsPlain (parts_markup parts)
parts_plain [] p = (bare_tag (codes "choice") refl, tt)
parts_plain (part ∷ []) p = part_plain part (All-head IsPlainPart part [] p)
parts_plain (part ∷ other ∷ parts) p = (bare_tag (codes "choice") refl, all_plain IsPlainPart part_markup part_plain (part ∷ other ∷ parts) p)

class_plain : (names : NameClass) → IsPlainClass names → ArePlain (all_of (class_markup names))
class_plain (class.One name) p = tt
class_plain (class.AnyBut spaces names) p =
    let ms = map space_markup spaces ++ map name_markup names in (
      (
        bare_tag (codes "anyName") refl,
        except_plain ms (both_plain (map space_markup spaces) (map name_markup names)
            (all_plain IsLegal space_markup (λ ns legal. (space_tag ns legal, tt)) spaces p.0) (all_plain IsPlainName name_markup name_plain names p.1)),
      ),
      tt,
    )
class_plain (class.Within parts) p = (parts_plain parts p.1, tt)

tag_plain : (names : NameClass) → IsPlainClass names → IsPlainTag (codes "element") (name_pairs names)
tag_plain (class.One name) p = element_tag name p
tag_plain (class.AnyBut spaces names) p = bare_tag (codes "element") refl
tag_plain (class.Within parts) p = bare_tag (codes "element") refl

-- attributes

-- the tag, with a namespace or without one
attribute_tag : (name : Name) → IsPlainName name → (b : Bool) → IsPlainTag (codes "attribute") ((codes "name", name.local) ∷ cond b [] ((codes "ns", name.ns) ∷ []))
attribute_tag name n true = one_tag (codes "attribute") (codes "name") name.local refl refl (λ e. cc) (ncname_legal name.local n.named)
attribute_tag name n false = full_tag (codes "attribute") refl name n

attribute_plain : (rule : AttrRule) → IsPlainRule rule → IsPlain (attribute_markup rule)
attribute_plain rule p = (attribute_tag rule.name p.named (is_same rule.name.ns []), (pattern_plain rule.value p.value, tt))

rule_plain : (rule : AttrRule) → IsPlainRule rule → IsPlain (rule_markup rule)
rule_plain rule p = by_need rule.needed
  where
    by_need : (b : Bool) → IsPlain (cond b (attribute_markup rule) (plain (codes "optional") (attribute_markup rule ∷ [])))
    by_need true = attribute_plain rule p
    by_need false = (bare_tag (codes "optional") refl, (attribute_plain rule p, tt))

-- defines

attributes_plain : (attrs : AttrPart) → ArePlainAttributes attrs → ArePlain (all_of (attributes_markup attrs))
attributes_plain attributes.AnyAttributes p = ((bare_tag (codes "zeroOrMore") refl, ((bare_tag (codes "attribute") refl, ((bare_tag (codes "anyName") refl, tt), tt)), tt)), tt)
attributes_plain (attributes.Listed rs) p = all_plain IsPlainRule rule_markup rule_plain rs p.0

body_plain : (b : Body) → IsPlainBody b → IsPlain (body_markup b)
body_plain (body.Element names attrs content) p = (
  tag_plain names p.0,
  both_plain (class_markup names ++ attributes_markup attrs) (pattern_markup content ∷ [])
      (both_plain (class_markup names) (attributes_markup attrs) (class_plain names p.0) (attributes_plain attrs p.1)) (pattern_plain content p.2, tt),
)
body_plain (body.Part p) q = pattern_plain p q

define_plain : (d : Define) → IsPlainDefine d → IsPlain (define_markup d)
define_plain d p = (one_tag (codes "define") (codes "name") d.name refl refl (λ e. cc) (ncname_legal d.name p.named), (body_plain d.body p.body, tt))

-- the start and the defines
abbrev pub grammar_parts : Grammar → List Markup
grammar_parts g = plain (codes "start") (pattern_markup g.start ∷ []) ∷ map define_markup g.defines

-- the elements inside the root
pub grammar_plain : (g : Grammar) → is.IsPrintable g → ArePlain (all_of (grammar_parts g))
grammar_plain g p = ((bare_tag (codes "start") refl, (pattern_plain g.start p.start, tt)), all_plain IsPlainDefine define_markup define_plain g.defines p.defines)
