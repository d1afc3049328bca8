-- Elements of small schemas, and what each stands for.
use Rattle.std.proofs.Common.{◌≡◌, ℕ, Bool, true, ◌||◌, cond, List, [], ◌∷◌, ◌++◌, map, filter, refl, sym, ap, subst, ◌∙◌, codes, rules}
use Rattle.std.specs.List.{list_all}
use Rattle.std.proofs.lemmas.Bool.{and_parts}
use Rattle.std.proofs.lemmas.List.Elements.{All-cons, All-nil}
use Rattle.odd_tree.proofs.InTree.{element_shown}
use Rattle.odd_text.proofs.InList.{stands_first}
use Rattle.odd_text.specs.Standing.{StandsIn}
use Rattle.odd_tree.specs.Elements.{elements_of}
use Rattle.odd_tree.specs.Significant.{is_blank, is_element}
use Rattle.odd_tree.specs.declared.tree.Attr.{Attr}
use Rattle.odd_tree.specs.declared.tree.Node as N
use Rattle.odd_tree.specs.declared.tree.Node.{Element}
use Rattle.odd_tree.specs.declared.tree.Tree.{Tree, out-Tree, roll-Tree}
use Rattle.odd_tokens.proofs.Ascii.{is_ascii_name, is_name}
use Rattle.odd_tokens.proofs.Characters.{none_twice}
use Rattle.odd_text.specs.Same.{is_same}
use Rattle.rng_grammar.specs.Denoting as denoting
use Rattle.rng_grammar.specs.Denoting.{AreOnePattern, HasName, IsBody, IsDefine, IsElementOf, IsPart, IsPattern, IsStart, parts_of}
use Rattle.rng_grammar.specs.Names.{relax_ng, relax_ng_namespace}
use Rattle.rng_grammar.specs.declared.grammar.AttrPart.TheVariants as attributes
use Rattle.rng_grammar.specs.declared.grammar.Body.TheVariants as body
use Rattle.rng_grammar.specs.declared.grammar.Body.{Body}
use Rattle.rng_grammar.specs.declared.grammar.Expr.TheVariants as expr
use Rattle.rng_grammar.specs.declared.grammar.Expr.{Expr}
use Rattle.rng_grammar.specs.declared.grammar.NameClass.TheVariants as class

-- elements of RELAX NG

abbrev named : List ℕ → List Attr
named name = record { name = record { ns = []; local = codes "name" }; value = name } ∷ []

abbrev pub rng : List ℕ → List Attr → List Tree → Tree
rng local attrs parts = roll-Tree (record { name = relax_ng local; attrs = attrs; binds = []; children = map Element parts; at = 0 })

abbrev of_relax_ng : Tree → Bool
of_relax_ng t = is_same (out-Tree t).name.ns relax_ng_namespace

-- such children are the parts
pub parts_are : (ts : List Tree) → list_all of_relax_ng ts ≡ true → filter of_relax_ng (elements_of (map Element ts)) ≡ ts
parts_are [] h = refl
parts_are (t ∷ ts) h =
    let both = and_parts _ _ h in
    ap (λ us. filter of_relax_ng (us ++ elements_of (map Element ts))) (element_shown (Element t) t refl)
    ∙ ap (λ c. cond c (t ∷ filter of_relax_ng (elements_of (map Element ts))) (filter of_relax_ng (elements_of (map Element ts)))) both.0 ∙ ap (λ us. t ∷ us) (parts_are ts both.1)

-- an element is no text
pub element_passes : (t : Tree) → (is_element (Element t) || is_blank (Element t)) ≡ true
element_passes t = search (rules, N.the_lemmas)

-- nor are several
elements_pass : (ts : List Tree) → list_all (λ n. is_element n || is_blank n) (map Element ts) ≡ true
elements_pass [] = refl
elements_pass (t ∷ ts) = rw (element_passes t, elements_pass ts) refl

abbrev IsAllowed : List (List ℕ) → Attr → Type 0
IsAllowed allowed a = a.name.ns ≡ [] → StandsIn allowed a.name.local

-- an element without attributes has none that is not allowed
pub bare_part : (local : List ℕ) (allowed : List (List ℕ)) (parts : List Tree) → IsPart local allowed (rng local [] parts)
bare_part local allowed parts = record { is_named = record { named = refl; attributed = All-nil (IsAllowed allowed) }; blank = elements_pass parts }

-- an element with a `name` where that is allowed
pub named_part : (local name : List ℕ) (more : List (List ℕ)) (parts : List Tree) → IsPart local (codes "name" ∷ more) (rng local (named name) parts)
named_part local name more parts = record {
  is_named = record { named = refl; attributed = All-cons (IsAllowed (codes "name" ∷ more)) _ [] (λ e. stands_first _ _) (All-nil (IsAllowed (codes "name" ∷ more))) };
  blank = elements_pass parts;
}

has_name : (local name : List ℕ) (parts : List Tree) → is_ascii_name name ≡ true → HasName (rng local (named name) parts) name
has_name local name parts h = record { is_given = refl; is_ncname = is_name name h }

-- elements without parts, and what they stand for
abbrev pub ref : List ℕ → Tree
ref name = rng (codes "ref") (named name) []

pub ref_is : (name : List ℕ) → is_ascii_name name ≡ true → IsPattern (ref name) (expr.Ref name)
ref_is name h = denoting.reference (record { is_part = named_part (codes "ref") name [] []; alone = refl }) (has_name (codes "ref") name [] h)

abbrev pub empty : Tree
empty = rng (codes "empty") [] []

pub empty_is : IsPattern empty expr.Empty
empty_is = denoting.empty (record { is_part = bare_part (codes "empty") [] []; alone = refl })

abbrev pub text : Tree
text = rng (codes "text") [] []

pub text_is : IsPattern text expr.Text
text_is = denoting.text (record { is_part = bare_part (codes "text") [] []; alone = refl })

-- an element alone is one pattern
pub one_pattern : (t : Tree) (p : Expr) → IsPattern t p → AreOnePattern (t ∷ []) p
one_pattern t p h = record { first = p; more = []; are = denoting.more h denoting.none; one = refl }

-- a `start`, a `define` and an `element`

abbrev pub start : List ℕ → Tree
start name = rng (codes "start") [] (ref name ∷ [])

pub start_is : (name : List ℕ) → is_ascii_name name ≡ true → IsStart (start name) (expr.Ref name)
start_is name h = record { is_part = bare_part (codes "start") [] (ref name ∷ []); inside = ref name; alone = parts_are (ref name ∷ []) refl; is_pattern = ref_is name h }

abbrev pub define : List ℕ → Tree → Tree
define name inside = rng (codes "define") (named name) (inside ∷ [])

pub define_is : (name : List ℕ) (inside : Tree) (b : Body) → is_ascii_name name ≡ true → of_relax_ng inside ≡ true → IsBody [] (inside ∷ []) b → IsDefine [] (define name inside) (record { name = name; body = b })
define_is name inside b h e holds = record {
  is_part = named_part (codes "define") name [] (inside ∷ []);
  named = has_name (codes "define") name (inside ∷ []) h;
  holds = subst (λ ts. IsBody [] ts b) (sym (parts_are (inside ∷ []) (rw e refl))) holds;
}

abbrev pub element : List ℕ → Tree → Tree
element name inside = rng (codes "element") (named name) (inside ∷ [])

abbrev pub element_body : List ℕ → Expr → Body
element_body name content = body.Element (class.One (record { ns = []; local = name })) (attributes.Listed []) content

pub element_is : (name : List ℕ) (inside : Tree) (p : Expr) → is_ascii_name name ≡ true → of_relax_ng inside ≡ true → IsPattern inside p → IsElementOf [] (element name inside) (element_body name p)
element_is name inside p h e is = record {
  is_part = named_part (codes "element") name (codes "ns" ∷ []) (inside ∷ []);
  names = class.One (record { ns = []; local = name });
  after_names = parts_of (element name inside);
  has_names = denoting.by_name (has_name (codes "element") name (inside ∷ []) h);
  attrs = attributes.Listed [];
  inside = parts_of (element name inside);
  has_attributes = denoting.listed denoting.none (none_twice [] tt);
  content = p;
  holds = subst (λ ts. AreOnePattern ts p) (sym (parts_are (inside ∷ []) (rw e refl))) (one_pattern inside p is);
  body_is = refl;
}
