-- What an element of a schema may have: attributes, texts, elements of other namespaces, name classes. Small cases on both sides.
use Rattle.std.proofs.Common.{◌≡◌, ℕ, Bool, true, false, List, [], ◌∷◌, codes, refl, sym, subst, ◌∙◌, rules}
use Rattle.std.proofs.lemmas.List.Elements.{All-cons, All-head, All-nil}
use Rattle.odd_text.specs.declared.name.Name.{Name}
use Rattle.odd_text.proofs.InList.{nothing_stands, stands_first}
use Rattle.odd_text.specs.Standing.{StandsIn}
use Rattle.odd_tree.specs.declared.tree.Attr.{Attr}
use Rattle.odd_tree.specs.declared.tree.Node as N
use Rattle.odd_tree.specs.declared.tree.Node.{Node, Element, Text}
use Rattle.odd_tree.specs.declared.tree.Tree.{Tree, roll-Tree}
use Rattle.odd_tree.proofs.PrintedTrees.{apart}
use Rattle.odd_tokens.proofs.Ascii.{is_name}
use Rattle.odd_tokens.proofs.Characters.{none_twice}
use Rattle.rng_grammar.proofs.ClassExamples.{in_none}
use Rattle.rng_grammar.proofs.NoSchemaExamples.{attribute}
use Rattle.rng_grammar.proofs.OnePattern.{two_names}
use Rattle.rng_grammar.proofs.SchemaTrees.{bare_part, empty, empty_is, named_part, one_pattern, parts_are, rng, text, text_is}
use Rattle.rng_grammar.specs.Denoting as denoting
use Rattle.rng_grammar.specs.Denoting.{AreExcepted, HasAttributes, HasExcept, HasNames, HoldsText, HoldsValue, IsAnyAttributes, IsAttribute, IsElementOf, IsNameClass, IsNameOf, IsNamed, IsPart, IsPattern, IsRule}
use Rattle.rng_grammar.specs.Names.{relax_ng}
use Rattle.rng_grammar.specs.declared.grammar.AttrPart.TheVariants as attributes
use Rattle.rng_grammar.specs.declared.grammar.AttrRule.{AttrRule}
use Rattle.rng_grammar.specs.declared.grammar.Body.TheVariants as body
use Rattle.rng_grammar.specs.declared.grammar.Expr.{Expr}
use Rattle.rng_grammar.specs.declared.grammar.Expr.TheVariants as expr
use Rattle.rng_grammar.specs.declared.grammar.NameClass.TheVariants as class
use Rattle.rng_grammar.specs.declared.grammar.NameClass.{NameClass}

-- what stands in another namespace is passed over, and so is white space

abbrev other : List ℕ → Name
other local = record { ns = codes "urn:x"; local = local }

abbrev holding : List ℕ → List Attr → List Node → Tree
holding local attrs children = roll-Tree (record { name = relax_ng local; attrs = attrs; binds = []; children = children; at = 0 })

abbrev note : Tree
note = roll-Tree (record { name = other (codes "note"); attrs = []; binds = []; children = []; at = 0 })

abbrev annotated : Tree
annotated = holding (codes "empty") (record { name = other (codes "by"); value = codes "me" } ∷ []) (Element note ∷ Text (codes "\n") ∷ [])

annotated_is : IsPattern annotated expr.Empty
annotated_is = denoting.empty (record {
  is_part = record {
    is_named = record { named = refl; attributed = All-cons (λ (a : Attr). a.name.ns ≡ [] → StandsIn [] a.name.local) _ [] (λ e. apart (codes "urn:x") [] refl e) (All-nil _) };
    blank = search (rules, N.the_lemmas);
  };
  alone = search (rules, N.the_lemmas);
})

-- words are not, nor is an attribute without a namespace that is not known

words_inside : (allowed : List (List ℕ)) → IsPart (codes "group") allowed (holding (codes "group") [] (Text (codes "words") ∷ [])) → ⊥
words_inside allowed h = let e = h.blank in search (rules, N.the_lemmas)

unknown_attribute : (value : List ℕ) → IsNamed (codes "empty") [] (rng (codes "empty") (attribute (codes "ns") value ∷ []) []) → ⊥
unknown_attribute value h = nothing_stands _ (All-head (λ (a : Attr). a.name.ns ≡ [] → StandsIn [] a.name.local) (attribute (codes "ns") value) [] h.attributed refl)

-- a group of one child stays a group, and one of none is no pattern

group_of_one : IsPattern (rng (codes "group") [] (text ∷ [])) (expr.Group (expr.Text ∷ []))
group_of_one = denoting.group expr.Text [] (bare_part (codes "group") [] (text ∷ []))
    (subst (λ ts. denoting.ArePatterns ts (expr.Text ∷ [])) (sym (parts_are (text ∷ []) refl)) (denoting.more text_is denoting.none)) refl

-- name classes

abbrev namespace : Tree
namespace = rng (codes "nsName") [] []

-- a `nsName` without `ns` is of the grammar's namespace
default_space : IsNameClass (codes "urn:g") namespace (class.Within (record { ns = codes "urn:g"; but = [] } ∷ []))
default_space = denoting.space (record { is_part = bare_part (codes "nsName") (codes "ns" ∷ []) []; space = refl; but = denoting.none })

any_name : (default : List ℕ) → IsNameClass default (rng (codes "anyName") [] []) (class.AnyBut [] [])
any_name default = denoting.any (bare_part (codes "anyName") [] []) denoting.none

-- a `name` without `ns` in the `except` of a `nsName` is of the namespace of the `nsName`, whatever the grammar's is

abbrev b_named : Tree
b_named = holding (codes "name") [] (Text (codes "b") ∷ [])

abbrev excepting : Tree
excepting = rng (codes "except") [] (b_named ∷ [])

b_of : (default : List ℕ) → IsNameOf default b_named (record { ns = default; local = codes "b" })
b_of default = record {
  is_named = record { named = refl; attributed = All-nil (λ (a : Attr). a.name.ns ≡ [] → StandsIn (codes "ns" ∷ []) a.name.local) };
  written = refl;
  is_ncname = is_name (codes "b") refl;
  space = refl;
}

except_inherits : (default : List ℕ)
    → IsNameClass default (rng (codes "nsName") (attribute (codes "ns") (codes "urn:x") ∷ []) (excepting ∷ [])) (class.Within (record { ns = codes "urn:x"; but = other (codes "b") ∷ [] } ∷ []))
except_inherits default = denoting.space (record {
  is_part = record {
    is_named = record { named = refl; attributed = All-cons (λ (a : Attr). a.name.ns ≡ [] → StandsIn (codes "ns" ∷ []) a.name.local) _ [] (λ e. stands_first _ _) (All-nil _) };
    blank = (bare_part (codes "nsName") (codes "ns" ∷ []) (excepting ∷ [])).blank;
  };
  space = refl;
  but = subst (λ ts. HasExcept (codes "urn:x") ts [] (other (codes "b") ∷ [])) (sym (parts_are (excepting ∷ []) refl))
      (denoting.one (bare_part (codes "except") [] (b_named ∷ [])) (parts_are (b_named ∷ []) refl) (denoting.name (b_of (codes "urn:x")) denoting.none));
})

-- an `except` of nothing excepts nothing, and is none
empty_except : (default : List ℕ) (spaces : List (List ℕ)) (names : List Name) → HasExcept default (rng (codes "except") [] [] ∷ []) spaces names → ⊥
empty_except default spaces names (denoting.one h e k) = cc

-- a namespace is excepted from all names, and from none of a namespace
space_in_space : (default : List ℕ) (names : List Name) → AreExcepted default (namespace ∷ []) [] names → ⊥
space_in_space default names (denoting.name h k) = two_names namespace _ _ _ _ refl (bare_part (codes "nsName") [] []).is_named h.is_named

-- a `name` alone is no name class
name_alone : (default : List ℕ) (t : Tree) (names : NameClass) → IsNamed (codes "name") (codes "ns" ∷ []) t → IsNameClass default t names → ⊥
name_alone default t names n (denoting.any h but) = two_names t _ _ _ _ refl n h.is_named
name_alone default t names n (denoting.space h) = two_names t _ _ _ _ refl n h.is_part.is_named
name_alone default t names n (denoting.spaces h parts) = two_names t _ _ _ _ refl n h.is_named

-- `ns` stands beside `name` alone
space_beside_a_class : (default value : List ℕ) (parts : List Tree) (names : NameClass) (rest : List Tree)
    → HasNames default (rng (codes "element") (attribute (codes "ns") value ∷ []) parts) names rest → ⊥
space_beside_a_class default value parts names rest (denoting.by_name h) = let e = h.is_given in cc
space_beside_a_class default value parts names rest (denoting.by_part no_name no_space e h) = cc

-- any attributes are of any name, with any text

abbrev any : Tree
any = rng (codes "anyName") [] []

abbrev any_attribute : Tree
any_attribute = rng (codes "attribute") [] (any ∷ text ∷ [])

any_attributes : IsAnyAttributes (rng (codes "zeroOrMore") [] (any_attribute ∷ []))
any_attributes = record {
  is_part = bare_part (codes "zeroOrMore") [] (any_attribute ∷ []);
  attribute = any_attribute;
  alone = parts_are (any_attribute ∷ []) refl;
  is_attribute = bare_part (codes "attribute") [] (any ∷ text ∷ []);
  any = any;
  value = text ∷ [];
  parts = parts_are (any ∷ text ∷ []) refl;
  is_any = record { is_part = bare_part (codes "anyName") [] []; alone = refl };
  holds = denoting.text (record { is_part = bare_part (codes "text") [] []; alone = refl });
}

value_of_nothing_else : HoldsText (empty ∷ []) → ⊥
value_of_nothing_else (denoting.text h) = two_names empty _ _ [] [] refl (bare_part (codes "empty") [] []).is_named h.is_part.is_named

-- an attribute without `ns` is of no namespace, and one without a pattern takes any text

abbrev plain : List ℕ → Tree
plain local = rng (codes "attribute") (attribute (codes "name") local ∷ []) []

plain_is : IsAttribute (plain (codes "n")) (in_none (codes "n")) expr.Text
plain_is = record {
  is_part = named_part (codes "attribute") (codes "n") (codes "ns" ∷ []) [];
  named = record { is_given = refl; is_ncname = is_name (codes "n") refl };
  space = refl;
  holds = denoting.nothing;
}

plain_in_another : (value : Expr) → IsAttribute (plain (codes "n")) (other (codes "n")) value → ⊥
plain_in_another value h = apart (codes "urn:x") [] refl h.space

-- so it is where its element is of the grammar's namespace

abbrev rule : Bool → AttrRule
rule needed = record { name = in_none (codes "n"); needed = needed; value = expr.Text }

abbrev inside : List Tree
inside = plain (codes "n") ∷ empty ∷ []

element_in_another : IsElementOf (codes "urn:x") (rng (codes "element") (attribute (codes "name") (codes "a") ∷ []) inside)
    (body.Element (class.One (other (codes "a"))) (attributes.Listed (rule true ∷ [])) expr.Empty)
element_in_another = record {
  is_part = named_part (codes "element") (codes "a") (codes "ns" ∷ []) inside;
  names = class.One (other (codes "a"));
  after_names = _;
  has_names = denoting.by_name (record { is_given = refl; is_ncname = is_name (codes "a") refl });
  attrs = attributes.Listed (rule true ∷ []);
  inside = empty ∷ [];
  has_attributes = subst (λ ts. HasAttributes ts (attributes.Listed (rule true ∷ [])) (empty ∷ [])) (sym (parts_are inside refl))
      (denoting.listed (denoting.more (denoting.needed plain_is) denoting.none) (none_twice (in_none (codes "n") ∷ []) (tt, tt)));
  content = expr.Empty;
  holds = one_pattern empty expr.Empty empty_is;
  body_is = refl;
}

no_pattern : (p : Expr) → HoldsValue [] p → p ≡ expr.Text
no_pattern p denoting.nothing = refl

-- an `optional` of one attribute is a rule that does not need it, and one of two is none, since both stand or neither

one_optional : IsRule (rng (codes "optional") [] (plain (codes "n") ∷ [])) (rule false)
one_optional = denoting.optional (plain (codes "n")) (bare_part (codes "optional") [] (plain (codes "n") ∷ [])) (parts_are (plain (codes "n") ∷ []) refl) plain_is

abbrev two : List Tree
two = plain (codes "n") ∷ plain (codes "m") ∷ []

two_optional : (made : AttrRule) → IsRule (rng (codes "optional") [] two) made → ⊥
two_optional made (denoting.needed h) = two_names _ (codes "optional") (codes "attribute") _ _ refl (bare_part (codes "optional") [] two).is_named h.is_part.is_named
two_optional made (denoting.optional one h e is) = let f = sym (parts_are two refl) ∙ e in cc
