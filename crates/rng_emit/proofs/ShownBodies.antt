-- The trees of a grammar's printed name classes and defines.
use Rattle.std.proofs.Common.{◌≡◌, ◌≢◌, ℕ, Bool, true, false, cond, List, [], ◌∷◌, ◌++◌, map, refl, sym, ap, subst, ◌∙◌, Some}
use Rattle.std.proofs.lemmas.Bool.{false≢true}
use Rattle.std.proofs.lemmas.List.Elements.{All-head, All-tail, All-cons}
use Rattle.std.specs.Cmp.Lexicographic.{same_text}
use Rattle.std.specs.Prelude.{All, IsTrue, codes, unwrap_or}
use Rattle.std.specs.Str.{encode_utf8_all}
use Rattle.odd_text.specs.declared.name.Name.{Name}
use Rattle.odd_tokens.proofs.Characters.{some_encoded}
use Rattle.odd_tokens.specs.Characters.{IsNCName, is_ncname}
use Rattle.odd_tokens.specs.Lexing.{is_empty}
use Rattle.odd_text.specs.Same.{is_same}
use Rattle.odd_tree.proofs.PrintedTrees.{HasHead, Shows, attr_of, text_nodes}
use Rattle.odd_tree.specs.Elements.{attribute_value, given}
use Rattle.odd_tree.specs.Markup.{Markup, Pair, all_of, element, plain}
use Rattle.odd_tree.specs.declared.tree.Node.{Text}
use Rattle.odd_tree.specs.declared.tree.Tree.{Tree}
use Rattle.rng_grammar.specs.Denoting as denoting
use Rattle.rng_grammar.specs.Denoting.{AreExcepted, AreSpaceParts, HasExcept, IsNameClass, IsNameOf, IsSpaceOf, IsSpacePart, parts_of, AreDefines, AreOnePattern, HasAttributes, HasNames, IsAnyAttributes, IsBody, IsDefine, IsElementOf, IsPart, AreRules, HoldsValue, IsAttribute, IsRule}
use Rattle.rng_grammar.specs.Names.{relax_ng_namespace}
use Rattle.rng_grammar.specs.declared.grammar.AttrPart.{AttrPart}
use Rattle.rng_grammar.specs.declared.grammar.AttrPart.TheVariants as attributes
use Rattle.rng_grammar.specs.declared.grammar.AttrRule.{AttrRule}
use Rattle.rng_grammar.specs.declared.grammar.Body.{Body}
use Rattle.rng_grammar.specs.declared.grammar.Body.TheVariants as body
use Rattle.rng_grammar.specs.declared.grammar.Define.{Define}
use Rattle.rng_grammar.specs.declared.grammar.Expr.{Expr}
use Rattle.rng_grammar.specs.declared.grammar.NameClass.{NameClass}
use Rattle.rng_grammar.specs.declared.grammar.NameClass.TheVariants as class
use Rattle.rng_grammar.specs.declared.grammar.NsPart.{NsPart}
use Rattle.rng_emit.proofs.Shown.{AreShown, IsShown, is_part, leaf_shown, named_so, shown, value_in, HoldsParts, holds_parts, one_attribute, one_part, Allows, no_attribute, one_pattern, pattern_shown}
use Rattle.rng_emit.specs.Grammar.{attribute_markup, except_markup, name_markup, part_markup, parts_markup, space_markup, any_attributes, attributes_markup, body_markup, define_markup, pattern_markup, rule_markup}
use Rattle.rng_emit.proofs.Printable.{IsPlainName, IsPlainPart, ArePlainAttributes, IsPlainBody, IsPlainClass, IsPlainDefine, IsPlainPattern, IsPlainRule}

-- the namespace that an element gives
space_given : (default tag ns : List ℕ) (t : Tree) → HasHead relax_ng_namespace tag ((codes "ns", ns) ∷ []) t → ns ≡ unwrap_or (given t (codes "ns")) default
space_given default tag ns t h = ap (λ o. unwrap_or o default) (sym (value_in tag ((codes "ns", ns) ∷ []) t (codes "ns") h))

-- a name is not empty, so its text is a node
some_name : (cs : List ℕ) → IsTrue (is_ncname cs) → encode_utf8_all cs ≡ [] → ⊥
some_name [] n e = absurd (false≢true n)
some_name (c ∷ cs) n e = absurd (false≢true (sym (some_encoded c cs) ∙ ap is_empty e))

-- and that node is all that the `name` holds
name_node : (name : List ℕ) → IsNCName name → text_nodes name ≡ Text name ∷ []
name_node [] n = absurd (some_name n.0 n.2 n.1)
name_node (c ∷ cs) n = refl

-- a namespace, and a name, in an `except`
space_shown : (default ns : List ℕ) (t : Tree) → Shows relax_ng_namespace [] (space_markup ns) t → IsSpaceOf default t ns
space_shown default ns t s = record {
  is_leaf = leaf_shown (codes "nsName") ((codes "ns", ns) ∷ []) (codes "ns" ∷ []) t s (one_attribute (codes "ns") ns);
  is = space_given default (codes "nsName") ns t s.0;
}

name_shown : (default : List ℕ) (n : Name) (t : Tree) → IsPlainName n → Shows relax_ng_namespace [] (name_markup n) t → IsNameOf default t n
name_shown default n t p s = record {
  is_named = named_so (codes "name") ((codes "ns", n.ns) ∷ []) (codes "ns" ∷ []) t s.0 (one_attribute (codes "ns") n.ns);
  written = s.1 ∙ name_node n.local p.named;
  is_ncname = p.named;
  space = space_given default (codes "name") n.ns t s.0;
}

-- what an `except` holds
names_shown : (default : List ℕ) (ns : List Name) (ts : List Tree) → All IsPlainName ns → AreShown (map name_markup ns) ts → AreExcepted default ts [] ns
names_shown default [] [] p s = denoting.none
names_shown default [] (t ∷ ts) p s = absurd s
names_shown default (n ∷ ns) [] p s = absurd s
names_shown default (n ∷ ns) (t ∷ ts) p s =
    denoting.name (name_shown default n t (All-head IsPlainName n ns p) s.0) (names_shown default ns ts (All-tail IsPlainName n ns p) s.1)

-- and that with namespaces before the names
excepted_shown : (default : List ℕ) (spaces : List (List ℕ)) (ns : List Name) (ts : List Tree) → All IsPlainName ns → AreShown (map space_markup spaces ++ map name_markup ns) ts
    → AreExcepted default ts spaces ns
excepted_shown default [] ns ts p s = names_shown default ns ts p s
excepted_shown default (space ∷ spaces) ns [] p s = absurd s
excepted_shown default (space ∷ spaces) ns (t ∷ ts) p s = denoting.space (space_shown default space t s.0) (excepted_shown default spaces ns ts p s.1)

-- an `except` that holds something
full_except : (default : List ℕ) (spaces : List (List ℕ)) (ns : List Name) (m : Markup) (ms : List Markup) (ts : List Tree) → All IsPlainName ns
    → map space_markup spaces ++ map name_markup ns ≡ m ∷ ms → AreShown (plain (codes "except") (m ∷ ms) ∷ []) ts → HasExcept default ts spaces ns
full_except default spaces ns m ms [] p e s = absurd s
full_except default spaces ns m ms (t ∷ u ∷ ts) p e s = absurd s.1
full_except default spaces ns m ms (t ∷ []) p e s = inside (parts_of t) refl h.parts
  where
    h : HoldsParts (codes "except") (m ∷ ms) t
    h = holds_parts (codes "except") (m ∷ ms) t s.0

    inside : (us : List Tree) → parts_of t ≡ us → AreShown (m ∷ ms) us → HasExcept default (t ∷ []) spaces ns
    inside [] f k = absurd k
    inside (u ∷ us) f k = denoting.one h.is_part f (excepted_shown default spaces ns (u ∷ us) p (subst (λ xs. AreShown xs (u ∷ us)) (sym e) k))

-- an `except`, where something is left out
except_shown : (default : List ℕ) (spaces : List (List ℕ)) (ns : List Name) (ts : List Tree) → All IsPlainName ns
    → AreShown (except_markup (map space_markup spaces ++ map name_markup ns)) ts → HasExcept default ts spaces ns
except_shown default [] [] [] p s = denoting.none
except_shown default [] [] (t ∷ ts) p s = absurd s
except_shown default [] (n ∷ ns) ts p s = full_except default [] (n ∷ ns) _ _ ts p refl s
except_shown default (space ∷ spaces) ns ts p s = full_except default (space ∷ spaces) ns _ _ ts p refl s

-- the names in one namespace
part_shown : (default : List ℕ) (part : NsPart) (t : Tree) → IsPlainPart part → Shows relax_ng_namespace [] (part_markup part) t → IsSpacePart default t part
part_shown default part t p s =
    let h : IsShown (codes "nsName") ((codes "ns", part.ns) ∷ []) (except_markup (map name_markup part.but)) t = shown [] _ _ (except_markup (map name_markup part.but)) t s in
    record {
      is_part = is_part _ _ _ (codes "ns" ∷ []) t h (one_attribute (codes "ns") part.ns);
      space = space_given default (codes "nsName") part.ns t h.head;
      but = except_shown part.ns [] part.but (parts_of t) p.but h.parts;
    }

-- and in each of some
parts_shown : (default : List ℕ) (parts : List NsPart) (ts : List Tree) → All IsPlainPart parts → AreShown (map part_markup parts) ts → AreSpaceParts default ts parts
parts_shown default [] [] p s = denoting.none
parts_shown default [] (t ∷ ts) p s = absurd s
parts_shown default (part ∷ parts) [] p s = absurd s
parts_shown default (part ∷ parts) (t ∷ ts) p s =
    denoting.more (part_shown default part t (All-head IsPlainPart part parts p) s.0) (parts_shown default parts ts (All-tail IsPlainPart part parts p) s.1)

-- the names in some namespaces
pub within_shown : (default : List ℕ) (parts : List NsPart) (t : Tree) → parts ≢ [] → All IsPlainPart parts → Shows relax_ng_namespace [] (parts_markup parts) t
    → IsNameClass default t (class.Within parts)
within_shown default [] t some p s = absurd (some refl)
within_shown default (part ∷ []) t some p s = denoting.space (part_shown default part t (All-head IsPlainPart part [] p) s)
within_shown default (part ∷ other ∷ parts) t some p s =
    let h = holds_parts (codes "choice") (map part_markup (part ∷ other ∷ parts)) t s in
    denoting.spaces h.is_part (parts_shown default (part ∷ other ∷ parts) (parts_of t) p h.parts)

-- all names but some
pub any_shown : (default : List ℕ) (spaces : List (List ℕ)) (ns : List Name) (t : Tree) → All IsPlainName ns
    → Shows relax_ng_namespace [] (plain (codes "anyName") (except_markup (map space_markup spaces ++ map name_markup ns))) t → IsNameClass default t (class.AnyBut spaces ns)
any_shown default spaces ns t p s =
    let h = holds_parts (codes "anyName") (except_markup (map space_markup spaces ++ map name_markup ns)) t s in
    denoting.any h.is_part (except_shown default spaces ns (parts_of t) p h.parts)

-- the attributes that an `element` may have
abbrev allowed : List (List ℕ)
allowed = codes "name" ∷ codes "ns" ∷ []

-- a name and a namespace are allowed
pair_allowed : (name : Name) → All (Allows allowed) ((codes "name", name.local) ∷ (codes "ns", name.ns) ∷ [])
pair_allowed name =
    All-cons (Allows allowed) (codes "name", name.local) ((codes "ns", name.ns) ∷ []) ([], codes "ns" ∷ [], refl)
    (All-cons (Allows allowed) (codes "ns", name.ns) [] (codes "name" ∷ [], [], refl) (no_attribute allowed))

-- the pattern of an attribute's value
value_shown : (p : Expr) (ts : List Tree) → IsPlainPattern p → AreShown (pattern_markup p ∷ []) ts → HoldsValue ts p
value_shown p [] a s = absurd s
value_shown p (t ∷ []) a s = denoting.pattern (pattern_shown p t a s.0)
value_shown p (t ∷ u ∷ ts) a s = absurd s.1

-- any attributes
any_attributes_shown : (t : Tree) → Shows relax_ng_namespace [] any_attributes t → IsAnyAttributes t
any_attributes_shown t s =
    let inner = plain (codes "anyName") [] in
    let middle = plain (codes "attribute") (inner ∷ []) in
    let h = holds_parts (codes "zeroOrMore") (middle ∷ []) t s in
    let one = one_part middle (parts_of t) h.parts in
    let k = holds_parts (codes "attribute") (inner ∷ []) one.inside one.shows in
    let any = one_part inner (parts_of one.inside) k.parts in
    record {
      is_part = h.is_part;
      attribute = one.inside;
      alone = one.alone;
      is_attribute = k.is_part;
      any = any.inside;
      value = [];
      parts = any.alone;
      is_any = leaf_shown (codes "anyName") [] [] any.inside any.shows (no_attribute []);
      holds = denoting.nothing;
    }

-- an attribute, by the pairs of its tag
abbrev attribute_of : AttrRule → List Pair → Markup
attribute_of rule pairs = element (codes "attribute") pairs (all_of (pattern_markup rule.value ∷ []))

by_pairs : (rule : AttrRule) (t : Tree) (pairs : List Pair) → IsPlainRule rule → All (Allows allowed) pairs
    → attribute_value (map attr_of pairs) (codes "name") ≡ Some rule.name.local
    → rule.name.ns ≡ unwrap_or (attribute_value (map attr_of pairs) (codes "ns")) [] → Shows relax_ng_namespace [] (attribute_of rule pairs) t → IsAttribute t rule.name rule.value
by_pairs rule t pairs p allow name space s =
    let h = shown [] (codes "attribute") pairs (pattern_markup rule.value ∷ []) t s in
    record {
      is_part = is_part _ _ _ allowed t h allow;
      named = record { is_given = value_in (codes "attribute") pairs t (codes "name") h.head ∙ name; is_ncname = p.named.named };
      space = space ∙ ap (λ o. unwrap_or o []) (sym (value_in (codes "attribute") pairs t (codes "ns") h.head));
      holds = value_shown rule.value (parts_of t) p.value h.parts;
    }

-- it has a namespace where that is not empty
attribute_shown : (rule : AttrRule) (t : Tree) → IsPlainRule rule → Shows relax_ng_namespace [] (attribute_markup rule) t → IsAttribute t rule.name rule.value
attribute_shown rule t p s = by_space (is_same rule.name.ns []) refl s
  where
    name : Pair
    name = (codes "name", rule.name.local)

    by_space : (b : Bool) → is_same rule.name.ns [] ≡ b → Shows relax_ng_namespace [] (attribute_of rule (name ∷ cond b [] ((codes "ns", rule.name.ns) ∷ []))) t
        → IsAttribute t rule.name rule.value
    by_space true e k =
        by_pairs rule t (name ∷ []) p (All-cons (Allows allowed) name [] ([], codes "ns" ∷ [], refl) (no_attribute allowed)) refl (same_text rule.name.ns [] (sym e)) k
    by_space false e k = by_pairs rule t (name ∷ (codes "ns", rule.name.ns) ∷ []) p (pair_allowed rule.name) refl refl k

-- a rule, by whether the attribute is needed
rule_shown : (rule : AttrRule) (t : Tree) → IsPlainRule rule → Shows relax_ng_namespace [] (rule_markup rule) t → IsRule t rule
rule_shown rule t p s = by_need rule.needed s
  where
    by_need : (b : Bool) → Shows relax_ng_namespace [] (cond b (attribute_markup rule) (plain (codes "optional") (attribute_markup rule ∷ []))) t
        → IsRule t (record { name = rule.name; needed = b; value = rule.value })
    by_need true k = denoting.needed (attribute_shown rule t p k)
    by_need false k =
        let h = holds_parts (codes "optional") (attribute_markup rule ∷ []) t k in
        let one = one_part (attribute_markup rule) (parts_of t) h.parts in
        denoting.optional one.inside h.is_part one.alone (attribute_shown rule one.inside p one.shows)

-- rules, and what is printed behind them
record HasRules (rules : List AttrRule) (ms : List Markup) (ts : List Tree) : Type 0 where
  rest : List Tree
  are : AreRules ts rules rest
  shown : AreShown ms rest

rules_shown : (rules : List AttrRule) (ms : List Markup) (ts : List Tree) → All IsPlainRule rules → AreShown (map rule_markup rules ++ ms) ts → HasRules rules ms ts
rules_shown [] ms ts p s = record { rest = ts; are = denoting.none; shown = s }
rules_shown (rule ∷ rules) ms [] p s = absurd s
rules_shown (rule ∷ rules) ms (t ∷ ts) p s =
    let h = rules_shown rules ms ts (All-tail IsPlainRule rule rules p) s.1 in
    record { rest = h.rest; are = denoting.more (rule_shown rule t (All-head IsPlainRule rule rules p) s.0) h.are; shown = h.shown }

-- attributes and content, behind the names
record HasRest (attrs : AttrPart) (content : Expr) (ts : List Tree) : Type 0 where
  inside : List Tree
  has_attributes : HasAttributes ts attrs inside
  holds : AreOnePattern inside content

-- what is printed behind the names is that
rest_shown : (attrs : AttrPart) (content : Expr) (ts : List Tree) → ArePlainAttributes attrs → IsPlainPattern content
    → AreShown (attributes_markup attrs ++ pattern_markup content ∷ []) ts → HasRest attrs content ts
rest_shown attributes.AnyAttributes content [] a p s = absurd s
rest_shown attributes.AnyAttributes content (t ∷ ts) a p s =
    record { inside = ts; has_attributes = denoting.any (any_attributes_shown t s.0); holds = one_pattern content ts p s.1 }
rest_shown (attributes.Listed rules) content ts a p s =
    let h = rules_shown rules (pattern_markup content ∷ []) ts a.0 s in
    record { inside = h.rest; has_attributes = denoting.listed h.are a.1; holds = one_pattern content h.rest p h.shown }

-- an `element`
module _ (default : List ℕ) (attrs : AttrPart) (content : Expr) (a : ArePlainAttributes attrs) (p : IsPlainPattern content) (t : Tree) where
  -- by its parts
  made : (names : NameClass) (after : List Tree) → IsPart (codes "element") allowed t → HasNames default t names after → HasRest attrs content after
      → IsElementOf default t (body.Element names attrs content)
  made names after is has rest = record {
    is_part = is;
    names = names;
    after_names = after;
    has_names = has;
    attrs = attrs;
    inside = rest.inside;
    has_attributes = rest.has_attributes;
    content = content;
    holds = rest.holds;
    body_is = refl;
  }

  -- names by the first part
  by_part : (names : NameClass) (m : Markup) → ((u : Tree) → Shows relax_ng_namespace [] m u → IsNameClass default u names)
      → IsShown (codes "element") [] (m ∷ (attributes_markup attrs ++ pattern_markup content ∷ [])) t
      → (ts : List Tree) → parts_of t ≡ ts → AreShown (m ∷ (attributes_markup attrs ++ pattern_markup content ∷ [])) ts → IsElementOf default t (body.Element names attrs content)
  by_part names m class_shown h [] e s = absurd s
  by_part names m class_shown h (u ∷ us) e s =
      made names us (is_part _ _ _ allowed t h (no_attribute allowed))
      (denoting.by_part (value_in (codes "element") [] t (codes "name") h.head) (value_in (codes "element") [] t (codes "ns") h.head) e (class_shown u s.0))
      (rest_shown attrs content us a p s.1)

  -- by its class of names
  element_shown : (names : NameClass) → IsPlainClass names → Shows relax_ng_namespace [] (body_markup (body.Element names attrs content)) t
      → IsElementOf default t (body.Element names attrs content)
  element_shown (class.One name) n s =
      let pairs : List Pair = (codes "name", name.local) ∷ (codes "ns", name.ns) ∷ [] in
      let h = shown [] (codes "element") pairs (attributes_markup attrs ++ pattern_markup content ∷ []) t s in
      let space : given t (codes "ns") ≡ Some name.ns = value_in (codes "element") pairs t (codes "ns") h.head in
      made (class.One name) (parts_of t) (is_part _ _ _ allowed t h (pair_allowed name))
      (subst (λ o. HasNames default t (class.One (record { ns = unwrap_or o default; local = name.local })) (parts_of t)) space
      (denoting.by_name (record { is_given = value_in (codes "element") pairs t (codes "name") h.head; is_ncname = n.named })))
      (rest_shown attrs content (parts_of t) a p h.parts)
  element_shown (class.AnyBut spaces names) n s =
      let m = plain (codes "anyName") (except_markup (map space_markup spaces ++ map name_markup names)) in
      let h = shown [] (codes "element") [] (m ∷ (attributes_markup attrs ++ pattern_markup content ∷ [])) t s in
      by_part (class.AnyBut spaces names) m (λ u. any_shown default spaces names u n.1) h (parts_of t) refl h.parts
  element_shown (class.Within parts) n s =
      let h = shown [] (codes "element") [] (parts_markup parts ∷ (attributes_markup attrs ++ pattern_markup content ∷ [])) t s in
      by_part (class.Within parts) (parts_markup parts) (λ u. within_shown default parts u n.0 n.1) h (parts_of t) refl h.parts

-- what a define holds
body_shown : (default : List ℕ) (b : Body) (ts : List Tree) → IsPlainBody b → AreShown (body_markup b ∷ []) ts → IsBody default ts b
body_shown default (body.Element names attrs content) [] b s = absurd s
body_shown default (body.Element names attrs content) (t ∷ []) b s = denoting.element (element_shown default attrs content b.1 b.2 t names b.0 s.0)
body_shown default (body.Element names attrs content) (t ∷ u ∷ ts) b s = absurd s.1
body_shown default (body.Part p) ts b s = denoting.part (one_pattern p ts b s)

-- a define, and each of some
define_shown : (default : List ℕ) (d : Define) (t : Tree) → IsPlainDefine d → Shows relax_ng_namespace [] (define_markup d) t → IsDefine default t d
define_shown default d t p s =
    let pairs : List Pair = (codes "name", d.name) ∷ [] in
    let h = shown [] (codes "define") pairs (body_markup d.body ∷ []) t s in
    record {
      is_part = is_part _ _ _ (codes "name" ∷ []) t h (one_attribute (codes "name") d.name);
      named = record { is_given = value_in (codes "define") pairs t (codes "name") h.head; is_ncname = p.named };
      holds = body_shown default d.body (parts_of t) p.body h.parts;
    }

pub defines_shown : (default : List ℕ) (ds : List Define) (ts : List Tree) → All IsPlainDefine ds → AreShown (map define_markup ds) ts → AreDefines default ts ds
defines_shown default [] [] p s = denoting.none
defines_shown default [] (t ∷ ts) p s = absurd s
defines_shown default (d ∷ ds) [] p s = absurd s
defines_shown default (d ∷ ds) (t ∷ ts) p s =
    denoting.more (define_shown default d t (All-head IsPlainDefine d ds p) s.0) (defines_shown default ds ts (All-tail IsPlainDefine d ds p) s.1)
