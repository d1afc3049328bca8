-- The tree of a printed element of RELAX NG and of a printed pattern.
use Rattle.std.proofs.Common.{◌≡◌, ℕ, true, ◌||◌, List, [], ◌∷◌, ◌++◌, map, cond, refl, sym, ap, subst, ◌∙◌, rules}
use Rattle.std.proofs.lemmas.Bool.{and_from}
use Rattle.std.proofs.lemmas.List.Elements.{All-map, All-nil, All-cons}
use Rattle.std.specs.List.{list_all}
use Rattle.std.specs.Prelude.{All, IsTrue, codes, filter}
use Rattle.odd_text.specs.declared.name.Bind.{Bind}
use Rattle.odd_text.specs.Same.{is_same}
use Rattle.odd_tree.proofs.InTree.{element_shown, text_shown}
use Rattle.odd_tree.proofs.PrintedTrees.{AreLines, HasHead, Shows, attr_of, line_break, text_nodes}
use Rattle.odd_text.specs.Standing.{StandsIn}
use Rattle.odd_tree.specs.Elements.{attribute_value, elements_of, shown_elements, given}
use Rattle.odd_tree.specs.Markup.{Pair, Markup, declaring, element, line, none, more, all_of, plain}
use Rattle.odd_tree.specs.Significant.{is_blank, is_element}
use Rattle.odd_tree.specs.declared.tree.Attr.{Attr}
use Rattle.odd_tree.specs.declared.tree.Node.{Node, out-Node, Element}
use Rattle.odd_tree.specs.declared.tree.Node as N
use Rattle.odd_tree.specs.declared.tree.Tree.{Tree, out-Tree}
use Rattle.rng_types.specs.declared.data_type.DataType.{DataType}
use Rattle.rng_types.specs.declared.facet.Facet.{Facet}
use Rattle.rng_grammar.proofs.SchemaTrees.{element_passes}
use Rattle.rng_grammar.specs.Denoting.{IsLeaf, IsNamed, IsPart, parts_of, AreOnePattern, AreParams, ArePatterns, HasText, IsData, IsParam, IsPattern, IsSame, IsStart}
use Rattle.rng_grammar.specs.Denoting as denoting
use Rattle.rng_grammar.specs.Names.{relax_ng_namespace}
use Rattle.rng_grammar.specs.declared.grammar.Expr.{Expr}
use Rattle.rng_emit.proofs.Shapes.{choice_is, empty_is, group_is, list_is, not_allowed_is, one_or_more_is, optional_is, ref_is, same_is, text_is, typed_is, zero_or_more_is}
use Rattle.rng_emit.proofs.ShownTypes.{param_of, params_of, printed_item, printed_sound, reads}
use Rattle.rng_emit.specs.Grammar.{facet_name, named, param_markup, pattern_markup, type_name}
use Rattle.rng_emit.proofs.Printable as is
use Rattle.rng_emit.proofs.Printable.{ArePlainPatterns, IsPlainPattern, IsPlainType}

-- the trees show the elements, one each in order
abbrev pub AreShown : List Markup → List Tree → Type 0
AreShown [] [] = Unit {0}
AreShown (m ∷ ms) (t ∷ ts) = Shows relax_ng_namespace [] m t × AreShown ms ts
AreShown ms ts = ⊥

-- the elements of RELAX NG among some nodes
abbrev parts_in : List Node → List Tree
parts_in nodes = filter (λ u. is_same (out-Tree u).name.ns relax_ng_namespace) (elements_of nodes)

-- an element, or white space
abbrev Passes : List Node → Type 0
Passes nodes = IsTrue (list_all (λ n. is_element n || is_blank n) nodes)

-- a shown tree is of the namespace
shown_namespace : (ns : List ℕ) (m : Markup) (t : Tree) → Shows ns [] m t → (out-Tree t).name.ns ≡ ns
shown_namespace ns (element name attributes none) t s = ap (λ n. n.ns) s.0.named
shown_namespace ns (element name attributes (more m rest)) t s = ap (λ n. n.ns) s.0.named
shown_namespace ns (line name attributes text) t s = ap (λ n. n.ns) s.0.named
shown_namespace ns (declaring name prefixes attributes) t s = ap (λ n. n.ns) s.0.named

-- so it counts, and the line break behind it does not
parts_more : (t : Tree) (later : List Node) → (out-Tree t).name.ns ≡ relax_ng_namespace → parts_in (Element t ∷ line_break ∷ later) ≡ t ∷ parts_in later
parts_more t later e =
    ap (λ ts. filter (λ u. is_same (out-Tree u).name.ns relax_ng_namespace) (ts ++ (shown_elements (out-Node line_break) ++ elements_of later))) (element_shown (Element t) t refl)
    ∙ ap (λ ts. filter (λ u. is_same (out-Tree u).name.ns relax_ng_namespace) (t ∷ (ts ++ elements_of later))) (text_shown line_break (codes "\n") refl)
    ∙ ap (λ ns. cond (is_same ns relax_ng_namespace) (t ∷ parts_in later) (parts_in later)) e

parts_break : (later : List Node) → parts_in (line_break ∷ later) ≡ parts_in later
parts_break later = ap (λ ts. filter (λ u. is_same (out-Tree u).name.ns relax_ng_namespace) (ts ++ elements_of later)) (text_shown line_break (codes "\n") refl)

break_passes : (is_element line_break || is_blank line_break) ≡ true
break_passes = search (rules, N.the_lemmas)

-- the lines of some elements have the elements as their parts
lines_shown : (ms : List Markup) (lines : List Node) → AreLines relax_ng_namespace (all_of ms) lines → AreShown ms (parts_in lines)
lines_shown [] lines e = subst (λ ns. AreShown [] (parts_in ns)) (sym e) tt
lines_shown (m ∷ ms) lines (t, later, e, s, rest) =
    subst (AreShown (m ∷ ms)) (sym (ap parts_in e ∙ parts_more t later (shown_namespace relax_ng_namespace m t s))) (s, lines_shown ms later rest)

lines_pass : (ms : List Markup) (lines : List Node) → AreLines relax_ng_namespace (all_of ms) lines → Passes lines
lines_pass [] lines e = subst Passes (sym e) refl
lines_pass (m ∷ ms) lines (t, later, e, s, rest) =
    subst Passes (sym e) (and_from _ _ (element_passes t) (and_from _ _ break_passes (lines_pass ms later rest)))

-- what a tree that shows an element has
pub record IsShown (name : List ℕ) (attributes : List Pair) (ms : List Markup) (t : Tree) : Type 0 where
  pub head : HasHead relax_ng_namespace name attributes t
  pub parts : AreShown ms (parts_of t)
  pub blank : Passes (out-Tree t).children

pub shown : (binds : List Bind) (name : List ℕ) (attributes : List Pair) (ms : List Markup) (t : Tree) → Shows relax_ng_namespace binds (element name attributes (all_of ms)) t
    → IsShown name attributes ms t
shown binds name attributes [] t s = record {
  head = s.0;
  parts = subst (λ ns. AreShown [] (parts_in ns)) (sym s.1) tt;
  blank = subst Passes (sym s.1) refl;
}
shown binds name attributes (m ∷ ms) t s = record {
  head = s.0;
  parts = subst (AreShown (m ∷ ms)) (sym (ap parts_in s.1.1 ∙ parts_break s.1.0)) (lines_shown (m ∷ ms) s.1.0 s.1.2);
  blank = subst Passes (sym s.1.1) (and_from _ _ break_passes (lines_pass (m ∷ ms) s.1.0 s.1.2));
}

-- an element of RELAX NG, by its tag, and with what is in it
pub named_so : (name : List ℕ) (attributes : List Pair) (allowed : List (List ℕ)) (t : Tree) → HasHead relax_ng_namespace name attributes t
    → All (λ (a : Pair). StandsIn allowed a.0) attributes → IsNamed name allowed t
named_so name attributes allowed t h allow = record {
  named = h.named;
  attributed = subst (All (λ a. a.name.ns ≡ [] → StandsIn allowed a.name.local)) (sym h.attributed)
      (All-map (λ (a : Attr). a.name.ns ≡ [] → StandsIn allowed a.name.local) attr_of attributes (λ k d e f. allow k d e));
}

pub is_part : (name : List ℕ) (attributes : List Pair) (ms : List Markup) (allowed : List (List ℕ)) (t : Tree) → IsShown name attributes ms t
    → All (λ (a : Pair). StandsIn allowed a.0) attributes → IsPart name allowed t
is_part name attributes ms allowed t s allow = record {
  is_named = named_so name attributes allowed t s.head allow;
  blank = s.blank;
}

-- the value of an attribute
pub value_in : (name : List ℕ) (attributes : List Pair) (t : Tree) (local : List ℕ) → HasHead relax_ng_namespace name attributes t
    → given t local ≡ attribute_value (map attr_of attributes) local
value_in name attributes t local h = ap (λ xs. attribute_value xs local) h.attributed

-- no part
no_part : (ts : List Tree) → AreShown [] ts → ts ≡ []
no_part [] h = refl
no_part (t ∷ ts) h = absurd h

-- one part
pub record IsOnePart (m : Markup) (ts : List Tree) : Type 0 where
  pub inside : Tree
  pub alone : ts ≡ inside ∷ []
  pub shows : Shows relax_ng_namespace [] m inside

pub one_part : (m : Markup) (ts : List Tree) → AreShown (m ∷ []) ts → IsOnePart m ts
one_part m [] h = absurd h
one_part m (t ∷ ts) h = record { inside = t; alone = ap (λ us. t ∷ us) (no_part ts h.1); shows = h.0 }

-- an element with no part
pub leaf_shown : (name : List ℕ) (attributes : List Pair) (allowed : List (List ℕ)) (t : Tree) → Shows relax_ng_namespace [] (element name attributes none) t
    → All (λ (a : Pair). StandsIn allowed a.0) attributes → IsLeaf name allowed t
leaf_shown name attributes allowed t s allow =
    let h = shown [] name attributes [] t s in
    record { is_part = is_part name attributes [] allowed t h allow; alone = no_part (parts_of t) h.parts }

-- the attribute is one of the allowed ones
abbrev pub Allows : List (List ℕ) → Pair → Type 0
Allows allowed a = StandsIn allowed a.0

-- a tag without attributes has none but allowed ones
pub no_attribute : (allowed : List (List ℕ)) → All (Allows allowed) []
no_attribute allowed = All-nil (Allows allowed)

-- one attribute, that is the allowed one
pub one_attribute : (name value : List ℕ) → All (Allows (name ∷ [])) ((name, value) ∷ [])
one_attribute name value = All-cons (Allows (name ∷ [])) (name, value) [] ([], [], refl) (no_attribute _)

-- an element without attributes around some others
pub record HoldsParts (tag : List ℕ) (ms : List Markup) (t : Tree) : Type 0 where
  pub is_part : IsPart tag [] t
  pub parts : AreShown ms (parts_of t)

-- so does a tree that shows one
pub holds_parts : (tag : List ℕ) (ms : List Markup) (t : Tree) → Shows relax_ng_namespace [] (plain tag ms) t → HoldsParts tag ms t
holds_parts tag ms t s = let h = shown [] tag [] ms t s in record { is_part = is_part tag [] ms [] t h (no_attribute []); parts = h.parts }

-- a tree that shows a pattern, by what the pattern is printed to
as_printed : (p : Expr) (m : Markup) (t : Tree) → pattern_markup p ≡ m → Shows relax_ng_namespace [] (pattern_markup p) t → Shows relax_ng_namespace [] m t
as_printed p m t e s = subst (λ n. Shows relax_ng_namespace [] n t) e s

-- one pattern alone
lone : (p : Expr) (ts : List Tree) → ((t : Tree) → Shows relax_ng_namespace [] (pattern_markup p) t → IsPattern t p) → AreShown (pattern_markup p ∷ []) ts → ArePatterns ts (p ∷ [])
lone p [] f s = absurd s
lone p (t ∷ []) f s = denoting.more (f t s.0) denoting.none
lone p (t ∷ u ∷ ts) f s = absurd s.1

-- a text is that of its nodes
has_text : (text : List ℕ) → HasText (text_nodes text) text
has_text [] = denoting.nothing
has_text (c ∷ cs) = denoting.text

same_shown : (text : List ℕ) (t : Tree) → Shows relax_ng_namespace [] (line (codes "value") [] text) t → IsSame t text
same_shown text t s = record {
  is_named = named_so (codes "value") [] [] t s.0 (no_attribute []);
  written = subst (λ ns. HasText ns text) (sym s.1) (has_text text);
}

-- a facet, and each of some
param_shown : (f : Facet) (t : Tree) → Shows relax_ng_namespace [] (param_markup f) t → IsParam t (param_of f)
param_shown f t s =
    let pairs : List Pair = (codes "name", facet_name f.name) ∷ [] in
    record {
      is_named = named_so (codes "param") pairs (codes "name" ∷ []) t s.0 (one_attribute (codes "name") (facet_name f.name));
      named = value_in (codes "param") pairs t (codes "name") s.0;
      written = subst (λ ns. HasText ns f.value) (sym s.1) (has_text f.value);
    }

params_shown : (fs : List Facet) (ts : List Tree) → AreShown (map param_markup fs) ts → AreParams ts (params_of fs)
params_shown [] [] s = denoting.none
params_shown [] (t ∷ ts) s = absurd s
params_shown (f ∷ fs) [] s = absurd s
params_shown (f ∷ fs) (t ∷ ts) s = denoting.more (param_shown f t s.0) (params_shown fs ts s.1)

-- a datatype with its facets
data_shown : (k : DataType) (fs : List Facet) (t : Tree) → IsPlainType k fs
    → Shows relax_ng_namespace [] (element (codes "data") ((codes "type", type_name k) ∷ []) (all_of (map param_markup fs))) t → IsData t k fs
data_shown k fs t p s =
    let pairs : List Pair = (codes "type", type_name k) ∷ [] in
    let h = shown [] (codes "data") pairs (map param_markup fs) t s in
    record {
      is_part = is_part _ _ _ (codes "type" ∷ []) t h (one_attribute (codes "type") (type_name k));
      type = type_name k;
      typed = value_in (codes "data") pairs t (codes "type") h.head;
      params = params_of fs;
      are_params = params_shown fs (parts_of t) h.parts;
      sound = printed_sound k fs p;
      kind = k;
      item = printed_item k fs p;
      read = reads k fs p;
    }

-- by what a plain pattern is made of
mutual
  pub pattern_shown : (p : Expr) (t : Tree) → IsPlainPattern p → Shows relax_ng_namespace [] (pattern_markup p) t → IsPattern t p
  pattern_shown p t is.empty s = denoting.empty (leaf_shown (codes "empty") [] [] t (as_printed p _ t empty_is s) (no_attribute []))
  pattern_shown p t is.not_allowed s = denoting.not_allowed (leaf_shown (codes "notAllowed") [] [] t (as_printed p _ t not_allowed_is s) (no_attribute []))
  pattern_shown p t is.text s = denoting.text (leaf_shown (codes "text") [] [] t (as_printed p _ t text_is s) (no_attribute []))
  pattern_shown p t (is.typed {k = k} {facets = facets} d) s = denoting.data_of (data_shown k facets t d (as_printed p _ t (typed_is k facets) s))
  pattern_shown p t (is.same {text = text} legal) s = denoting.value (same_shown text t (as_printed p _ t (same_is text) s))
  pattern_shown p t (is.list part a e) s =
      let h = holds_parts (codes "list") (pattern_markup part ∷ []) t (as_printed p _ t (ap pattern_markup e ∙ list_is part) s) in
      denoting.list part [] h.is_part (lone part (parts_of t) (λ u. pattern_shown part u a) h.parts) e
  pattern_shown p t (is.reference {name = name} n) s =
      let k : Shows relax_ng_namespace [] (named (codes "ref") name []) t = as_printed p _ t (ref_is name) s in
      denoting.reference (leaf_shown (codes "ref") ((codes "name", name) ∷ []) (codes "name" ∷ []) t k (one_attribute (codes "name") name))
      (record { is_given = value_in (codes "ref") ((codes "name", name) ∷ []) t (codes "name") k.0; is_ncname = n })
  pattern_shown p t (is.group first second others a e) s =
      let parts = first ∷ second ∷ others in
      let h = holds_parts (codes "group") (map pattern_markup parts) t (as_printed p _ t (ap pattern_markup e ∙ group_is parts) s) in
      denoting.group first (second ∷ others) h.is_part (patterns_shown parts (parts_of t) a h.parts) e
  pattern_shown p t (is.choice first second others a e) s =
      let parts = first ∷ second ∷ others in
      let h = holds_parts (codes "choice") (map pattern_markup parts) t (as_printed p _ t (ap pattern_markup e ∙ choice_is parts) s) in
      denoting.choice first (second ∷ others) h.is_part (patterns_shown parts (parts_of t) a h.parts) e
  pattern_shown p t (is.optional part a e) s =
      let h = holds_parts (codes "optional") (pattern_markup part ∷ []) t (as_printed p _ t (ap pattern_markup e ∙ optional_is part) s) in
      denoting.optional part [] h.is_part (lone part (parts_of t) (λ u. pattern_shown part u a) h.parts) e
  pattern_shown p t (is.zero_or_more part a e) s =
      let h = holds_parts (codes "zeroOrMore") (pattern_markup part ∷ []) t (as_printed p _ t (ap pattern_markup e ∙ zero_or_more_is part) s) in
      denoting.zero_or_more part [] h.is_part (lone part (parts_of t) (λ u. pattern_shown part u a) h.parts) e
  pattern_shown p t (is.one_or_more part a e) s =
      let h = holds_parts (codes "oneOrMore") (pattern_markup part ∷ []) t (as_printed p _ t (ap pattern_markup e ∙ one_or_more_is part) s) in
      denoting.one_or_more part [] h.is_part (lone part (parts_of t) (λ u. pattern_shown part u a) h.parts) e

  patterns_shown : (ps : List Expr) (ts : List Tree) → ArePlainPatterns ps → AreShown (map pattern_markup ps) ts → ArePatterns ts ps
  patterns_shown ps [] is.none s = denoting.none
  patterns_shown ps (t ∷ ts) is.none s = absurd s
  patterns_shown ps [] (is.more a later) s = absurd s
  patterns_shown ps (t ∷ ts) (is.more {p = p} {ps = rest} a later) s = denoting.more (pattern_shown p t a s.0) (patterns_shown rest ts later s.1)

-- elements that show one pattern are it
pub one_pattern : (p : Expr) (ts : List Tree) → IsPlainPattern p → AreShown (pattern_markup p ∷ []) ts → AreOnePattern ts p
one_pattern p ts a s = record { first = p; more = []; are = lone p ts (λ u. pattern_shown p u a) s; one = refl }

-- and so is the tree of a printed start
pub start_shown : (p : Expr) (t : Tree) → IsPlainPattern p → Shows relax_ng_namespace [] (plain (codes "start") (pattern_markup p ∷ [])) t → IsStart t p
start_shown p t a s =
    let h = holds_parts (codes "start") (pattern_markup p ∷ []) t s in
    let one = one_part (pattern_markup p) (parts_of t) h.parts in
    record { is_part = h.is_part; inside = one.inside; alone = one.alone; is_pattern = pattern_shown p one.inside a one.shows }
