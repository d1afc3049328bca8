-- Each tree that a file spells is formed: its names, attributes and places.
use Rattle.std.proofs.Common.{◌≡◌, ℕ, List, [], ◌∷◌, ◌++◌, map, Option, Some, None, refl, sym, ap, ap₂, subst, All, suc, ◌+◌, ◌≤◌, ◌∙◌, append_assoc, append-nil, arith, length}
use Rattle.std.proofs.lemmas.Bool.{or_parts}
use Rattle.std.proofs.lemmas.List.Elements.{All-nil, All-cons, All-head, All-tail, All-filter}
use Rattle.std.proofs.lemmas.Str.{length-le-encodes}
use Rattle.std.specs.Option.{option_map}
use Rattle.std.specs.Prelude.{is_none, unwrap_or}
use Rattle.std.specs.Str.{encode_utf8_all}
use Rattle.odd_text.specs.declared.name.Bind.{Bind}
use Rattle.odd_text.specs.declared.name.Name.{Name}
use Rattle.odd_tokens.proofs.Characters.{distinct, distinct_made, none_twice}
use Rattle.odd_tokens.specs.Characters.{IsNCName, IsLegal}
use Rattle.odd_tokens.specs.Openings.{opening_written}
use Rattle.odd_tokens.specs.Tokens.{QName, Attribute, Tag, IsQName, IsAttribute, IsTag, NoneTwice, Token, start_tag, empty_tag, token_written, tokens_written, size_of, end_tag}
use Rattle.odd_tokens.specs.Values.{value_read}
use Rattle.odd_tree.proofs.Fits.{FitAfter, size_of_append, size, size_append, open_after, opened, binds_opened}
use Rattle.odd_tree.specs.Fitting.{AreOpen, open_binds, Fits, FitsIn, AllFit, is_start_or_end, is_start_or_empty}
use Rattle.odd_tree.specs.Fitting as fitting
use Rattle.odd_tree.specs.Formed.{IsFormedTag, IsFormed, AreFormed, AreApart}
use Rattle.odd_tree.specs.Formed as formed
use Rattle.odd_tree.specs.Names.{declared_prefix, binds_of, last_bound, plain_attributes, element_name, attribute_name, attribute_read, IsBinding, NamesFit}
use Rattle.odd_tree.specs.Spelled.{Spells}
use Rattle.odd_tree.specs.Trees.{HasTag, IsElement, IsContent, token_read}
use Rattle.odd_tree.specs.Trees as trees
use Rattle.odd_tree.specs.declared.tree.Attr.{Attr}
use Rattle.odd_tree.specs.declared.tree.Node.{Node}
use Rattle.odd_tree.specs.declared.tree.Tree.{Tree, out-Tree}
use Rattle.odd_reader.proofs.FormedBindings.{BindLegally, BindOnce, IsWithPrefix, legally_append, no_namespace, default_legal, given_legal, bound_legal, bound_prefixed, bound_once, value_legal, token_legal, apart_with, formed_with}
use Rattle.odd_reader.proofs.StandsLevels.{element_balanced}
use Rattle.odd_reader.proofs.StandsOpen.{one_open}
use Rattle.odd_reader.proofs.StandsTexts.{no_tags_from, no_tags_balanced}

-- the name in a namespace
abbrev in_namespace : List ℕ → List ℕ → Name
in_namespace local ns = record { ns = ns; local = local }

named_local : (local : List ℕ) (o : Option (List ℕ)) (n : Name) → option_map (in_namespace local) o ≡ Some n → local ≡ n.local
named_local local None n e = cc
named_local local (Some ns) n e = let f : in_namespace local ns ≡ n = cc in ap (λ (m : Name). m.local) f

named_ns : (local : List ℕ) (o : Option (List ℕ)) (n : Name) → option_map (in_namespace local) o ≡ Some n → o ≡ Some n.ns
named_ns local None n e = cc
named_ns local (Some ns) n e = let f : in_namespace local ns ≡ n = cc in ap (λ (m : Name). Some m.ns) f

element_ncname : (binds : List Bind) (q : QName) (n : Name) → IsQName q → element_name binds q ≡ Some n → IsNCName n.local
element_ncname binds q n h e = (q.local, named_local (encode_utf8_all q.local) _ n e, h.1)

attribute_ncname : (binds : List Bind) (q : QName) (n : Name) → IsQName q → attribute_name binds q ≡ Some n → IsNCName n.local
attribute_ncname binds q n h e = (q.local, named_local (encode_utf8_all q.local) _ n e, h.1)

-- the namespaces of names under legal bindings are legal

element_legal : (binds : List Bind) (q : QName) (n : Name) → BindLegally binds → element_name binds q ≡ Some n → IsLegal n.ns
element_legal binds q n l e = given_legal (unwrap_or (last_bound binds []) []) binds q n.ns (default_legal binds l) l (named_ns (encode_utf8_all q.local) _ n e)

attribute_legal : (binds : List Bind) (q : QName) (n : Name) → BindLegally binds → attribute_name binds q ≡ Some n → IsLegal n.ns
attribute_legal binds q n l e = given_legal [] binds q n.ns no_namespace l (named_ns (encode_utf8_all q.local) _ n e)

-- one attribute

abbrev with_value : List ℕ → Name → Attr
with_value value name = record { name = name; value = value }

one_read : (value : List ℕ) (o : Option Name) (x : Attr) → option_map (with_value value) o ≡ Some x → (o ≡ Some x.name) × (value ≡ x.value)
one_read value None x e = cc
one_read value (Some n) x e = let f : with_value value n ≡ x = cc in (ap (λ (y : Attr). Some y.name) f, ap (λ (y : Attr). y.value) f)

-- all attributes

pub record AreRead (binds : List Bind) (attributes : List Attribute) (attrs : List Attr) : Type 0 where
  pub named : All (λ (a : Attr). IsNCName a.name.local) attrs
  pub within : All (λ (a : Attr). IsLegal a.name.ns) attrs
  pub valued : All (λ (a : Attr). IsLegal a.value) attrs
  pub names : map (λ (a : Attribute). attribute_name binds a.name) attributes ≡ map (λ (n : Name). Some n) (map (λ (a : Attr). a.name) attrs)

are_read : (binds : List Bind) (attributes : List Attribute) (attrs : List Attr) → BindLegally binds → All IsAttribute attributes
    → map (attribute_read binds) attributes ≡ map (λ (a : Attr). Some a) attrs → AreRead binds attributes attrs
are_read binds [] [] l h e = record { named = All-nil _; within = All-nil _; valued = All-nil _; names = refl }
are_read binds [] (x ∷ xs) l h e = cc
are_read binds (a ∷ rest) [] l h e = cc
are_read binds (a ∷ rest) (x ∷ xs) l h e =
    let one : attribute_read binds a ≡ Some x = cc in
    let others : map (attribute_read binds) rest ≡ map (λ (y : Attr). Some y) xs = cc in
    let r = are_read binds rest xs l (All-tail IsAttribute a rest h) others in
    let f = one_read (encode_utf8_all (value_read a.value)) (attribute_name binds a.name) x one in
    let g : IsAttribute a = All-head IsAttribute a rest h in
    record {
      named = All-cons (λ (y : Attr). IsNCName y.name.local) x xs (attribute_ncname binds a.name x.name g.named f.0) r.named;
      within = All-cons (λ (y : Attr). IsLegal y.name.ns) x xs (attribute_legal binds a.name x.name l f.0) r.within;
      valued = All-cons (λ (y : Attr). IsLegal y.value) x xs (value_read a.value, f.1, value_legal a.quote a.value g.valued) r.valued;
      names = ap₂ ◌∷◌ f.0 r.names;
    }

-- the names that are no two alike before they are read are none alike after
read_once : (os : List (Option Name)) (names : List Name) → os ≡ map (λ (n : Name). Some n) names → NoneTwice os → NoneTwice names
read_once os names e n = none_twice names (distinct_made (λ (m : Name). Some m) names (distinct _ (subst NoneTwice e n)))

pub tag_formed : (around : List Bind) (at : ℕ) (tag : Tag) (t : Tree) → BindLegally around → IsTag tag → NamesFit around tag → HasTag around at tag t → IsFormedTag t
tag_formed around at tag t l h n g =
    let binds = around ++ binds_of tag.attributes in
    let legal = legally_append around tag.attributes l h.attributed in
    let plain : All IsAttribute (plain_attributes tag.attributes) = All-filter (λ a. is_none (declared_prefix a.name)) IsAttribute tag.attributes h.attributed in
    let r = are_read binds (plain_attributes tag.attributes) (out-Tree t).attrs legal plain g.attributed in
    record {
      named = element_ncname binds tag.name (out-Tree t).name h.named g.named;
      attributes_named = r.named;
      valued = r.valued;
      once = read_once _ _ r.names n.once;
      bound = subst (All IsBinding) (sym g.bound) n.declared;
      within = element_legal binds tag.name (out-Tree t).name legal g.named;
      attributes_within = r.within;
      prefixed = subst (All IsWithPrefix) (sym g.bound) (bound_prefixed tag.attributes h.attributed);
      bound_to = subst BindLegally (sym g.bound) (bound_legal tag.attributes h.attributed);
      bound_once = subst BindOnce (sym g.bound) (bound_once tag h);
    }

-- each token fits

pub fits_each : (before ts all : List Token) → AllFit all → all ≡ before ++ ts → FitAfter before ts
fits_each before [] all h e = tt
fits_each before (t ∷ ts) all h e = (h before ts t e, fits_each (before ++ t ∷ []) ts all h (e ∙ sym (append_assoc before (t ∷ []) ts)))

pub fit_first : (before xs ys : List Token) → FitAfter before (xs ++ ys) → FitAfter before xs
fit_first before [] ys f = tt
fit_first before (x ∷ xs) ys f = (f.0, fit_first (before ++ x ∷ []) xs ys f.1)

pub fit_then : (before xs ys : List Token) → FitAfter before (xs ++ ys) → FitAfter (before ++ xs) ys
fit_then before [] ys f = rw append-nil f
fit_then before (x ∷ xs) ys f = subst (λ z. FitAfter z ys) (append_assoc before (x ∷ []) xs) (fit_then (before ++ x ∷ []) xs ys f.1)

-- a tag that fits has names that fit under the bindings of the open elements

start_names : (before : List Token) (tags : List Tag) (tag : Tag) → FitsIn before tags (start_tag tag) → NamesFit (open_binds tags) tag
start_names before [] tag f = f.1
start_names before (t ∷ ts) tag f = f

empty_names : (before : List Token) (tags : List Tag) (tag : Tag) → FitsIn before tags (empty_tag tag) → NamesFit (open_binds tags) tag
empty_names before [] tag f = f.1
empty_names before (t ∷ ts) tag f = f

pub start_names_fit : {before : List Token} {tags : List Tag} {around : List Bind} (tag : Tag) → AreOpen tags before → open_binds tags ≡ around → Fits before (start_tag tag)
    → NamesFit around tag
start_names_fit {before = before} {tags = tags} tag o e f =
    subst (λ z. NamesFit z tag) (ap open_binds (one_open f.open_tags tags before f.are_open o) ∙ e) (start_names before f.open_tags tag f.fits_in)

pub empty_names_fit : {before : List Token} {tags : List Tag} {around : List Bind} (tag : Tag) → AreOpen tags before → open_binds tags ≡ around → Fits before (empty_tag tag)
    → NamesFit around tag
empty_names_fit {before = before} {tags = tags} tag o e f =
    subst (λ z. NamesFit z tag) (ap open_binds (one_open f.open_tags tags before f.are_open o) ∙ e) (empty_names before f.open_tags tag f.fits_in)

-- the places of the parts

pub start_has_byte : (tag : Tag) → 1 ≤ size_of (token_written (start_tag tag))
start_has_byte tag = omega (arith, length-le-encodes (token_written (start_tag tag)))

pub empty_room : (at end : ℕ) (tag : Tag) → at + size (empty_tag tag ∷ []) ≤ end → suc at ≤ end
empty_room at end tag h = omega (arith, length-le-encodes (tokens_written (empty_tag tag ∷ [])))

pub full_room : (at end : ℕ) (tag : Tag) (ts inside last : List Token) → ts ≡ inside ++ last → at + size (start_tag tag ∷ ts) ≤ end
    → (suc at ≤ at + size_of (token_written (start_tag tag))) × ((at + size_of (token_written (start_tag tag))) + size inside ≤ end)
full_room at end tag ts inside last e h =
    let one = start_has_byte tag in
    let all = size_of_append (token_written (start_tag tag)) (tokens_written ts) in
    let parts = ap size e ∙ size_append inside last in
    (omega arith, omega arith)

pub piece_room : (first at end : ℕ) (t : Token) (ts : List Token) → first ≤ at → at + size (t ∷ ts) ≤ end
    → (first ≤ at + size_of (token_written t)) × ((at + size_of (token_written t)) + size ts ≤ end)
piece_room first at end t ts l h =
    let all = size_of_append (token_written t) (tokens_written ts) in
    (omega arith, omega arith)

pub child_room : (at end : ℕ) (ts es after : List Token) → ts ≡ es ++ after → at + size ts ≤ end → (at + size es) + size after ≤ end
child_room at end ts es after e h =
    let parts = ap size e ∙ size_append es after in
    omega arith

-- an element with the tag at the place
element_formed_of : {first end at : ℕ} {around : List Bind} {tag : Tag} {t : Tree} → first ≤ at → HasTag around at tag t → IsFormedTag t → AreApart (out-Tree t).children
    → AreFormed (suc at) end (out-Tree t).children → IsFormed first end t
element_formed_of {first = first} {end = end} {t = t} b h f a c =
    formed.element (subst (λ n. first ≤ n) (sym h.placed) b) f a (subst (λ n. AreFormed (suc n) end (out-Tree t).children) (sym h.placed) c)

none_formed : (first end : ℕ) (nodes : List Node) → nodes ≡ [] → first ≤ end → AreFormed first end nodes
none_formed first end nodes e h = subst (AreFormed first end) (sym e) (formed.nothing h)

none_apart : (nodes : List Node) → nodes ≡ [] → AreApart nodes
none_apart nodes e = subst AreApart (sym e) tt

-- the nodes are apart, and formed between the places
abbrev AreWhole : ℕ → ℕ → List Node → Type 0
AreWhole first end nodes = AreApart nodes × AreFormed first end nodes

-- these tags are open before the tokens, which begin at the byte, and their bindings, of legal namespaces, are those around them
mutual
  element_formed : {around : List Bind} {at : ℕ} {es : List Token} {t : Tree} (first end : ℕ) (before : List Token) (tags : List Tag)
      → AreOpen tags before → open_binds tags ≡ around → BindLegally around → FitAfter before es → IsElement around at es t → first ≤ at → at + size es ≤ end → IsFormed first end t
  element_formed {around = around} {at = at} {t = t} first end before tags o b l f (trees.empty {tag = tag} h c) low high =
      let room : suc at ≤ end = empty_room at end tag high in
      element_formed_of low h (tag_formed around at tag t l f.0.token (empty_names_fit tag o b f.0) h) (none_apart _ c) (none_formed (suc at) end _ c room)
  element_formed {around = around} {at = at} {t = t} first end before tags o b l f (trees.full {tag = tag} {ts = ts} name space inside h c e) low high =
      let g : FitAfter (before ++ start_tag tag ∷ []) inside = fit_first _ inside (end_tag name space ∷ []) (subst (FitAfter (before ++ start_tag tag ∷ [])) e f.1) in
      let room = full_room at end tag ts inside (end_tag name space ∷ []) e high in
      let bound = binds_opened tags tag ∙ ap (λ z. z ++ binds_of tag.attributes) b in
      let legal = legally_append around tag.attributes l f.0.token.attributed in
      let w = content_formed (suc at) end (before ++ start_tag tag ∷ []) (tags ++ tag ∷ []) (opened tag o) bound legal g c room.0 room.1 in
      element_formed_of low h (tag_formed around at tag t l f.0.token (start_names_fit tag o b f.0) h) w.0 w.1

  content_formed : {around : List Bind} {at : ℕ} {ts : List Token} {nodes : List Node} (first end : ℕ) (before : List Token) (tags : List Tag)
      → AreOpen tags before → open_binds tags ≡ around → BindLegally around → FitAfter before ts → IsContent around at ts nodes → first ≤ at → at + size ts ≤ end → AreWhole first end nodes
  content_formed first end before tags o b l f trees.nothing low high = (tt, formed.nothing (omega arith))
  content_formed {at = at} first end before tags o b l f (trees.piece {t = t} {ts = ts} later h c e) low high =
      let room = piece_room first at end t ts low high in
      let still = open_after o (fitting.piece (or_parts (is_start_or_end t) (is_start_or_empty t) h).0 fitting.nothing) in
      let w = content_formed first end (before ++ t ∷ []) tags still b l f.1 c room.0 room.1 in
      subst (AreWhole first end) (sym e) (apart_with (token_read t ts) later (token_legal t ts f.0.token) w.0, formed_with (token_read t ts) later w.1)
  content_formed {at = at} first end before tags o b l f (trees.child {t = t} {later = later} es after d c e) low high =
      let g : FitAfter before (es ++ after) = subst (FitAfter before) e f in
      let room : (at + size es) + size after ≤ end = child_room at end _ es after e high in
      let one = element_formed first (at + size es) before tags o b l (fit_first before es after g) d low (omega arith) in
      let w = content_formed (at + size es) end (before ++ es) tags (open_after o (element_balanced d)) b l (fit_then before es after g) c (omega arith) room in
      (w.0, formed.child (at + size es) one w.1)

pub spelled_formed : (bytes : List ℕ) (t : Tree) → Spells bytes t → IsFormed 0 (length bytes) t
spelled_formed bytes t s =
    let d = s.document in
    let o = opening_written s.whole.opening in
    let ts = s.whole.tokens in
    let all : length bytes ≡ size_of o + size ts = ap length (s.whole.written ∙ append-nil _) ∙ size_of_append o (tokens_written ts) in
    let parts : size ts ≡ (size d.before + size d.root) + size d.after =
    ap size d.parts ∙ size_append (d.before ++ d.root) d.after ∙ ap (λ n. n + size d.after) (size_append d.before d.root) in
    let fit = fits_each d.before (d.root ++ d.after) ts s.whole.all_fit (d.parts ∙ append_assoc d.before d.root d.after) in
    element_formed 0 (length bytes) d.before [] (fitting.none (no_tags_balanced d.before (no_tags_from d.before d.none_before))) refl (All-nil _) (fit_first d.before d.root d.after fit) d.element
    (omega arith) (omega (arith, all, parts))
