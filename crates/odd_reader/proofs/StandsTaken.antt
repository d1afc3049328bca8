-- A token that the builder takes fits, and the builder stands behind it.
use Rattle.std.proofs.Common.{◌≡◌, Bool, true, false, ◌&&◌, ◌==◌, if◌then◌else◌, ℕ, List, [], ◌∷◌, ◌++◌, Option, Some, None, Ok, refl, sym, ap, ◌∙◌, append_assoc, append-nil, subst, ◌+◌, Err}
use Rattle.std.proofs.lemmas.Bool.{and_from, both_ways, eq-eqb}
use Rattle.odd_tokens.proofs.LexedSteps.{IsLexedTag}
use Rattle.odd_tokens.specs.Characters.{is_space}
use Rattle.odd_tokens.specs.Making.{token_made, name_made, tag_made}
use Rattle.odd_tokens.specs.Tokens.{Tag, Token, character, referred, cdata, IsToken, QName, start_tag, empty_tag, end_tag, IsTag}
use Rattle.odd_tree.proofs.Fits.{balanced_append, size}
use Rattle.odd_tree.proofs.PrintedTrees.{text_nodes}
use Rattle.odd_tree.specs.Fitting.{is_tag, IsBalanced, AreOpen, none, Fits, FitsIn, innermost}
use Rattle.odd_tree.specs.Names.{NamesFit}
use Rattle.odd_tree.specs.Spelled.{IsDocument}
use Rattle.odd_tree.specs.Trees.{IsElement, empty}
use Rattle.odd_tree.specs.declared.tree.Node.{Node, Element}
use Rattle.odd_tree.specs.declared.tree.Tree.{Tree}
use Rattle.odd_reader.proofs.StandsLevels.{Inside, StandsIn, inside_more, inside_open, element_balanced, Under, outside, inside_under, under_opened, under_closed, inside_element}
use Rattle.odd_reader.proofs.StandsOpen.{is_root_closed, is_twice, CanOpen, with_open, opens, then_closed}
use Rattle.odd_reader.proofs.StandsTags.{IsOpen, has_tag, still_open, resolved_fits}
use Rattle.odd_reader.proofs.StandsTexts.{no_tags_at, no_tags_from, no_tags_snoc, no_tags_balanced, brackets_last, no_tags_no_element, last_from, last_snoc}
use Rattle.odd_reader.proofs.TwoAlike.{one_made, written_same, written_once}
use Rattle.odd_reader.specs.Building.{Kept, Built, misplaced, build, is_brackets, element_opened, element_closed, then_other}
use Rattle.odd_reader.specs.Resolving.{around, tree_of, with_children, is_written_same}
use Rattle.odd_reader.specs.declared.builder.Last.{Last}
use Rattle.odd_reader.specs.declared.builder.Last.TheVariants as last
use Rattle.odd_reader.specs.declared.element.OpenElement.{OpenElement}

abbrev pub kept : List OpenElement → Option Tree → List ℕ → Last → Kept
kept os root text l = record { open_elements = os; root = root; text = text; last = l }

abbrev pub StandsOf : ℕ → List Token → Kept → Type 0
StandsOf start ts k = StandsIn start ts k.open_elements k.root k.text k.last

-- the token fits, and the builder stands behind it
abbrev pub Taken : ℕ → List Token → Token → Kept → Type 0
Taken start ts t m = Fits ts t × StandsOf start (ts ++ t ∷ []) m

-- outside the root

pub document_balanced : (start : ℕ) (ts : List Token) (u : Tree) → IsDocument start ts u → AreOpen [] ts
document_balanced start ts u d =
    none (subst IsBalanced (sym d.parts) (balanced_append (balanced_append (no_tags_balanced d.before (no_tags_from d.before d.none_before)) (element_balanced d.element))
    (no_tags_balanced d.after (no_tags_from d.after d.none_after))))

pub outer_open : (start : ℕ) (ts : List Token) (root : Option Tree) (text : List ℕ) (l : Last) → StandsIn start ts [] root text l → AreOpen [] ts
outer_open start ts None text l s = none (no_tags_balanced ts s.0)
outer_open start ts (Some u) text l s = document_balanced start ts u s.0

outer_more : (start : ℕ) (ts : List Token) (root : Option Tree) (text : List ℕ) (l m : Last) (t : Token) → is_tag t ≡ false → StandsIn start ts [] root text l
    → StandsIn start (ts ++ t ∷ []) [] root text m
outer_more start ts None text l m t h s = (no_tags_snoc ts t s.0 h, s.1)
outer_more start ts (Some u) text l m t h (d, e) = (
  record {
    before = d.before;
    root = d.root;
    after = d.after ++ t ∷ [];
    parts = ap (λ x. x ++ t ∷ []) d.parts ∙ append_assoc (d.before ++ d.root) d.after (t ∷ []);
    none_before = d.none_before;
    none_after = no_tags_at _ (no_tags_snoc d.after t (no_tags_from d.after d.none_after) h);
    element = d.element;
  },
  e,
)

-- tokens that are no tags

abbrev pub ok : Kept → Built
ok k = Ok k

pub same_ok : (k m : Kept) → ok k ≡ Ok m → k ≡ m
same_ok k m e = cc e

pub then_taken : (b : Bool) (k m : Kept) → (if b then Ok k else misplaced) ≡ Ok m → (b ≡ true) × (k ≡ m)
then_taken true k m e = (refl, cc e)
then_taken false k m e = cc

pub other_taken : (b : Bool) (k m : Kept) → (if b then misplaced else Ok k) ≡ Ok m → (b ≡ false) × (k ≡ m)
other_taken true k m e = cc
other_taken false k m e = (refl, cc e)

pub character_taken : (start at c : ℕ) (ts : List Token) (os : List OpenElement) (root : Option Tree) (text : List ℕ) (l : Last) (m : Kept) → StandsIn start ts os root text l
    → IsToken (character c)
    → build (kept os root text l) (token_made at (character c)) ≡ Ok m → Taken start ts (character c) m
character_taken start at c ts [] root text l m s h e =
    let f = then_taken (is_space c) (kept [] root text l) m e in (
      record { token = h; open_tags = []; are_open = outer_open start ts root text l s; fits_in = f.0 },
      subst (StandsOf start (ts ++ character c ∷ [])) f.1 (outer_more start ts root text l l (character c) refl s),
    )
character_taken start at c ts (o ∷ os) (Some u) text l m s h e = absurd s
character_taken start at c ts (o ∷ os) None text l m s h e =
    let f = other_taken (c == 0x3E && is_brackets l) _ m e in
    let g = inside_open s in (
      record {
        token = h;
        open_tags = g.outer ∷ g.inner;
        are_open = g.are_open;
        fits_in = λ d b. both_ways _ f.0 (and_from (c == 0x3E) (is_brackets l) (eq-eqb c 0x3E d) (ap is_brackets s.last_of_all ∙ brackets_last ts b));
      },
      subst (StandsOf start (ts ++ character c ∷ [])) f.1 (inside_more (character c) refl s),
    )

passed_stands : (start : ℕ) (t : Token) (ts : List Token) (os : List OpenElement) (root : Option Tree) (text : List ℕ) (l : Last) → is_tag t ≡ false
    → ((o : OpenElement) (os : List OpenElement) (text : List ℕ) → Inside start o os text l ts → Inside start o os (text ++ []) last.Other (ts ++ t ∷ []))
    → StandsIn start ts os root text l → StandsIn start (ts ++ t ∷ []) os root text last.Other
passed_stands start t ts [] root text l h more s = outer_more start ts root text l last.Other t h s
passed_stands start t ts (o ∷ os) (Some u) text l h more s = absurd s
passed_stands start t ts (o ∷ os) None text l h more s = subst (λ x. Inside start o os x last.Other (ts ++ t ∷ [])) (append-nil text) (more o os text s)

-- a comment or an instruction
pub passed_taken : (start : ℕ) (t : Token) (ts : List Token) (os : List OpenElement) (root : Option Tree) (text : List ℕ) (l : Last) (m : Kept) → StandsIn start ts os root text l
    → is_tag t ≡ false → IsToken t → FitsIn ts [] t → ((g : Tag) (gs : List Tag) → FitsIn ts (g ∷ gs) t)
    → ((o : OpenElement) (os : List OpenElement) (text : List ℕ) → Inside start o os text l ts → Inside start o os (text ++ []) last.Other (ts ++ t ∷ []))
    → kept os root text last.Other ≡ m → Taken start ts t m
passed_taken start t ts os root text l m s plain h out within more f =
    (fits os root s, subst (StandsOf start (ts ++ t ∷ [])) f (passed_stands start t ts os root text l plain more s))
  where
    fits : (os : List OpenElement) (root : Option Tree) → StandsIn start ts os root text l → Fits ts t
    fits [] root s = record { token = h; open_tags = []; are_open = outer_open start ts root text l s; fits_in = out }
    fits (o ∷ os) (Some u) s = absurd s
    fits (o ∷ os) None s = let g = inside_open s in record { token = h; open_tags = g.outer ∷ g.inner; are_open = g.are_open; fits_in = within g.outer g.inner }

pub referred_taken : (start at : ℕ) (r : _) (ts : List Token) (os : List OpenElement) (root : Option Tree) (text : List ℕ) (l : Last) (m : Kept) → StandsIn start ts os root text l
    → IsToken (referred r) → build (kept os root text l) (token_made at (referred r)) ≡ Ok m → Taken start ts (referred r) m
referred_taken start at r ts [] root text l m s h e = cc
referred_taken start at r ts (o ∷ os) (Some u) text l m s h e = absurd s
referred_taken start at r ts (o ∷ os) None text l m s h e =
    let g = inside_open s in (
      record { token = h; open_tags = g.outer ∷ g.inner; are_open = g.are_open; fits_in = tt },
      subst (StandsOf start (ts ++ referred r ∷ [])) (same_ok _ m e) (inside_more (referred r) refl s),
    )

pub cdata_taken : (start at : ℕ) (body : List ℕ) (ts : List Token) (os : List OpenElement) (root : Option Tree) (text : List ℕ) (l : Last) (m : Kept) → StandsIn start ts os root text l
    → IsToken (cdata body) → build (kept os root text l) (token_made at (cdata body)) ≡ Ok m → Taken start ts (cdata body) m
cdata_taken start at body ts [] root text l m s h e = cc
cdata_taken start at body ts (o ∷ os) (Some u) text l m s h e = absurd s
cdata_taken start at body ts (o ∷ os) None text l m s h e =
    let g = inside_open s in (
      record { token = h; open_tags = g.outer ∷ g.inner; are_open = g.are_open; fits_in = tt },
      subst (StandsOf start (ts ++ cdata body ∷ [])) (same_ok _ m e) (inside_more (cdata body) refl s),
    )

-- a tag that can be opened fits

tag_is_tag : (at : ℕ) (tag : Tag) → IsLexedTag tag → is_twice (tag_made at tag) ≡ false → IsTag tag
tag_is_tag at tag h e = record { named = h.named; attributed = h.attributed; once = written_once tag.attributes h.attributed e; ended = h.ended }

pub tag_fits : (start at : ℕ) (tag : Tag) (ts : List Token) (os : List OpenElement) (root : Option Tree) (text : List ℕ) (l : Last) (o : OpenElement) → StandsIn start ts os root text l
    → IsLexedTag tag
    → CanOpen (kept os root text l) (tag_made at tag) o → Fits ts (start_tag tag) × Fits ts (empty_tag tag)
tag_fits start at tag ts [] None text l o s h c =
    let is_tag = tag_is_tag at tag h c.once in
    let fit = (resolved_fits [] at tag o c.resolves).fit in
    let is_open = none (no_tags_balanced ts s.0) in
    let none_was = no_tags_no_element ts s.0 in
    (record { token = is_tag; open_tags = []; are_open = is_open; fits_in = (none_was, fit) }, record { token = is_tag; open_tags = []; are_open = is_open; fits_in = (none_was, fit) })
tag_fits start at tag ts [] (Some u) text l o s h c = cc c.before_end
tag_fits start at tag ts (p ∷ os) (Some u) text l o s h c = absurd s
tag_fits start at tag ts (p ∷ os) None text l o s h c =
    let is_tag = tag_is_tag at tag h c.once in
    let g = inside_open s in
    let fit : NamesFit _ tag = subst (λ b. NamesFit b tag) (sym g.binds) (resolved_fits (p ∷ os) at tag o c.resolves).fit in (
      record { token = is_tag; open_tags = g.outer ∷ g.inner; are_open = g.are_open; fits_in = fit },
      record { token = is_tag; open_tags = g.outer ∷ g.inner; are_open = g.are_open; fits_in = fit },
    )

-- where it opens

abbrev outer : List OpenElement → List ℕ → List OpenElement
outer os text = with_children (text_nodes text) os

around_same : (nodes : List Node) (os : List OpenElement) → around (with_children nodes os) ≡ around os
around_same nodes [] = refl
around_same nodes (o ∷ os) = refl

no_root : (start : ℕ) (ts : List Token) (os : List OpenElement) (root : Option Tree) (text : List ℕ) (l : Last) → StandsIn start ts os root text l → is_root_closed os root ≡ false
    → root ≡ None
no_root start ts [] None text l s h = refl
no_root start ts [] (Some u) text l s h = cc h
no_root start ts (o ∷ os) None text l s h = refl
no_root start ts (o ∷ os) (Some u) text l s h = absurd s

opens_under : (start : ℕ) (ts : List Token) (os : List OpenElement) (root : Option Tree) (text : List ℕ) (l : Last) → StandsIn start ts os root text l → is_root_closed os root ≡ false
    → Under start (outer os text) ts
opens_under start ts [] None text l s h = outside s.0
opens_under start ts [] (Some u) text l s h = cc h
opens_under start ts (o ∷ os) None text l s h = inside_under s
opens_under start ts (o ∷ os) (Some u) text l s h = absurd s

opens_element : (start : ℕ) (tag : Tag) (ts : List Token) (os : List OpenElement) (root : Option Tree) (text : List ℕ) (l : Last) (o : OpenElement)
    → CanOpen (kept os root text l) (tag_made (start + size ts) tag) o → IsOpen (around (outer os text)) (start + size ts) tag o
opens_element start tag ts os root text l o c =
    subst (λ b. IsOpen b (start + size ts) tag o) (sym (around_same (text_nodes text) os)) (resolved_fits os (start + size ts) tag o c.resolves).is_open

-- a start tag

abbrev other : Kept → Kept
other k = record k { last = last.Other }

pub other_after : (b : Built) (m : Kept) → then_other b ≡ Ok m → (k : Kept) × (b ≡ Ok k) × (record k { last = last.Other } ≡ m)
other_after (Err e) m h = cc
other_after (Ok k) m h = (k, refl, cc h)

pub start_taken : (start : ℕ) (tag : Tag) (ts : List Token) (os : List OpenElement) (root : Option Tree) (text : List ℕ) (l : Last) (m : Kept) → StandsIn start ts os root text l
    → IsLexedTag tag
    → build (kept os root text l) (token_made (start + size ts) (start_tag tag)) ≡ Ok m → Taken start ts (start_tag tag) m
start_taken start tag ts os root text l m s h e =
    let k = kept os root text l in
    let made = tag_made (start + size ts) tag in
    let f = other_after (element_opened k made) m e in
    let g = opens k f.0 made f.1 in
    let o = g.0 in
    let stands : StandsIn start (ts ++ start_tag tag ∷ []) (o ∷ outer os text) None [] last.Other =
    under_opened start (outer os text) ts tag o (opens_under start ts os root text l s g.1.before_end) (opens_element start tag ts os root text l o g.1)
    (resolved_fits os (start + size ts) tag o g.1.resolves).fresh in
    let behind : StandsOf start (ts ++ start_tag tag ∷ []) (record (with_open k o) { last = last.Other }) =
    subst (λ r. StandsIn start (ts ++ start_tag tag ∷ []) (o ∷ outer os text) r [] last.Other) (sym (no_root start ts os root text l s g.1.before_end)) stands in
    ((tag_fits start (start + size ts) tag ts os root text l o s h g.1).0, subst (StandsOf start (ts ++ start_tag tag ∷ [])) (ap other g.3 ∙ f.2) behind)

-- an element ends

abbrev closed_in : List OpenElement → Kept → Kept
closed_in [] k = k
closed_in (o ∷ []) k = record k { open_elements = []; root = Some (tree_of o) }
closed_in (o ∷ parent ∷ os) k = record k { open_elements = with_children (Element (tree_of o) ∷ []) (parent ∷ os) }

closing : (start : ℕ) (os : List OpenElement) (l : Last) (before es ts : List Token) (o : OpenElement) → Under start os before → IsElement (around os) (start + size before) es (tree_of o)
    → ts ≡ before ++ es → last_from last.Other ts ≡ last.Other → StandsOf start ts (record (closed_in (o ∷ os) (kept (o ∷ os) None [] l)) { last = last.Other })
closing start [] l before es ts o u d e f = under_closed start [] before es ts (tree_of o) u d e f
closing start (p ∷ os) l before es ts o u d e f = under_closed start (p ∷ os) before es ts (tree_of o) u d e f

-- an empty tag

pub closed_after : (b : Built) (m : Kept) → then_closed b ≡ Ok m → (k : Kept) × (b ≡ Ok k) × (element_closed k ≡ m)
closed_after (Err e) m h = cc
closed_after (Ok k) m h = (k, refl, cc h)

pub empty_taken : (start : ℕ) (tag : Tag) (ts : List Token) (os : List OpenElement) (root : Option Tree) (text : List ℕ) (l : Last) (m : Kept) → StandsIn start ts os root text l
    → IsLexedTag tag
    → build (kept os root text l) (token_made (start + size ts) (empty_tag tag)) ≡ Ok m → Taken start ts (empty_tag tag) m
empty_taken start tag ts os root text l m s h e =
    let k = kept os root text l in
    let made = tag_made (start + size ts) tag in
    let f = other_after (then_closed (element_opened k made)) m e in
    let c = closed_after (element_opened k made) f.0 f.1 in
    let g = opens k c.0 made c.1 in
    let o = g.0 in
    let whole : OpenElement = record o { children = o.children ++ [] } in
    let d : IsElement (around (outer os text)) (start + size ts) (empty_tag tag ∷ []) (tree_of whole) =
    empty (has_tag (still_open (o.children ++ []) (opens_element start tag ts os root text l o g.1))) (append-nil o.children ∙ (resolved_fits os (start + size ts) tag o g.1.resolves).fresh) in
    let stands : StandsOf start (ts ++ empty_tag tag ∷ []) (record (closed_in (whole ∷ outer os text) (kept (whole ∷ outer os text) None [] l)) { last = last.Other }) =
    closing start (outer os text) l ts (empty_tag tag ∷ []) (ts ++ empty_tag tag ∷ []) whole (opens_under start ts os root text l s g.1.before_end) d refl (last_snoc last.Other ts (empty_tag tag)) in
    let behind : StandsOf start (ts ++ empty_tag tag ∷ []) (record (closed_in (whole ∷ outer os text) (kept (whole ∷ outer os text) root [] l)) { last = last.Other }) =
    subst (λ r. StandsOf start (ts ++ empty_tag tag ∷ []) (record (closed_in (whole ∷ outer os text) (kept (whole ∷ outer os text) r [] l)) { last = last.Other }))
    (sym (no_root start ts os root text l s g.1.before_end)) stands in (
      (tag_fits start (start + size ts) tag ts os root text l o s h g.1).1,
      subst (StandsOf start (ts ++ empty_tag tag ∷ [])) (ap (λ x. other (element_closed x)) g.3 ∙ ap other c.2 ∙ f.2) behind,
    )

-- an end tag

pub end_taken : (start at : ℕ) (name : QName) (space : List ℕ) (ts : List Token) (os : List OpenElement) (root : Option Tree) (text : List ℕ) (l : Last) (m : Kept)
    → StandsIn start ts os root text l
    → IsToken (end_tag name space) → build (kept os root text l) (token_made at (end_tag name space)) ≡ Ok m → Taken start ts (end_tag name space) m
end_taken start at name space ts [] root text l m s h e = cc
end_taken start at name space ts (o ∷ os) (Some u) text l m s h e = absurd s
end_taken start at name space ts (o ∷ os) None text l m s h e =
    let t = end_tag name space in
    let f = then_taken (is_written_same o.written (name_made name)) _ m e in
    let g = inside_open s in
    let same : name ≡ (innermost g.outer g.inner).name = one_made _ _ (sym (g.name ∙ written_same o.written (name_made name) f.0)) in
    let whole : OpenElement = record o { children = o.children ++ text_nodes text } in
    let parts : ts ++ t ∷ [] ≡ s.before ++ (start_tag s.tag ∷ ((s.done ++ s.run) ++ t ∷ [])) =
    ap (λ x. x ++ t ∷ []) s.parts ∙ append_assoc s.before (start_tag s.tag ∷ (s.done ++ s.run)) (t ∷ []) in
    let stands = closing start os l s.before (start_tag s.tag ∷ ((s.done ++ s.run) ++ t ∷ [])) (ts ++ t ∷ []) whole s.under (inside_element name space s) parts (last_snoc last.Other ts t) in
    (record { token = h; open_tags = g.outer ∷ g.inner; are_open = g.are_open; fits_in = same }, subst (StandsOf start (ts ++ t ∷ [])) f.1 stands)
