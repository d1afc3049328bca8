-- How the tokens so far brought the builder to the elements that are open, and to the root where it is closed.
use Rattle.std.proofs.Common.{◌≡◌, false, ℕ, ◌+◌, List, [], ◌∷◌, ◌++◌, length, length-append, add-one, Option, Some, None, refl, sym, ap, ◌∙◌, append_assoc, append-nil, subst, arith}
use Rattle.std.specs.Str.{encode_utf8_all}
use Rattle.std.proofs.lemmas.Bool.{or_parts}
use Rattle.odd_text.specs.declared.name.Bind.{Bind}
use Rattle.odd_reader.specs.declared.builder.Last.{Last}
use Rattle.odd_reader.specs.declared.builder.Last.TheVariants as last
use Rattle.odd_reader.specs.declared.element.OpenElement.{OpenElement}
use Rattle.odd_tree.specs.declared.tree.Node.{Node, Element}
use Rattle.odd_tree.specs.declared.tree.Tree.{Tree}
use Rattle.odd_reader.specs.Resolving.{around, tree_of}
use Rattle.odd_tree.specs.Fitting.{is_tag, is_start_or_end, is_start_or_empty, IsBalanced, AreOpen, none, open_binds, innermost}
use Rattle.odd_tokens.specs.Making.{name_made}
use Rattle.odd_tree.specs.Names.{binds_of}
use Rattle.odd_tree.specs.Spelled.{IsDocument}
use Rattle.odd_tokens.specs.Tokens.{QName, Tag, Token, start_tag, end_tag, token_written, size_of}
use Rattle.odd_tree.specs.Trees as trees
use Rattle.odd_tree.specs.Fitting as fitting
use Rattle.odd_tree.specs.Trees.{IsElement, IsContent}
use Rattle.odd_tree.proofs.Fits.{balanced_append, open_after, opened, binds_opened, innermost_opened, size, size_append, size_cons}
use Rattle.odd_tree.proofs.PrintedTrees.{text_nodes}
use Rattle.odd_reader.proofs.StandsContent.{Done, Part, nothing_done, run_done, element_done, content_whole}
use Rattle.odd_reader.proofs.StandsTags.{IsOpen, has_tag, still_open}
use Rattle.odd_reader.proofs.StandsTexts.{NoTags, no_tags_at, no_tags_snoc, no_tags_balanced, last_from, last_snoc, after_token, added, run_read, read_snoc}

-- elements and content are balanced

mutual
  pub element_balanced : {here : List Bind} {at : ℕ} {es : List Token} {t : Tree} → IsElement here at es t → IsBalanced es
  element_balanced (trees.empty h c) = fitting.piece refl fitting.nothing
  element_balanced (trees.full name space inside h c e) = fitting.element name space inside [] (content_balanced c) fitting.nothing e

  pub content_balanced : {here : List Bind} {at : ℕ} {ts : List Token} {nodes : List Node} → IsContent here at ts nodes → IsBalanced ts
  content_balanced trees.nothing = fitting.nothing
  content_balanced (trees.piece {t = t} later h c e) = fitting.piece (or_parts (is_start_or_end t) (is_start_or_empty t) h).0 (content_balanced c)
  content_balanced (trees.child es after d c e) = subst IsBalanced (sym e) (balanced_append (element_balanced d) (content_balanced c))

abbrev pub tag_size : Tag → ℕ
tag_size tag = size_of (token_written (start_tag tag))

-- a tag comes after the tokens: the open elements, the innermost first, and their nodes so far
pub data Under : ℕ → List OpenElement → List Token → Type 0 where
  outside : {start : ℕ} {ts : List Token} → NoTags ts → Under start [] ts
  within : {start : ℕ} {o : OpenElement} {os : List OpenElement} {ts : List Token} (tag : Tag) (before inside : List Token) → Under start os before
      → IsOpen (around os) (start + size before) tag o → Part (around os ++ binds_of tag.attributes) ((start + size before) + tag_size tag) inside o.children
      → ts ≡ before ++ start_tag tag ∷ inside → Under start (o ∷ os) ts

-- an element is open, and the text that was read in it is not finished
pub record Inside (start : ℕ) (o : OpenElement) (os : List OpenElement) (text : List ℕ) (l : Last) (ts : List Token) : Type 0 where
  pub tag : Tag
  pub before : List Token
  pub done : List Token
  pub run : List Token
  pub under : Under start os before
  pub is_open : IsOpen (around os) (start + size before) tag o
  pub content : Done (around os ++ binds_of tag.attributes) ((start + size before) + tag_size tag) done o.children
  pub plain : NoTags run
  pub read : text ≡ encode_utf8_all (run_read run)
  pub last_of_run : l ≡ last_from last.Other run
  pub last_of_all : l ≡ last_from last.Other ts
  pub parts : ts ≡ before ++ start_tag tag ∷ (done ++ run)

-- the tokens brought the builder here
abbrev pub StandsIn : ℕ → List Token → List OpenElement → Option Tree → List ℕ → Last → Type 0
StandsIn start ts [] None text l = NoTags ts × (text ≡ [])
StandsIn start ts [] (Some u) text l = IsDocument start ts u × (text ≡ [])
StandsIn start ts (o ∷ os) None text l = Inside start o os text l ts
StandsIn start ts (o ∷ os) (Some u) text l = ⊥

-- the text ends where a tag comes

inside_part : {start : ℕ} {o : OpenElement} {os : List OpenElement} {text : List ℕ} {l : Last} {ts : List Token} (i : Inside start o os text l ts)
    → Part (around os ++ binds_of i.tag.attributes) ((start + size i.before) + tag_size i.tag) (i.done ++ i.run) (o.children ++ text_nodes text)
inside_part {start = start} {o = o} {os = os} {text = text} i =
    let p = run_done (around os ++ binds_of i.tag.attributes) ((start + size i.before) + tag_size i.tag) i.done i.run o.children i.content i.plain in
    subst (λ x. Part (around os ++ binds_of i.tag.attributes) ((start + size i.before) + tag_size i.tag) (i.done ++ i.run) (o.children ++ text_nodes x)) (sym i.read) p

pub inside_under : {start : ℕ} {o : OpenElement} {os : List OpenElement} {text : List ℕ} {l : Last} {ts : List Token} → Inside start o os text l ts
    → Under start (record o { children = o.children ++ text_nodes text } ∷ os) ts
inside_under i = within i.tag i.before (i.done ++ i.run) i.under (still_open _ i.is_open) (inside_part i) i.parts

-- a token that is no tag

pub inside_more : {start : ℕ} {o : OpenElement} {os : List OpenElement} {text : List ℕ} {l : Last} {ts : List Token} (t : Token) → is_tag t ≡ false → Inside start o os text l ts
    → Inside start o os (text ++ added l t) (after_token l t) (ts ++ t ∷ [])
inside_more {text = text} {l = l} {ts = ts} t h i = record {
  tag = i.tag;
  before = i.before;
  done = i.done;
  run = i.run ++ t ∷ [];
  under = i.under;
  is_open = i.is_open;
  content = i.content;
  plain = no_tags_snoc i.run t i.plain h;
  read = ap (λ x. x ++ added l t) i.read ∙ ap (λ x. encode_utf8_all (run_read i.run) ++ added x t) i.last_of_run ∙ sym (read_snoc i.run t);
  last_of_run = ap (λ x. after_token x t) i.last_of_run ∙ sym (last_snoc last.Other i.run t);
  last_of_all = ap (λ x. after_token x t) i.last_of_all ∙ sym (last_snoc last.Other ts t);
  parts = ap (λ x. x ++ t ∷ []) i.parts ∙ append_assoc i.before (start_tag i.tag ∷ (i.done ++ i.run)) (t ∷ [])
      ∙ ap (λ x. i.before ++ start_tag i.tag ∷ x) (append_assoc i.done i.run (t ∷ []));
}

-- a start tag

pub under_opened : (start : ℕ) (os : List OpenElement) (ts : List Token) (tag : Tag) (o : OpenElement) → Under start os ts → IsOpen (around os) (start + size ts) tag o → o.children ≡ []
    → Inside start o os [] last.Other (ts ++ start_tag tag ∷ [])
under_opened start os ts tag o u d fresh = record {
  tag = tag;
  before = ts;
  done = [];
  run = [];
  under = u;
  is_open = d;
  content = subst (λ x. Done (around os ++ binds_of tag.attributes) ((start + size ts) + tag_size tag) [] x) (sym fresh) (nothing_done _ _);
  plain = tt;
  read = refl;
  last_of_run = refl;
  last_of_all = sym (last_snoc last.Other ts (start_tag tag));
  parts = refl;
}

-- an element is whole

abbrev pub Closed : ℕ → List Token → List OpenElement → Tree → Type 0
Closed start ts [] t = StandsIn start ts [] (Some t) [] last.Other
Closed start ts (p ∷ os) t = StandsIn start ts (record p { children = p.children ++ Element t ∷ [] } ∷ os) None [] last.Other

place_inside : (start a b c d e : ℕ) → c ≡ a + d → d ≡ b + e → start + c ≡ ((start + a) + b) + e
place_inside start a b c d e p q = omega arith

pub under_closed : (start : ℕ) (os : List OpenElement) (before es ts : List Token) (t : Tree) → Under start os before → IsElement (around os) (start + size before) es t
    → ts ≡ before ++ es → last_from last.Other ts ≡ last.Other → Closed start ts os t
under_closed start os before es ts t (outside n) d e l = (
  record {
    before = before;
    root = es;
    after = [];
    parts = e ∙ sym (append-nil (before ++ es));
    none_before = no_tags_at before n;
    none_after = no_tags_at [] tt;
    element = d;
  },
  refl,
)
under_closed start (p ∷ os) front es ts t (within tag before inside u o part q) d e l =
    let here = around os ++ binds_of tag.attributes in
    let place : start + size front ≡ ((start + size before) + tag_size tag) + size inside =
    place_inside start (size before) (tag_size tag) (size front) (size (start_tag tag ∷ inside)) (size inside)
    (ap size q ∙ size_append before (start_tag tag ∷ inside)) (size_cons (start_tag tag) inside) in
    let c : IsElement here (start + size front) es t = subst (λ bs. IsElement (around os ++ bs) (start + size front) es t) o.bound d in
    let c₂ : IsElement here (((start + size before) + tag_size tag) + size inside) es t = subst (λ n. IsElement here n es t) place c in
    record {
      tag = tag;
      before = before;
      done = inside ++ es;
      run = [];
      under = u;
      is_open = still_open _ o;
      content = element_done here ((start + size before) + tag_size tag) inside es p.children t part c₂;
      plain = tt;
      read = refl;
      last_of_run = refl;
      last_of_all = sym l;
      parts = e ∙ ap (λ x. x ++ es) q ∙ append_assoc before (start_tag tag ∷ inside) es ∙ ap (λ x. before ++ start_tag tag ∷ x) (sym (append-nil (inside ++ es)));
    }

-- an end tag makes the innermost element whole
pub inside_element : {start : ℕ} {o : OpenElement} {os : List OpenElement} {text : List ℕ} {l : Last} {ts : List Token} (name : QName) (space : List ℕ) (i : Inside start o os text l ts)
    → IsElement (around os) (start + size i.before) (start_tag i.tag ∷ ((i.done ++ i.run) ++ end_tag name space ∷ [])) (tree_of (record o { children = o.children ++ text_nodes text }))
inside_element name space i = trees.full name space (i.done ++ i.run) (has_tag (still_open _ i.is_open)) (content_whole _ _ _ _ (inside_part i)) refl

-- what is open

pub record OpenTags (os : List OpenElement) (ts : List Token) : Type 0 where
  pub tags : List Tag
  pub are_open : AreOpen tags ts
  pub binds : open_binds tags ≡ around os
  pub count : length tags ≡ length os

open_one : (os : List OpenElement) (before inside ts : List Token) (tag : Tag) (o : OpenElement) → OpenTags os before → o.binds ≡ binds_of tag.attributes → IsBalanced inside
    → ts ≡ before ++ start_tag tag ∷ inside → OpenTags (o ∷ os) ts
open_one os before inside ts tag o g b c e = record {
  tags = g.tags ++ tag ∷ [];
  are_open = subst (λ x. AreOpen (g.tags ++ tag ∷ []) x) (append_assoc before (start_tag tag ∷ []) inside ∙ sym e) (open_after (opened tag g.are_open) c);
  binds = binds_opened g.tags tag ∙ ap (λ x. x ++ binds_of tag.attributes) g.binds ∙ ap (λ x. around os ++ x) (sym b);
  count = length-append g.tags (tag ∷ []) ∙ ap (λ n. n + 1) g.count ∙ add-one (length os);
}

pub under_open : (start : ℕ) (os : List OpenElement) (ts : List Token) → Under start os ts → OpenTags os ts
under_open start os ts (outside n) = record { tags = []; are_open = none (no_tags_balanced ts n); binds = refl; count = refl }
under_open start (o ∷ os) ts (within tag before inside u d part e) =
    open_one os before inside ts tag o (under_open start os before u) d.bound (content_balanced (content_whole _ _ _ _ part)) e

-- the outermost of the open elements, those inside it, and the name of the innermost
pub record OpenInside (o : OpenElement) (os : List OpenElement) (ts : List Token) : Type 0 where
  pub outer : Tag
  pub inner : List Tag
  pub are_open : AreOpen (outer ∷ inner) ts
  pub binds : open_binds (outer ∷ inner) ≡ around (o ∷ os)
  pub count : length (outer ∷ inner) ≡ length (o ∷ os)
  pub name : name_made (innermost outer inner).name ≡ o.written

with_outer : (o : OpenElement) (os : List OpenElement) (ts : List Token) (tags : List Tag) (tag : Tag) → AreOpen (tags ++ tag ∷ []) ts → open_binds (tags ++ tag ∷ []) ≡ around (o ∷ os)
    → length (tags ++ tag ∷ []) ≡ length (o ∷ os) → o.written ≡ name_made tag.name → OpenInside o os ts
with_outer o os ts [] tag a b c w = record { outer = tag; inner = []; are_open = a; binds = b; count = c; name = sym w }
with_outer o os ts (g ∷ gs) tag a b c w = record {
  outer = g;
  inner = gs ++ tag ∷ [];
  are_open = a;
  binds = b;
  count = c;
  name = ap (λ (x : Tag). name_made x.name) (innermost_opened g gs tag) ∙ sym w;
}

pub inside_open : {start : ℕ} {o : OpenElement} {os : List OpenElement} {text : List ℕ} {l : Last} {ts : List Token} → Inside start o os text l ts → OpenInside o os ts
unfolding open_one
inside_open {start = start} {o = o} {os = os} {ts = ts} i =
    let g = under_open start os i.before i.under in
    let h = open_one os i.before (i.done ++ i.run) ts i.tag o g i.is_open.bound (content_balanced (content_whole _ _ _ _ (inside_part i))) i.parts in
    with_outer o os ts g.tags i.tag h.are_open h.binds h.count i.is_open.written
