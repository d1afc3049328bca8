-- A file in whose tree few elements stand in one another opens no level too many.
use Rattle.std.proofs.Common.{◌≡◌, ◌≤◌, ◌<◌, ◌-◌, ◌+◌, ℕ, true, false, List, [], ◌∷◌, ◌++◌, length, refl, sym, ap, subst, ◌∙◌, append_assoc, append-nil, arith}
use Rattle.std.proofs.lemmas.Bool.{both_ways, or_parts}
use Rattle.std.specs.Str.{encode_utf8_all}
use Rattle.odd_text.specs.declared.name.Bind.{Bind}
use Rattle.odd_tokens.specs.Tokens.{Tag, Token, end_tag, start_tag}
use Rattle.odd_tree.specs.Elements.{children_of, elements_of}
use Rattle.odd_tree.specs.Fitting.{AreOpen, IsBalanced, is_start_or_empty, is_start_or_end, is_tag}
use Rattle.odd_tree.specs.Fitting as fitting
use Rattle.odd_tree.specs.Markup.{Markup, Markups, declaring, element, line, more, none}
use Rattle.odd_tree.specs.Spelled.{GivesTree, IsDocument, NoneTooDeep, Spells, deepest}
use Rattle.odd_tree.specs.Trees.{IsContent, IsElement, token_read, with_text}
use Rattle.odd_tree.specs.Trees as trees
use Rattle.odd_tree.specs.declared.tree.Node.{Node, Text}
use Rattle.odd_tree.specs.declared.tree.Tree.{Tree, out-Tree}
use Rattle.odd_tree.proofs.InTree as lists
use Rattle.odd_tree.proofs.InTree.{with_element}
use Rattle.odd_tree.proofs.PrintedTrees.{Shows}
use Rattle.odd_forms.specs.Names.{tei_namespace}
use Rattle.merged_laws.proofs.Sought.{AllShown, AreOther, IsOther, inside_of, none_shown, shown_inside}

-- How many tags are open

abbrev depth_after : ℕ → Token → ℕ
depth_after n (start_tag t) = n + 1
depth_after n (end_tag name space) = n - 1
depth_after n t = n

abbrev depth_of : ℕ → List Token → ℕ
depth_of n [] = n
depth_of n (t ∷ ts) = depth_of (depth_after n t) ts

same_after : (n : ℕ) (t : Token) → is_start_or_end t ≡ false → depth_after n t ≡ n
same_after n (start_tag t) h = cc
same_after n (end_tag name space) h = cc
same_after n t h = refl

balanced_depth : (n : ℕ) (ts next : List Token) → IsBalanced ts → depth_of n (ts ++ next) ≡ depth_of n next
balanced_depth n ts next fitting.nothing = refl
balanced_depth n ts next (fitting.piece {t = t} {ts = us} h b) = ap (λ m. depth_of m (us ++ next)) (same_after n t h) ∙ balanced_depth n us next b
balanced_depth n ts next (fitting.element {tag = tag} {ts = us} name space inside after b c e) =
    let back : n + 1 - 1 ≡ n = omega arith in
    ap (λ vs. depth_of (n + 1) (vs ++ next)) e ∙ ap (depth_of (n + 1)) (append_assoc inside (end_tag name space ∷ after) next)
    ∙ balanced_depth (n + 1) inside (end_tag name space ∷ (after ++ next)) b ∙ ap (λ m. depth_of m (after ++ next)) back ∙ balanced_depth n after next c

open_depth : (n : ℕ) (tags : List Tag) (ts : List Token) → AreOpen tags ts → depth_of n ts ≡ n + length tags
open_depth n tags ts (fitting.none b) = ap (depth_of n) (sym (append-nil ts)) ∙ balanced_depth n ts [] b ∙ omega arith
open_depth n tags ts (fitting.more {tag = tag} {tags = inner} before inside b o e) =
    let one : n + 1 + length inner ≡ n + length (tag ∷ inner) = omega arith in
    ap (depth_of n) e ∙ balanced_depth n before (start_tag tag ∷ inside) b ∙ open_depth (n + 1) inner inside o ∙ one

-- each tag is opened among few enough, where so many are open at the beginning
abbrev AreShallow : ℕ → List Token → Type 0
AreShallow n [] = Unit {0}
AreShallow n (t ∷ ts) = (is_start_or_empty t ≡ true → n < deepest) × AreShallow (depth_after n t) ts

shallow_at : (n : ℕ) (ts before after : List Token) (t : Token) → AreShallow n ts → ts ≡ before ++ t ∷ after → is_start_or_empty t ≡ true → depth_of n before < deepest
shallow_at n [] [] after t a e start = cc
shallow_at n [] (b ∷ before) after t a e start = cc
shallow_at n (u ∷ us) [] after t a e start = let same : u ≡ t = cc in a.0 (ap is_start_or_empty same ∙ start)
shallow_at n (u ∷ us) (b ∷ before) after t a e start =
    let same : u ≡ b = cc in
    let rest : us ≡ before ++ t ∷ after = cc in
    subst (λ x. depth_of (depth_after n x) before < deepest) same (shallow_at (depth_after n u) us before after t a.1 rest start)

none_too_deep : (ts : List Token) → AreShallow 0 ts → NoneTooDeep ts
none_too_deep ts a before after t open_tags e start o =
    let count = open_depth 0 open_tags before o in
    let few = shallow_at 0 ts before after t a e start in
    omega (arith, count, few)

-- Levels of a tree

-- at most so many elements stand in one another
mutual
  pub data IsFlat : ℕ → Tree → Type 0 where
    is_flat : {n : ℕ} {t : Tree} → 0 < n → AreFlat (n - 1) (children_of t) → IsFlat n t

  pub data AreFlat : ℕ → List Tree → Type 0 where
    no_trees : {n : ℕ} → AreFlat n []
    some_trees : {n : ℕ} {t : Tree} {ts : List Tree} → IsFlat n t → AreFlat n ts → AreFlat n (t ∷ ts)

none_flat : (n : ℕ) (ts : List Tree) → AllShown none ts → AreFlat n ts
none_flat n ts s = subst (AreFlat n) (sym (none_shown ts s)) no_trees

-- so it is where few are printed
mutual
  shown_flat : (n : ℕ) (m : Markup) (t : Tree) → IsOther n m → Shows tei_namespace [] m t → IsFlat n t
  shown_flat n (element name attributes inside) t o s = is_flat o.0 (all_flat (n - 1) inside (children_of t) o.2 (shown_inside [] (element name attributes inside) t s))
  shown_flat n (line name attributes text) t o s = is_flat o.0 (none_flat (n - 1) (children_of t) (shown_inside [] (line name attributes text) t s))
  shown_flat n (declaring name prefixes attributes) t o s = is_flat o.0 (none_flat (n - 1) (children_of t) (shown_inside [] (declaring name prefixes attributes) t s))

  all_flat : (n : ℕ) (ms : Markups) (ts : List Tree) → AreOther n ms → AllShown ms ts → AreFlat n ts
  all_flat n none [] o s = no_trees
  all_flat n none (t ∷ ts) o s = absurd s
  all_flat n (more m ms) [] o s = absurd s
  all_flat n (more m ms) (t ∷ ts) o s = some_trees (shown_flat n m t o.0 s.0) (all_flat n ms ts o.1 s.1)

-- no text is an element
text_elements : (x : List ℕ) (ns : List Node) → elements_of (with_text x ns) ≡ elements_of ns
text_elements [] ns = refl
text_elements (c ∷ cs) [] = lists.with_text (encode_utf8_all (c ∷ cs)) []
text_elements (c ∷ cs) (Text text ∷ ns) = lists.with_text (encode_utf8_all (c ∷ cs) ++ text) ns ∙ sym (lists.with_text text ns)
text_elements (c ∷ cs) (n ∷ ns) = lists.with_text (encode_utf8_all (c ∷ cs)) (n ∷ ns)

-- what is no tag opens nothing
no_start : (t : Token) → is_tag t ≡ false → (is_start_or_end t ≡ false) × (is_start_or_empty t ≡ false)
no_start t h = or_parts (is_start_or_end t) (is_start_or_empty t) h

piece_shallow : (n : ℕ) (t : Token) (ts : List Token) → is_tag t ≡ false → AreShallow n ts → AreShallow n (t ∷ ts)
piece_shallow n t ts h a =
    let k = no_start t h in
    (λ start. absurd (both_ways (is_start_or_empty t) k.1 start), subst (λ m. AreShallow m ts) (sym (same_after n t k.0)) a)

-- the first of some, and the others
first_flat : (n : ℕ) (t : Tree) (ts : List Tree) → AreFlat n (t ∷ ts) → IsFlat n t × AreFlat n ts
first_flat n t ts (some_trees one others) = (one, others)

-- the tokens of an element that is flat enough are shallow, before others that are
mutual
  element_shallow : (n left at : ℕ) (around : List Bind) (es next : List Token) (t : Tree) → IsElement around at es t → IsFlat left t → n + left ≤ deepest → AreShallow n next → AreShallow n (es ++ next)
  element_shallow n left at around es next t (trees.empty has bare) (is_flat some inside) room a = (λ start. omega (arith, some, room), a)
  element_shallow n left at around es next t (trees.full {tag = tag} {ts = ts} name space tokens has is e) (is_flat some inside) room a =
      let back : n + 1 - 1 ≡ n = omega arith in
      let after : AreShallow (n + 1) (end_tag name space ∷ next) = (λ start. cc, subst (λ m. AreShallow m next) (sym back) a) in
      let below : n + 1 + (left - 1) ≤ deepest = omega (arith, some, room) in (
        λ start. omega (arith, some, room),
        subst (AreShallow (n + 1)) (sym (ap (λ us. us ++ next) e ∙ append_assoc tokens (end_tag name space ∷ []) next))
            (content_shallow (n + 1) (left - 1) _ _ tokens (end_tag name space ∷ next) (out-Tree t).children is inside below after),
      )

  content_shallow : (n left at : ℕ) (around : List Bind) (ts next : List Token) (ns : List Node) → IsContent around at ts ns → AreFlat left (elements_of ns) → n + left ≤ deepest
      → AreShallow n next → AreShallow n (ts ++ next)
  content_shallow n left at around ts next ns trees.nothing f room a = a
  content_shallow n left at around ts next ns (trees.piece {t = t} {ts = us} later h is e) f room a =
      piece_shallow n t (us ++ next) h (content_shallow n left _ around us next later is (subst (AreFlat left) (ap elements_of e ∙ text_elements (token_read t us) later) f) room a)
  content_shallow n left at around ts next ns (trees.child {t = t} {later = later} es after is inside e) f room a =
      let both = first_flat left t (elements_of later) (subst (AreFlat left) (with_element t later) f) in
      subst (AreShallow n) (sym (ap (λ us. us ++ next) e ∙ append_assoc es after next))
      (element_shallow n left at around es (after ++ next) t is both.0 room (content_shallow n left _ around after next later inside both.1 room a))

-- tokens without a tag
untagged_shallow : (n : ℕ) (ts next : List Token) → ((before after : List Token) (t : Token) → ts ≡ before ++ t ∷ after → is_tag t ≡ false) → AreShallow n next → AreShallow n (ts ++ next)
untagged_shallow n [] next h a = a
untagged_shallow n (t ∷ ts) next h a =
    piece_shallow n t (ts ++ next) (h [] ts t refl) (untagged_shallow n ts next (λ before after u e. h (t ∷ before) after u (ap (λ us. t ∷ us) e)) a)

document_shallow : (at : ℕ) (ts : List Token) (t : Tree) → IsDocument at ts t → IsFlat deepest t → AreShallow 0 ts
document_shallow at ts t d f =
    let after : AreShallow 0 (d.after ++ []) = untagged_shallow 0 d.after [] d.none_after tt in
    subst (AreShallow 0) (sym (d.parts ∙ append_assoc d.before d.root d.after ∙ ap (λ us. d.before ++ (d.root ++ us)) (sym (append-nil d.after))))
    (untagged_shallow 0 d.before (d.root ++ (d.after ++ [])) d.none_before (element_shallow 0 deepest _ [] d.root (d.after ++ []) t d.element f (omega arith) after))

-- more room
mutual
  flat_within : (n most : ℕ) (t : Tree) → n ≤ most → IsFlat n t → IsFlat most t
  flat_within n most t h (is_flat some inside) = is_flat (omega (arith, some, h)) (all_within (n - 1) (most - 1) (children_of t) (omega (arith, some, h)) inside)

  all_within : (n most : ℕ) (ts : List Tree) → n ≤ most → AreFlat n ts → AreFlat most ts
  all_within n most ts h no_trees = no_trees
  all_within n most ts h (some_trees {t = t} {ts = rest} one others) = some_trees (flat_within n most t h one) (all_within n most rest h others)

-- an element in which few levels are printed
pub root_flat : (binds : List Bind) (n : ℕ) (m : Markup) (t : Tree) → 0 < n → AreOther (n - 1) (inside_of m) → Shows tei_namespace binds m t → IsFlat n t
root_flat binds n m t some o s = is_flat some (all_flat (n - 1) (inside_of m) (children_of t) o (shown_inside binds m t s))

-- a file that spells a tree of few levels gives it
pub gives_tree : (bytes : List ℕ) (n : ℕ) (t : Tree) → n ≤ deepest → IsFlat n t → Spells bytes t → GivesTree bytes t
gives_tree bytes n t room f spells =
    record { spelled = spells; shallow = none_too_deep spells.whole.tokens (document_shallow _ spells.whole.tokens t spells.document (flat_within n deepest t room f)) }
