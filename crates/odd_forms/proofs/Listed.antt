-- The attributes that an `attList` lists, node by node, and that it lists no others.
use Rattle.std.proofs.Common.{◌≡◌, ℕ, ◌+◌, ◌<◌, Bor, List, [], ◌∷◌, ◌++◌, map, drop, get_or, length, refl, sym, ap, ap₂, subst, ◌∙◌, append_assoc}
use Rattle.std.proofs.lemmas.Bool.{both_ways}
use Rattle.std.proofs.lemmas.List.{append-nil}
use Rattle.odd_tree.proofs.InTree.{text_shown}
use Rattle.odd_text.proofs.InList.{begins}
use Rattle.odd_tree.specs.Elements.{children_of, elements_of}
use Rattle.odd_tree.specs.declared.tree.Node.{Node, Text}
use Rattle.odd_tree.specs.declared.tree.Tree.{Tree}
use Rattle.odd_forms.specs.Listing.{Lists, ListsAmong, is_definition, is_list, list, nothing, definition, nested, other}

-- the elements that references point to
abbrev pub pointed : List (Bor Tree) → List Tree
pointed = map (λ t. t.now)

-- the elements from a place on, where a text stands there
pub text_first : (ns : List Node) (i : ℕ) (n : Node) (bytes : List ℕ) → i < length ns → n ≡ get_or ns i n → n ≡ Text bytes → elements_of (drop i ns) ≡ elements_of (drop (i + 1) ns)
text_first ns i n bytes h at is = ap elements_of (begins ns i n h at) ∙ ap (λ xs. xs ++ elements_of (drop (i + 1) ns)) (text_shown n bytes is)

mutual
  -- what a list lists is told by the list
  pub lists_one : {t : Tree} {a b : List Tree} → Lists t a → Lists t b → a ≡ b
  lists_one (list f) (list g) = among_one f g

  among_one : {ts a b : List Tree} → ListsAmong ts a → ListsAmong ts b → a ≡ b
  among_one nothing nothing = refl
  among_one (definition {t = t} d f) (definition e g) = ap (λ ts. t ∷ ts) (among_one f g)
  among_one (definition {t = t} d f) (nested e l i g is) = absurd (both_ways (is_definition t) e d)
  among_one (definition {t = t} d f) (other e l g) = absurd (both_ways (is_definition t) e d)
  among_one (nested {t = t} d k i f is) (definition e g) = absurd (both_ways (is_definition t) d e)
  among_one (nested {t = t} d k i f is) (nested e l j g at) = is ∙ ap₂ (λ xs ys. xs ++ ys) (lists_one i j) (among_one f g) ∙ sym at
  among_one (nested {t = t} d k i f is) (other e l g) = absurd (both_ways (is_list t) l k)
  among_one (other {t = t} d k f) (definition e g) = absurd (both_ways (is_definition t) d e)
  among_one (other {t = t} d k f) (nested e l j g at) = absurd (both_ways (is_list t) k l)
  among_one (other d k f) (other e l g) = among_one f g

-- what is listed among the children is put after what was there, where what is listed among the rest of them is still to come
abbrev pub ListedSoFar : List Tree → List Tree → List Tree → List Tree → Type 0
ListedSoFar all rest old new = (later : List Tree) → ListsAmong rest later → (inner : List Tree) × ListsAmong all inner × (new ++ later ≡ old ++ inner)

-- at the start nothing is added
pub listed_none : (all rest old : List Tree) → rest ≡ all → ListedSoFar all rest old old
listed_none all rest old is later among = (later, subst (λ ts. ListsAmong ts later) is among, refl)

-- what one child gives is added
pub listed_more : (all rest after : List Tree) (t : Tree) (old new newer added : List Tree) → ListedSoFar all rest old new → rest ≡ t ∷ after
    → ((later : List Tree) → ListsAmong after later → ListsAmong (t ∷ after) (added ++ later)) → newer ≡ new ++ added → ListedSoFar all after old newer
listed_more all rest after t old new newer added so_far is gives more later among =
    let before = so_far (added ++ later) (subst (λ ts. ListsAmong ts (added ++ later)) (sym is) (gives later among)) in
    (before.0, before.1, ap (λ ts. ts ++ later) more ∙ append_assoc new added later ∙ before.2)

-- at the end all children were passed
pub listed_all : (t : Tree) (rest old new : List Tree) → rest ≡ [] → ListedSoFar (children_of t) rest old new → (added : List Tree) × Lists t added × (new ≡ old ++ added)
listed_all t rest old new is so_far =
    let all = so_far [] (subst (λ ts. ListsAmong ts []) (sym is) ListsAmong.nothing) in
    (all.0, list all.1, sym (append-nil new) ∙ all.2)
