-- The parts among nodes, read one after the other.
use Rattle.std.proofs.Common.{◌≡◌, ℕ, ◌+◌, ◌<◌, List, [], ◌∷◌, ◌++◌, Some, rules, sym, ap, subst, ◌∙◌, append_assoc, drop, get_or, length, map, refl}
use Rattle.odd_text.specs.declared.name.Bind.{Bind}
use Rattle.odd_tree.specs.Elements.{elements_of, within}
use Rattle.odd_tree.specs.declared.tree.Node.{Node, Element, Text, fold-Node, out-Node, roll-Node, roll-out-Node}
use Rattle.odd_tree.specs.declared.tree.Node as N
use Rattle.odd_tree.specs.declared.tree.Node.TheOpen as shown
use Rattle.odd_tree.specs.declared.tree.Node.TheVariants.{rolls-Element, rolls-Text}
use Rattle.odd_tree.specs.declared.tree.Tree.{Tree, fold-Tree, out-Tree}
use Rattle.odd_tree.specs.declared.tree.Tree as T
use Rattle.odd_tree.proofs.InTree.{with_element, with_text}
use Rattle.odd_text.proofs.InList.{begins}
use Rattle.odd_forms.specs.Tags.{tag_of, tags_in}
use Rattle.odd_forms.specs.declared.element.Element.{Element as Kind}
use Rattle.odd_content.specs.Giving.{Given, all_tags, given_by, node_gives, part_content, part_named, parts_in, tree_gives}
use Rattle.odd_content.specs.declared.content.Content.{Content}

-- a child is an element or a text
pub data IsOfKind : Node → Type 0 where
  element : (t : Tree) → IsOfKind (Element t)
  text : (x : List ℕ) → IsOfKind (Text x)

pub kind_of : (n : Node) → IsOfKind n
kind_of n = elim (out-Node n) as (λ q. out-Node n ≡ q → IsOfKind n) [
  | shown.Element t ↦ λ e. subst IsOfKind (sym (rolls-Element t) ∙ ap roll-Node (sym e) ∙ roll-out-Node n) (IsOfKind.element t)
  | shown.Text x ↦ λ e. subst IsOfKind (sym (rolls-Text x) ∙ ap roll-Node (sym e) ∙ roll-out-Node n) (IsOfKind.text x)
] refl

-- what a node gives
abbrev gives : Node → Given
gives = fold-Node Given Given node_gives tree_gives

-- of an element what it gives as a tree
tree_given : (t : Tree) → gives (Element t) ≡ fold-Tree Given Given node_gives tree_gives t
tree_given t = search (rules, N.the_lemmas, T.the_lemmas)

-- the tags of nodes are those of the elements among them
element_tag : (t : Tree) → (fold-Tree Given Given node_gives tree_gives t).tags ≡ tag_of t ∷ []
element_tag t = search (rules, N.the_lemmas, T.the_lemmas)

text_tag : (x : List ℕ) → (gives (Text x)).tags ≡ []
text_tag x = search (rules, N.the_lemmas, T.the_lemmas)

with_tags : (n : Node) (ns : List Node) → IsOfKind n → all_tags (map gives ns) ≡ map tag_of (elements_of ns) → all_tags (map gives (n ∷ ns)) ≡ map tag_of (elements_of (n ∷ ns))
with_tags _ ns (IsOfKind.element t) later =
    ap (λ tags. tags ++ all_tags (map gives ns)) (ap (λ (g : Given). g.tags) (tree_given t) ∙ element_tag t) ∙ ap (λ tags. tag_of t ∷ tags) later ∙ ap (map tag_of) (sym (with_element t ns))
with_tags _ ns (IsOfKind.text x) later = ap (λ tags. tags ++ all_tags (map gives ns)) (text_tag x) ∙ later ∙ ap (map tag_of) (sym (with_text x ns))

tags_are : (ns : List Node) → all_tags (map gives ns) ≡ map tag_of (elements_of ns)
tags_are [] = refl
tags_are (n ∷ ns) = with_tags n ns (kind_of n) (tags_are ns)

-- an element gives what its kind does with its children and the parts in it
pub element_gives : (around : List Bind) (t : Tree)
    → (gives (Element t)).contents around ≡ given_by (part_named (out-Tree t).name) (within around t) (out-Tree t).attrs (tags_in t) (parts_in (within around t) (out-Tree t).children)
element_gives around t =
    ap (λ (g : Given). g.contents around) (tree_given t) ∙ ap (λ (f : List Bind → List Content). f around) opened
    ∙ ap (λ tags. given_by (part_named (out-Tree t).name) (within around t) (out-Tree t).attrs tags (parts_in (within around t) (out-Tree t).children)) (tags_are (out-Tree t).children)
  where
    opened : (fold-Tree Given Given node_gives tree_gives t).contents
        ≡ (λ binds. given_by (part_named (out-Tree t).name) (within binds t) (out-Tree t).attrs (all_tags (map gives (out-Tree t).children)) (parts_in (within binds t) (out-Tree t).children))
    opened = search (rules, N.the_lemmas, T.the_lemmas)

-- a text gives nothing
pub text_gives : (around : List Bind) (x : List ℕ) → (gives (Text x)).contents around ≡ []
text_gives around x = search (rules, N.the_lemmas, T.the_lemmas)

module _ (around : List Bind) (ns : List Node) (i : ℕ) (n : Node) (parts all : List Content) (h : i < length ns) (at : n ≡ get_or ns i n)
    (before : parts ++ parts_in around (drop i ns) ≡ all) where
  -- a node is passed
  node_passed : (more gained : List Content) → (gives n).contents around ≡ gained → more ≡ parts ++ gained → more ++ parts_in around (drop (i + 1) ns) ≡ all
  node_passed more gained is e =
      ap (λ ps. ps ++ parts_in around (drop (i + 1) ns)) e ∙ append_assoc parts gained (parts_in around (drop (i + 1) ns))
      ∙ ap (λ g. parts ++ (g ++ parts_in around (drop (i + 1) ns))) (sym is) ∙ ap (λ xs. parts ++ parts_in around xs) (sym (begins ns i n h at)) ∙ before

  -- a part is
  pub part_passed : (t : Tree) (kind : Kind) (part : Content) (more : List Content) → n ≡ Element t → part_named (out-Tree t).name ≡ Some kind
      → part ≡ part_content kind (within around t) (out-Tree t).attrs (tags_in t) (parts_in (within around t) (out-Tree t).children) → more ≡ parts ++ part ∷ []
      → more ++ parts_in around (drop (i + 1) ns) ≡ all
  part_passed t kind part more is named e pushed =
      node_passed more _ (ap (λ m. (gives m).contents around) is ∙ element_gives around t ∙ ap (λ k. given_by k (within around t) (out-Tree t).attrs (tags_in t) (parts_in (within around t) (out-Tree t).children)) named)
      (pushed ∙ ap (λ c. parts ++ c ∷ []) e)
