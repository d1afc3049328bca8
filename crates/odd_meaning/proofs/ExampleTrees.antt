-- Small elements: how deep they are, and which of their children count.
use Rattle.std.proofs.Common.{◌≡◌, ℕ, true, false, not, ◌||◌, List, [], ◌∷◌, filter, refl, sym, ap, subst, ◌∙◌, codes, rules}
use Rattle.std.specs.List.{list_any}
use Rattle.std.proofs.lemmas.Bool.{false≢true}
use Rattle.odd_forms.specs.Names.{tei}
use Rattle.odd_tree.specs.Significant.{IsSignificant, beside_elements, blank, depth, is_blank, is_element, whole}
use Rattle.odd_tree.specs.declared.tree.Attr.{Attr}
use Rattle.odd_tree.specs.declared.tree.Node as N
use Rattle.odd_tree.specs.declared.tree.Node.{Node, Element, Text}
use Rattle.odd_tree.specs.declared.tree.Tree as T
use Rattle.odd_tree.specs.declared.tree.Tree.{Tree, roll-Tree}

-- nodes and trees

abbrev pub words : Node
words = Text (codes "some words")

abbrev pub space : Node
space = Text (codes " \n")

-- an attribute without a namespace
abbrev pub attribute : List ℕ → List ℕ → Attr
attribute local value = record { name = record { ns = []; local = local }; value = value }

-- an element of TEI's
abbrev pub element : List ℕ → List Attr → List Node → Tree
element local attrs children = roll-Tree (record { name = tei local; attrs = attrs; binds = []; children = children; at = 0 })

-- an element of a namespace, with no attribute
abbrev pub element_in : List ℕ → List ℕ → List Node → Tree
element_in ns local children = roll-Tree (record { name = record { ns = ns; local = local }; attrs = []; binds = []; children = children; at = 0 })

-- `<b/>`, and `<a> <b/></a>`
abbrev pub leaf : Tree
leaf = element (codes "b") [] []

abbrev pub branch : Tree
branch = element (codes "a") [] (space ∷ Element leaf ∷ [])

-- which of the nodes are elements, and which are white space

words_no_element : is_element words ≡ false
words_no_element = search (rules, N.the_lemmas)

words_not_blank : is_blank words ≡ false
words_not_blank = search (rules, N.the_lemmas)

space_no_element : is_element space ≡ false
space_no_element = search (rules, N.the_lemmas)

space_blank : is_blank space ≡ true
space_blank = search (rules, N.the_lemmas)

pub leaf_element : is_element (Element leaf) ≡ true
leaf_element = search (rules, N.the_lemmas)

leaf_not_blank : is_blank (Element leaf) ≡ false
leaf_not_blank = search (rules, N.the_lemmas)

-- depth: an element alone is one level, a text is none, and a child is one more

pub childless_depth : (local : List ℕ) (attrs : List Attr) → depth (element local attrs []) ≡ 1
childless_depth local attrs = search (rules, T.the_lemmas, N.the_lemmas)

pub bare_depth : (ns local : List ℕ) → depth (element_in ns local []) ≡ 1
bare_depth ns local = search (rules, T.the_lemmas, N.the_lemmas)

pub words_depth : (local : List ℕ) (attrs : List Attr) → depth (element local attrs (words ∷ [])) ≡ 1
words_depth local attrs = search (rules, T.the_lemmas, N.the_lemmas)

pub space_depth : (local : List ℕ) (attrs : List Attr) → depth (element local attrs (space ∷ [])) ≡ 1
space_depth local attrs = search (rules, T.the_lemmas, N.the_lemmas)

pub branch_depth : depth branch ≡ 2
branch_depth = search (rules, T.the_lemmas, N.the_lemmas)

-- significant children

-- no text among them is an element
pub words_alone : list_any is_element (words ∷ []) ≡ false
words_alone = ap (λ b. b || false) words_no_element

pub space_alone : list_any is_element (space ∷ []) ≡ false
space_alone = ap (λ b. b || false) space_no_element

leaf_among : list_any is_element (space ∷ Element leaf ∷ []) ≡ true
leaf_among = ap (λ b. b || (is_element (Element leaf) || false)) space_no_element ∙ ap (λ b. b || false) leaf_element

-- beside an element white space is dropped
space_dropped : filter (λ n. not (is_blank n)) (space ∷ Element leaf ∷ []) ≡ Element leaf ∷ []
space_dropped = rw (space_blank, leaf_not_blank) refl

-- no child is no significant child
pub none_counts : IsSignificant [] []
none_counts = whole refl

-- white space alone counts, and it does not
pub space_counts : IsSignificant (space ∷ []) (space ∷ [])
space_counts = whole space_alone

pub space_is_passed : IsSignificant (space ∷ []) []
space_is_passed = blank space_blank

-- beside an element it does not count
leaf_counts : IsSignificant (space ∷ Element leaf ∷ []) (Element leaf ∷ [])
leaf_counts = subst (IsSignificant (space ∷ Element leaf ∷ [])) space_dropped (beside_elements leaf_among)

pub leaf_alone_counts : (all kept : List Node) → all ≡ space ∷ Element leaf ∷ [] → IsSignificant all kept → kept ≡ Element leaf ∷ []
leaf_alone_counts all kept e (beside_elements h) = ap (filter (λ n. not (is_blank n))) e ∙ space_dropped
leaf_alone_counts all kept e (blank b) = cc
leaf_alone_counts all kept e (whole h) = absurd (false≢true (sym h ∙ ap (list_any is_element) e ∙ leaf_among))

-- words always count
pub words_count : (all kept : List Node) → all ≡ words ∷ [] → IsSignificant all kept → kept ≡ words ∷ []
words_count all kept e (beside_elements h) = absurd (false≢true (sym words_alone ∙ ap (list_any is_element) (sym e) ∙ h))
words_count all kept e (blank {child = child} b) = let same : child ≡ words = cc in absurd (false≢true (sym words_not_blank ∙ ap is_blank (sym same) ∙ b))
words_count all kept e (whole h) = e
