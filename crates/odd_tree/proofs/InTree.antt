-- What stands among the children of an element and among its attributes.
use Rattle.std.proofs.Common.{◌≡◌, ℕ, ◌+◌, ◌<◌, ◌≤◌, List, [], ◌∷◌, ◌++◌, length, take, drop, get_or, refl, sym, ap, ◌∙◌, append_assoc, rules, true, false, if◌then◌else◌, Some, None}
use Rattle.std.proofs.lemmas.List.{take-append-drop, drop_all}
use Rattle.odd_text.proofs.InList.{begins}
use Rattle.odd_text.specs.Standing.{StandsIn}
use Rattle.odd_tree.specs.Elements.{elements_of, shown_elements, attribute_value, is_named}
use Rattle.odd_tree.specs.declared.tree.Attr.{Attr}
use Rattle.odd_tree.specs.declared.tree.Node.{Node, out-Node, Element, Text}
use Rattle.odd_tree.specs.declared.tree.Node as N
use Rattle.odd_tree.specs.declared.tree.Tree.{Tree}

-- the elements of two lists, one after the other
pub elements_append : (xs ys : List Node) → elements_of (xs ++ ys) ≡ elements_of xs ++ elements_of ys
elements_append [] ys = refl
elements_append (x ∷ xs) ys = ap (λ es. shown_elements (out-Node x) ++ es) (elements_append xs ys) ∙ sym (append_assoc (shown_elements (out-Node x)) (elements_of xs) (elements_of ys))

-- the elements of all children: those before a place, what stands there, and those after it
pub elements_around : (ns : List Node) (i : ℕ) (n : Node) → i < length ns → n ≡ get_or ns i n
    → elements_of ns ≡ elements_of (take i ns) ++ (shown_elements (out-Node n) ++ elements_of (drop (i + 1) ns))
elements_around ns i n h is =
    ap elements_of (sym (take-append-drop i ns)) ∙ elements_append (take i ns) (drop i ns)
    ∙ ap (λ xs. elements_of (take i ns) ++ elements_of xs) (begins ns i n h is)

-- an element shows itself
pub element_shown : (n : Node) (t : Tree) → n ≡ Element t → shown_elements (out-Node n) ≡ t ∷ []
element_shown n t is = ap (λ m. shown_elements (out-Node m)) is ∙ search (rules, N.the_lemmas)

-- a text shows no element
pub text_shown : (n : Node) (x : List ℕ) → n ≡ Text x → shown_elements (out-Node n) ≡ []
text_shown n x is = ap (λ m. shown_elements (out-Node m)) is ∙ search (rules, N.the_lemmas)

-- the elements among nodes that begin with an element
pub with_element : (t : Tree) (nodes : List Node) → elements_of (Element t ∷ nodes) ≡ t ∷ elements_of nodes
with_element t nodes = ap (λ ts. ts ++ elements_of nodes) (element_shown (Element t) t refl)

-- and with a text
pub with_text : (x : List ℕ) (nodes : List Node) → elements_of (Text x ∷ nodes) ≡ elements_of nodes
with_text x nodes = ap (λ ts. ts ++ elements_of nodes) (text_shown (Text x) x refl)

-- the elements of all children: those before an element, the element, and those after it
pub element_around : (ns : List Node) (i : ℕ) (n : Node) (t : Tree) → i < length ns → n ≡ get_or ns i n → n ≡ Element t
    → elements_of ns ≡ elements_of (take i ns) ++ t ∷ elements_of (drop (i + 1) ns)
element_around ns i n t h at is =
    elements_around ns i n h at ∙ ap (λ xs. elements_of (take i ns) ++ (xs ++ elements_of (drop (i + 1) ns))) (element_shown n t is)

-- a child that stands at a place is among the children
pub child_stands : (ns ms : List Node) (i : ℕ) (n : Node) (t : Tree) → ns ≡ ms → i < length ns → n ≡ get_or ns i n → n ≡ Element t → StandsIn (elements_of ms) t
child_stands ns ms i n t same h at is =
    (elements_of (take i ns), elements_of (drop (i + 1) ns), ap elements_of (sym same) ∙ element_around ns i n t h at is)

-- the first attribute of the name gives the value
pub attribute_here : (attrs : List Attr) (i : ℕ) (a : Attr) (local : List ℕ) → i < length attrs → a ≡ get_or attrs i a → is_named a local ≡ true
    → attribute_value (drop i attrs) local ≡ Some a.value
attribute_here attrs i a local h is named =
    ap (λ xs. attribute_value xs local) (begins attrs i a h is) ∙ ap (λ b. if b then Some a.value else attribute_value (drop (i + 1) attrs) local) named

-- an attribute of another name is passed over
pub attribute_next : (attrs : List Attr) (i : ℕ) (a : Attr) (local : List ℕ) → i < length attrs → a ≡ get_or attrs i a → is_named a local ≡ false
    → attribute_value (drop i attrs) local ≡ attribute_value (drop (i + 1) attrs) local
attribute_next attrs i a local h is named =
    ap (λ xs. attribute_value xs local) (begins attrs i a h is) ∙ ap (λ b. if b then Some a.value else attribute_value (drop (i + 1) attrs) local) named

-- past the end there is none
pub attribute_none : (attrs : List Attr) (i : ℕ) (local : List ℕ) → length attrs ≤ i → attribute_value (drop i attrs) local ≡ None
attribute_none attrs i local h = ap (λ xs. attribute_value xs local) (drop_all i attrs h)
