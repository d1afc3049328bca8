-- What is left of an element: it is told by the element and the test, and formed where the element is.
use Rattle.std.proofs.Common.{◌≡◌, ◌≢◌, ℕ, suc, ◌+◌, ◌≤◌, List, [], ◌∷◌, ◌++◌, map, All, refl, sym, ap, ap₂, subst, ◌∙◌, arith}
use Rattle.std.proofs.lemmas.Bool.{and_from}
use Rattle.std.proofs.lemmas.List.Folds.{list_all-append}
use Rattle.std.proofs.lemmas.Str.{encodes-append}
use Rattle.std.specs.List.{list_all}
use Rattle.odd_text.specs.declared.name.Bind.{Bind}
use Rattle.odd_tokens.specs.Characters.{IsLegal, IsNCName, is_char}
use Rattle.odd_tokens.specs.Tokens.{NoneTwice}
use Rattle.odd_tree.proofs.InTree.{element_shown, text_shown, with_element, with_text}
use Rattle.odd_text.proofs.InList.{stands_first, stands_later}
use Rattle.odd_text.specs.Standing.{StandsIn}
use Rattle.odd_tree.specs.Elements.{StandsWithin, children_of, elements_of, within}
use Rattle.odd_tree.specs.Elements as elements
use Rattle.odd_tree.specs.Formed.{AreApart, AreFormed, IsFormed, IsFormedTag, IsPrefix}
use Rattle.odd_tree.specs.Formed as formed
use Rattle.odd_tree.specs.Names.{IsBinding}
use Rattle.odd_tree.specs.declared.tree.Attr.{Attr}
use Rattle.odd_tree.specs.declared.tree.Node.{Node, Element, Text}
use Rattle.odd_tree.specs.declared.tree.Tree.{Tree, out-Tree, roll-Tree, roll-out-Tree}
use Rattle.odd_items.specs.Search.{Found}
use Rattle.odd_items.specs.Without.{AreWithout, IsWithout, text_before}
use Rattle.odd_items.specs.Without as left
use Rattle.odd_items.proofs.Standing.{StandsUnder, formed_room}
use Rattle.odd_items.proofs.Standing as under

-- the tests say the same of each
abbrev Same : (Tree → Type 0) → (Tree → Type 0) → Tree → Type 0
Same Gone Other s = (Gone s → Other s) × (Other s → Gone s)

-- they say the same of all that is in a child
same_inside : (Gone Other : Tree → Type 0) (t child : Tree) → ((s : Tree) → StandsWithin t s → Same Gone Other s) → StandsIn (children_of t) child → (s : Tree) → StandsWithin child s → Same Gone Other s
same_inside Gone Other t child same k s w = same s (elements.inside child k w)

-- and so among several nodes
abbrev SameAmong : (Tree → Type 0) → (Tree → Type 0) → List Node → Type 0
SameAmong Gone Other ns = (c : Tree) → StandsIn (elements_of ns) c → (s : Tree) → StandsWithin c s → Same Gone Other s

-- so they do in the first
same_first : (Gone Other : Tree → Type 0) (t : Tree) (ns : List Node) → SameAmong Gone Other (Element t ∷ ns) → (s : Tree) → StandsWithin t s → Same Gone Other s
same_first Gone Other t ns same = same t (subst (λ ts. StandsIn ts t) (sym (with_element t ns)) (stands_first t (elements_of ns)))

-- in those after an element
same_later : (Gone Other : Tree → Type 0) (t : Tree) (ns : List Node) → SameAmong Gone Other (Element t ∷ ns) → SameAmong Gone Other ns
same_later Gone Other t ns same c s = same c (subst (λ ts. StandsIn ts c) (sym (with_element t ns)) (stands_later t c (elements_of ns) s))

-- and in those after a text
same_beside : (Gone Other : Tree → Type 0) (bytes : List ℕ) (ns : List Node) → SameAmong Gone Other (Text bytes ∷ ns) → SameAmong Gone Other ns
same_beside Gone Other bytes ns same c s = same c (subst (λ ts. StandsIn ts c) (sym (with_text bytes ns)) s)

-- what is left is left by another test too, where both say the same of all elements inside
mutual
  pub same_gone_within : (Gone Other : Tree → Type 0) (t u : Tree) (count : ℕ) → ((s : Tree) → StandsWithin t s → (Gone s → Other s) × (Other s → Gone s)) → IsWithout Gone t u count
      → IsWithout Other t u count
  same_gone_within Gone Other t u count same (left.element name attrs binds at are) =
      left.element name attrs binds at (same_among Gone Other (out-Tree t).children (out-Tree u).children count (λ c k. same_inside Gone Other t c same k) are)

  same_among : (Gone Other : Tree → Type 0) (ns ms : List Node) (count : ℕ) → SameAmong Gone Other ns → AreWithout Gone ns ms count → AreWithout Other ns ms count
  same_among Gone Other ns ms count same left.nothing = left.nothing
  same_among Gone Other ns ms count same (left.text {ns = rest} {left = others} {count = n} bytes later) =
      left.text bytes (same_among Gone Other rest others n (same_beside Gone Other bytes rest same) later)
  same_among Gone Other ns ms count same (left.kept {t = t} {u = u} {ns = rest} {left = others} {inside = m} {count = n} stays one later) =
      let h = same_first Gone Other t rest same in
      left.kept (λ o. stays ((h t elements.itself).1 o)) (same_gone_within Gone Other t u m h one) (same_among Gone Other rest others n (same_later Gone Other t rest same) later)
  same_among Gone Other ns ms count same (left.gone {t = t} {ns = rest} {left = others} {count = n} is later) =
      let h = same_first Gone Other t rest same in
      left.gone ((h t elements.itself).0 is) (same_among Gone Other rest others n (same_later Gone Other t rest same) later)

-- what is in an element stands there with some declarations around it
pub some_under : {t s : Tree} → StandsWithin t s → (outer : List Bind) → (f : Found) × StandsUnder outer t f × (f.element ≡ s)
some_under {t = t} elements.itself outer = (record { around = outer; element = t }, under.itself, refl)
some_under {t = t} (elements.inside child k w) outer = let h = some_under w (within outer t) in (h.0, under.inside child k h.1, h.2)

-- what is left is left by the same test of each element inside
pub same_gone : (Gone Other : Tree → Type 0) (t u : Tree) (count : ℕ)
    → ((outer : List Bind) (f : Found) → StandsUnder outer t f → (Gone f.element → Other f.element) × (Other f.element → Gone f.element)) → IsWithout Gone t u count → IsWithout Other t u count
same_gone Gone Other t u count same is =
    same_gone_within Gone Other t u count (λ s w. (let h = some_under w [] in subst (Same Gone Other) h.2 (same [] h.0 h.1))) is

-- an element that begins some nodes is told by them, and so are the others
first_of_nodes : (t u : Tree) (ns ms : List Node) → Element t ∷ ns ≡ Element u ∷ ms → (t ≡ u) × (ns ≡ ms)
first_of_nodes t u ns ms e =
    let same : Element t ≡ Element u = cc in
    let shown : t ∷ [] ≡ u ∷ [] = sym (element_shown (Element t) t refl) ∙ element_shown (Element t) u same in
    (cc shown, cc)

-- no text is an element
no_text : (bytes : List ℕ) (t : Tree) (ns ms : List Node) → Text bytes ∷ ns ≡ Element t ∷ ms → ⊥
no_text bytes t ns ms e =
    let same : Text bytes ≡ Element t = cc in
    let shown : [] ≡ t ∷ [] = sym (text_shown (Text bytes) bytes refl) ∙ element_shown (Text bytes) t same in
    cc shown

-- what is left of nodes that begin with an element: it is kept, or gone
data FirstLeft (Gone : Tree → Type 0) (t : Tree) (ns ms : List Node) (count : ℕ) : Type 0 where
  stays : (u : Tree) (others : List Node) (m n : ℕ) → (Gone t → ⊥) → IsWithout Gone t u m → AreWithout Gone ns others n → ms ≡ Element u ∷ others → count ≡ m + n → FirstLeft Gone t ns ms count
  goes : (n : ℕ) → Gone t → AreWithout Gone ns ms n → count ≡ suc n → FirstLeft Gone t ns ms count

-- one of these it is
first_left : (Gone : Tree → Type 0) (all ns ms : List Node) (t : Tree) (count : ℕ) → AreWithout Gone all ms count → all ≡ Element t ∷ ns → FirstLeft Gone t ns ms count
first_left Gone all ns ms t count left.nothing e = absurd (cc e)
first_left Gone all ns ms t count (left.text {ns = rest} bytes later) e = absurd (no_text bytes t rest ns e)
first_left Gone all ns ms t count (left.kept {t = v} {u = u} {ns = rest} {left = others} {inside = m} {count = n} here one later) e =
    let same = first_of_nodes v t rest ns e in
    stays u others m n (subst (λ w. Gone w → ⊥) same.0 here) (subst (λ w. IsWithout Gone w u m) same.0 one) (subst (λ ks. AreWithout Gone ks others n) same.1 later) refl refl
first_left Gone all ns ms t count (left.gone {t = v} {ns = rest} {count = n} is later) e =
    let same = first_of_nodes v t rest ns e in
    goes n (subst Gone same.0 is) (subst (λ ks. AreWithout Gone ks ms n) same.1 later) refl

-- an element is what its parts are
same_tree : (t u : Tree) → (out-Tree t).name ≡ (out-Tree u).name → (out-Tree t).attrs ≡ (out-Tree u).attrs → (out-Tree t).binds ≡ (out-Tree u).binds → (out-Tree t).at ≡ (out-Tree u).at
    → (out-Tree t).children ≡ (out-Tree u).children → t ≡ u
same_tree t u name attrs binds at children =
    let parts : out-Tree t ≡ out-Tree u = λ i. record { name = name i; attrs = attrs i; binds = binds i; children = children i; at = at i } in
    sym (roll-out-Tree t) ∙ ap roll-Tree parts ∙ roll-out-Tree u

-- one element is left, and as many are gone
mutual
  pub one_left : (Gone : Tree → Type 0) (t u v : Tree) (m n : ℕ) → IsWithout Gone t u m → IsWithout Gone t v n → (u ≡ v) × (m ≡ n)
  one_left Gone t u v m n (left.element name attrs binds at are) (left.element other_name other_attrs other_binds other_at others) =
      let h = one_left_among Gone (out-Tree t).children (out-Tree u).children (out-Tree v).children m n are others in
      (same_tree u v (name ∙ sym other_name) (attrs ∙ sym other_attrs) (binds ∙ sym other_binds) (at ∙ sym other_at) h.0, h.1)

  one_left_among : (Gone : Tree → Type 0) (ns ms ks : List Node) (m n : ℕ) → AreWithout Gone ns ms m → AreWithout Gone ns ks n → (ms ≡ ks) × (m ≡ n)
  one_left_among Gone ns ms ks m n left.nothing left.nothing = (refl, refl)
  one_left_among Gone ns ms ks m n (left.text {ns = rest} {left = others} {count = c} bytes later) (left.text {left = more} {count = d} same_bytes after) =
      let h = one_left_among Gone rest others more c d later after in
      (ap (text_before bytes) h.0, h.1)
  one_left_among Gone ns ms ks m n (left.kept {t = t} {u = u} {ns = rest} {left = others} {inside = i} {count = c} here one later) are = elim (first_left Gone ns rest ks t n are refl) [
    | stays v more j d also two after same count ↦
        let g = one_left Gone t u v i j one two in
        let h = one_left_among Gone rest others more c d later after in
        (ap₂ (λ w ws. Element w ∷ ws) g.0 h.0 ∙ sym same, ap₂ (λ a b. a + b) g.1 h.1 ∙ sym count)
    | goes d is after count ↦ absurd (here is)
  ]
  one_left_among Gone ns ms ks m n (left.gone {t = t} {ns = rest} {count = c} is later) are = elim (first_left Gone ns rest ks t n are refl) [
    | stays v more j d here two after same count ↦ absurd (here is)
    | goes d also after count ↦ let h = one_left_among Gone rest ms ks c d later after in (h.0, ap (λ k. suc k) h.1 ∙ sym count)
  ]

-- the tag of what is left is formed
tag_left : (t u : Tree) → IsFormedTag t → (out-Tree u).name ≡ (out-Tree t).name → (out-Tree u).attrs ≡ (out-Tree t).attrs → (out-Tree u).binds ≡ (out-Tree t).binds → IsFormedTag u
tag_left t u tag name attrs binds = record {
  named = subst (λ n. IsNCName n.local) (sym name) tag.named;
  attributes_named = subst (All (λ (a : Attr). IsNCName a.name.local)) (sym attrs) tag.attributes_named;
  valued = subst (All (λ (a : Attr). IsLegal a.value)) (sym attrs) tag.valued;
  once = subst (λ all. NoneTwice (map (λ (a : Attr). a.name) all)) (sym attrs) tag.once;
  bound = subst (All IsBinding) (sym binds) tag.bound;
  within = subst (λ n. IsLegal n.ns) (sym name) tag.within;
  attributes_within = subst (All (λ (a : Attr). IsLegal a.name.ns)) (sym attrs) tag.attributes_within;
  prefixed = subst (All (λ (b : Bind). IsPrefix b.prefix)) (sym binds) tag.prefixed;
  bound_to = subst (All (λ (b : Bind). IsLegal b.ns)) (sym binds) tag.bound_to;
  bound_once = subst (λ bs. NoneTwice (map (λ (b : Bind). b.prefix) bs)) (sym binds) tag.bound_once;
}

-- a text that begins some nodes that are apart, and the others
apart_text : (bytes : List ℕ) (ns : List Node) → AreApart (Text bytes ∷ ns) → (bytes ≢ []) × IsLegal bytes × AreApart ns
apart_text bytes [] a = a
apart_text bytes (Text other ∷ ns) a = absurd a
apart_text bytes (n ∷ ns) a = a

-- what a text is joined to is not empty
joined_filled : (bytes other : List ℕ) → bytes ≢ [] → bytes ++ other ≢ []
joined_filled [] other filled e = filled refl
joined_filled (b ∷ bytes) other filled e = cc

-- and legal, where both are
joined_legal : (bytes other : List ℕ) → IsLegal bytes → IsLegal other → IsLegal (bytes ++ other)
joined_legal bytes other h k = (
  h.0 ++ k.0,
  encodes-append h.0 k.0 ∙ ap₂ (λ x y. x ++ y) h.1 k.1,
  list_all-append is_char h.0 k.0 ∙ and_from (list_all is_char h.0) (list_all is_char k.0) h.2 k.2,
)

-- a text before nodes that are apart
apart_before : (bytes : List ℕ) (ns : List Node) → bytes ≢ [] → IsLegal bytes → AreApart ns → AreApart (text_before bytes ns)
apart_before bytes [] filled legal a = (filled, legal, a)
apart_before bytes (Text other ∷ []) filled legal a = (joined_filled bytes other filled, joined_legal bytes other legal a.1, a.2)
apart_before bytes (Text other ∷ Text third ∷ ns) filled legal a = absurd a
apart_before bytes (Text other ∷ n ∷ ns) filled legal a = (joined_filled bytes other filled, joined_legal bytes other legal a.1, a.2)
apart_before bytes (n ∷ ns) filled legal a = (filled, legal, a)

-- what is left of nodes that are apart is apart
apart_left : (Gone : Tree → Type 0) (ns ms : List Node) (count : ℕ) → AreApart ns → AreWithout Gone ns ms count → AreApart ms
apart_left Gone ns ms count a left.nothing = a
apart_left Gone ns ms count a (left.text {ns = rest} {left = others} {count = n} bytes later) =
    let h = apart_text bytes rest a in
    apart_before bytes others h.0 h.1 (apart_left Gone rest others n h.2 later)
apart_left Gone ns ms count a (left.kept {ns = rest} {left = others} {count = n} here one later) = apart_left Gone rest others n a later
apart_left Gone ns ms count a (left.gone {ns = rest} {left = others} {count = n} is later) = apart_left Gone rest others n a later

-- what is formed after a place is formed after an earlier one
formed_before : (first later end : ℕ) (t : Tree) → first ≤ later → IsFormed later end t → IsFormed first end t
formed_before first later end t h (formed.element k tag apart nodes) = formed.element (omega (arith, h, k)) tag apart nodes

-- and so are nodes
nodes_before : (first later end : ℕ) (ns : List Node) → first ≤ later → AreFormed later end ns → AreFormed first end ns
nodes_before first later end ns h (formed.nothing k) = formed.nothing (omega (arith, h, k))
nodes_before first later end ns h (formed.text {nodes = rest} after) = formed.text (nodes_before first later end rest h after)
nodes_before first later end ns h (formed.child {t = t} {nodes = rest} between one after) = formed.child between (formed_before first later between t h one) after

-- a text before formed nodes is formed with them
text_formed : (first end : ℕ) (bytes : List ℕ) (ns : List Node) → AreFormed first end ns → AreFormed first end (text_before bytes ns)
text_formed first end bytes [] h = formed.text h
text_formed first end bytes (Text other ∷ ns) (formed.text h) = formed.text h
text_formed first end bytes (n ∷ ns) h = formed.text h

-- what is left of a formed element is formed
mutual
  pub formed_left : (Gone : Tree → Type 0) (first end : ℕ) (t u : Tree) (count : ℕ) → IsFormed first end t → IsWithout Gone t u count → IsFormed first end u
  formed_left Gone first end t u count (formed.element low tag apart nodes) (left.element name attrs binds at are) =
      formed.element (subst (λ n. first ≤ n) (sym at) low) (tag_left t u tag name attrs binds) (apart_left Gone (out-Tree t).children (out-Tree u).children count apart are)
      (subst (λ n. AreFormed (suc n) end (out-Tree u).children) (sym at) (nodes_left Gone (suc (out-Tree t).at) end (out-Tree t).children (out-Tree u).children count nodes are))

  nodes_left : (Gone : Tree → Type 0) (first end : ℕ) (ns ms : List Node) (count : ℕ) → AreFormed first end ns → AreWithout Gone ns ms count → AreFormed first end ms
  nodes_left Gone first end ns ms count (formed.nothing h) left.nothing = formed.nothing h
  nodes_left Gone first end ns ms count (formed.text later) (left.text {ns = rest} {left = others} {count = n} bytes after) =
      text_formed first end bytes others (nodes_left Gone first end rest others n later after)
  nodes_left Gone first end ns ms count (formed.child {t = t} {nodes = rest} between one later) are = elim (first_left Gone ns rest ms t count are refl) [
    | stays u others m n here is after same total ↦
        subst (AreFormed first end) (sym same) (formed.child between (formed_left Gone first between t u m one is) (nodes_left Gone between end rest others n later after))
    | goes n is after total ↦ nodes_before first between end ms (formed_room first between t one) (nodes_left Gone between end rest ms n later after)
  ]
