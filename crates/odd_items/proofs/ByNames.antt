-- What a search finds is told by the element, and has one of the names; what a search for some of the names finds is what the search for all finds that has one of them. A search always finds a list.
use Rattle.std.proofs.Common.{◌≡◌, ℕ, zero, suc, max, fold, map, ◌≤◌, arith, rules, ◌&&◌, Bool, true, false, List, [], ◌∷◌, ◌++◌, filter, inl, inr, refl, sym, ap, ap₂, subst, ◌∙◌, IsTrue}
use Rattle.std.proofs.lemmas.Bool.{false≢true, and_from, and_parts, cases_Bool, false_from_ne_true}
use Rattle.std.proofs.lemmas.List.Elements.{All-append, All-cons, All-contains, All-nil, filter-append}
use Rattle.std.specs.Prelude.{All}
use Rattle.odd_text.specs.declared.name.Bind.{Bind}
use Rattle.odd_tree.proofs.InTree.{with_element, with_text}
use Rattle.odd_text.proofs.InList.{contained}
use Rattle.odd_text.specs.Standing.{StandsIn}
use Rattle.odd_tree.specs.Elements.{children_of, elements_of, within}
use Rattle.odd_tree.specs.Significant.{depth, node_depth, tree_depth}
use Rattle.odd_tree.specs.declared.tree.Node.{Node, Element, Text, fold-Node, out-Node, roll-Node, roll-out-Node}
use Rattle.odd_tree.specs.declared.tree.Node as N
use Rattle.odd_tree.specs.declared.tree.Node.TheOpen as shown
use Rattle.odd_tree.specs.declared.tree.Node.TheVariants.{rolls-Element, rolls-Text}
use Rattle.odd_tree.specs.declared.tree.Tree.{Tree, out-Tree}
use Rattle.odd_tree.specs.declared.tree.Tree as T
use Rattle.odd_forms.specs.Names.{is_one_of}
use Rattle.odd_items.specs.Search.{Finds, FindsAmong, Found, is_searched, own, passed, outer, through, nothing, element}

module _ (names : List (List ℕ)) (outermost : Bool) where
  -- among no elements nothing is found
  none_found : (around : List Bind) (found : List Found) → FindsAmong names outermost around [] found → found ≡ []
  none_found around found nothing = refl

  -- what is found in an element, and then what is found after it
  abbrev FoundWith : List Bind → Tree → List Tree → List Found → Type 0
  FoundWith around t ts found = (first : List Found) × (later : List Found) × Finds names outermost around t first × FindsAmong names outermost around ts later × (found ≡ first ++ later)

  found_with : (around : List Bind) (t : Tree) (ts : List Tree) (found : List Found) → FindsAmong names outermost around (t ∷ ts) found → FoundWith around t ts found
  found_with around t ts found (element first later one among is) = (first, later, one, among, is)

  -- the outermost alone are found in no element that is searched through
  not_both : (t : Tree) → outermost ≡ true → is_one_of names t ≡ true → (outermost && is_one_of names t) ≡ false → ⊥
  not_both t o h apart = false≢true (sym apart ∙ and_from _ _ o h)

  mutual
    -- what the search finds in an element is told by the element
    pub one_search : (around : List Bind) (t : Tree) (found others : List Found) → Finds names outermost around t found → Finds names outermost around t others → found ≡ others
    one_search around t found others (passed f) (passed g) = refl
    one_search around t found others (passed f) (outer q o g) = absurd (false≢true (sym f ∙ q))
    one_search around t found others (passed f) (through inner g apart among is) = absurd (false≢true (sym f ∙ g))
    one_search around t found others (outer q o f) (passed g) = absurd (false≢true (sym g ∙ q))
    one_search around t found others (outer q o f) (outer r p g) = refl
    one_search around t found others (outer q o f) (through inner g apart among is) = absurd (not_both t o f apart)
    one_search around t found others (through inner f apart among is) (passed g) = absurd (false≢true (sym g ∙ f))
    one_search around t found others (through inner f apart among is) (outer q o g) = absurd (not_both t o g apart)
    one_search around t found others (through inner f apart among is) (through others_inner g others_apart amid at) =
        is ∙ ap (λ fs. own names around t ++ fs) (one_search_among (within around t) (children_of t) inner others_inner among amid) ∙ sym at

    -- and so it is among several
    pub one_search_among : (around : List Bind) (ts : List Tree) (found others : List Found) → FindsAmong names outermost around ts found → FindsAmong names outermost around ts others
        → found ≡ others
    one_search_among around ts found others nothing g = sym (none_found around others g)
    one_search_among around ts found others (element {t = t} {ts = rest} first later f fs is) g =
        let h : FoundWith around t rest others = found_with around t rest others g in
        is ∙ ap₂ (λ xs ys. xs ++ ys) (one_search around t first h.0 f h.2) (one_search_among around rest later h.1 fs h.3) ∙ sym h.4

  -- has one of the names
  abbrev IsNamed : Found → Type 0
  IsNamed f = IsTrue (is_one_of names f.element)

  own_named : (around : List Bind) (t : Tree) → All IsNamed (own names around t)
  own_named around t = elim (cases_Bool (is_one_of names t)) [
    | inl named ↦ rw named (All-cons IsNamed (record { around = around; element = t }) [] named (All-nil IsNamed))
    | inr other ↦ rw other (All-nil IsNamed)
  ]

  mutual
    all_named : (around : List Bind) (t : Tree) (found : List Found) → Finds names outermost around t found → All IsNamed found
    all_named around t found (passed f) = All-nil IsNamed
    all_named around t found (outer q o h) = All-cons IsNamed (record { around = around; element = t }) [] h (All-nil IsNamed)
    all_named around t found (through inner tei apart among is) =
        subst (All IsNamed) (sym is) (All-append IsNamed (own names around t) inner (own_named around t) (among_named (within around t) (children_of t) inner among))

    among_named : (around : List Bind) (ts : List Tree) (found : List Found) → FindsAmong names outermost around ts found → All IsNamed found
    among_named around ts found nothing = All-nil IsNamed
    among_named around ts found (element {t = t} {ts = rest} first later f fs is) =
        subst (All IsNamed) (sym is) (All-append IsNamed first later (all_named around t first f) (among_named around rest later fs))

  -- what is found has one of the names
  pub found_named : (around : List Bind) (t : Tree) (found : List Found) → Finds names outermost around t found → (f : Found) → StandsIn found f → IsTrue (is_one_of names f.element)
  found_named around t found finds f s = All-contains IsNamed found f (all_named around t found finds) (contained found f s)

module _ (names fewer_names : List (List ℕ)) (among_all : (t : Tree) → IsTrue (is_one_of fewer_names t) → IsTrue (is_one_of names t)) where
  -- has one of the fewer names
  abbrev is_kept : Found → Bool
  is_kept f = is_one_of fewer_names f.element

  own_fewer : (around : List Bind) (t : Tree) → filter is_kept (own names around t) ≡ own fewer_names around t
  own_fewer around t = elim (cases_Bool (is_one_of names t)) [
    | inl named ↦ rw named refl
    | inr other ↦
        let none : is_one_of fewer_names t ≡ false = false_from_ne_true _ (λ h. false≢true (sym other ∙ among_all t h)) in
        rw other (rw none refl)
  ]

  mutual
    -- what a search for some of the names finds is what the search for all finds that has one of them
    pub fewer : (around : List Bind) (t : Tree) (found : List Found) → Finds names false around t found → Finds fewer_names false around t (filter (λ (f : Found). is_one_of fewer_names f.element) found)
    fewer around t found (passed f) = passed f
    fewer around t found (outer q o h) = absurd (false≢true o)
    fewer around t found (through inner tei apart among is) = through (filter is_kept inner) tei refl (fewer_among (within around t) (children_of t) inner among)
        (ap (filter is_kept) is ∙ filter-append is_kept (own names around t) inner ∙ ap (λ fs. fs ++ filter is_kept inner) (own_fewer around t))

    -- and so it is among several
    pub fewer_among : (around : List Bind) (ts : List Tree) (found : List Found) → FindsAmong names false around ts found
        → FindsAmong fewer_names false around ts (filter (λ (f : Found). is_one_of fewer_names f.element) found)
    fewer_among around ts found nothing = nothing
    fewer_among around ts found (element {t = t} {ts = rest} first later f fs is) =
        element (filter is_kept first) (filter is_kept later) (fewer around t first f) (fewer_among around rest later fs)
        (ap (filter is_kept) is ∙ filter-append is_kept first later)

-- a node is an element or a text
data IsOfKind : Node → Type 0 where
  child : (t : Tree) → IsOfKind (Element t)
  text : (x : List ℕ) → IsOfKind (Text x)

kind_of : (n : Node) → IsOfKind n
kind_of n = elim (out-Node n) as (λ q. out-Node n ≡ q → IsOfKind n) [
  | shown.Element t ↦ λ e. subst IsOfKind (sym (rolls-Element t) ∙ ap roll-Node (sym e) ∙ roll-out-Node n) (child t)
  | shown.Text x ↦ λ e. subst IsOfKind (sym (rolls-Text x) ∙ ap roll-Node (sym e) ∙ roll-out-Node n) (text x)
] refl

-- the greatest of some numbers is none less
from_start : (start : ℕ) (ns : List ℕ) → start ≤ fold max start ns
from_start start [] = omega arith
from_start start (n ∷ ns) = let h : max start n ≤ fold max (max start n) ns = from_start (max start n) ns in omega arith

-- the levels of a node: of a text none
abbrev levels_of : Node → ℕ
levels_of = fold-Node ℕ ℕ node_depth tree_depth

levels_element : (u : Tree) → levels_of (Element u) ≡ depth u
levels_element u = search (rules, N.the_lemmas, T.the_lemmas)

depth_is : (t : Tree) → depth t ≡ suc (fold max 0 (map levels_of (out-Tree t).children))
depth_is t = search (rules, N.the_lemmas, T.the_lemmas)

module _ (names : List (List ℕ)) (outermost : Bool) where
  -- a search of the element finds a list, and of several
  abbrev IsFound : List Bind → Tree → Type 0
  IsFound around t = (found : List Found) × Finds names outermost around t found

  abbrev AreFound : List Bind → List Tree → Type 0
  AreFound around ts = (found : List Found) × FindsAmong names outermost around ts found

  -- where it does among the children, it does in the element
  found_through : (around : List Bind) (t : Tree) → AreFound (within around t) (children_of t) → IsFound around t
  found_through around t inner = elim (cases_Bool (is_searched t)) [
    | inl searched ↦ elim (cases_Bool (outermost && is_one_of names t)) [
      | inl both ↦ (record { around = around; element = t } ∷ [], outer searched (and_parts _ _ both).0 (and_parts outermost _ both).1)
      | inr apart ↦ (own names around t ++ inner.0, through inner.0 searched apart inner.1 refl)
    ]
    | inr other ↦ ([], passed other)
  ]

  -- among nodes of no more levels than those at which it always does
  nodes_found : (n : ℕ) → ((around : List Bind) (t : Tree) → depth t ≤ n → IsFound around t) → (nodes : List Node) (start : ℕ) (around : List Bind) → fold max start (map levels_of nodes) ≤ n
      → AreFound around (elements_of nodes)
  nodes_found n finds [] start around h = ([], nothing)
  nodes_found n finds (m ∷ nodes) start around h = elim (kind_of m) as (λ k is. fold max start (map levels_of (k ∷ nodes)) ≤ n → AreFound around (elements_of (k ∷ nodes))) [
    | child t ↦ λ k.
        let above : max start (levels_of (Element t)) ≤ fold max (max start (levels_of (Element t))) (map levels_of nodes) = from_start (max start (levels_of (Element t))) (map levels_of nodes) in
        let levels : levels_of (Element t) ≡ depth t = levels_element t in
        let first : IsFound around t = finds around t (omega arith) in
        let later : AreFound around (elements_of nodes) = nodes_found n finds nodes (max start (levels_of (Element t))) around k in
        (first.0 ++ later.0, subst (λ ts. FindsAmong names outermost around ts (first.0 ++ later.0)) (sym (with_element t nodes)) (element first.0 later.0 first.1 later.1 refl))
    | text x ↦ λ k. subst (AreFound around) (sym (with_text x nodes)) (nodes_found n finds nodes (max start (levels_of (Text x))) around k)
  ] h

  found_within : (n : ℕ) (around : List Bind) (t : Tree) → depth t ≤ n → IsFound around t
  found_within zero around t h = let d = depth_is t in absurd (omega arith)
  found_within (suc n) around t h =
      let d = depth_is t in
      found_through around t (nodes_found n (found_within n) (out-Tree t).children 0 (within around t) (omega arith))

  -- a search always finds a list
  pub always : (around : List Bind) (t : Tree) → (found : List Found) × Finds names outermost around t found
  always around t = found_within (depth t) around t (omega arith)
