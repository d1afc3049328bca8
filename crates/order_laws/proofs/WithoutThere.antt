-- What is left of two trees that say the same in another order says the same in another order, where the same elements are taken out of both.
use Rattle.std.proofs.Common.{◌≡◌, ℕ, zero, suc, ◌+◌, Bool, false, List, [], ◌∷◌, ◌++◌, append_assoc, refl, sym, ap, subst, ◌∙◌, arith}
use Rattle.std.proofs.Common.{rules, codes, ◌&&◌}
use Rattle.odd_tree.proofs.InTree.{with_element, with_text}
use Rattle.odd_text.proofs.InList.{stands_later}
use Rattle.odd_text.specs.Standing.{StandsIn}
use Rattle.odd_tree.specs.Elements.{children_of, elements_of, shown_text, texts_in}
use Rattle.odd_tree.specs.declared.tree.Node.{Node, Element, Text, out-Node, roll-Node, roll-out-Node}
use Rattle.odd_tree.specs.declared.tree.Node as N
use Rattle.odd_tree.specs.declared.tree.Node.TheOpen as shown
use Rattle.odd_tree.specs.declared.tree.Node.TheVariants.{rolls-Element, rolls-Text}
use Rattle.odd_tree.specs.declared.tree.Tree.{Tree, out-Tree, roll-Tree}
use Rattle.odd_forms.specs.Names.{is_one_of, tei_namespace}
use Rattle.odd_text.specs.Same.{is_among}
use Rattle.odd_text.specs.Same.{is_same}
use Rattle.odd_forms.specs.Texts.{collapsed_in}
use Rattle.rng_values.specs.Treated.{collapsed_text}
use Rattle.odd_items.specs.Without.{AreWithout, IsWithout, text_before}
use Rattle.odd_items.specs.Without as left
use Rattle.order_laws.specs.Pairs.{AreAllPaired, ArePaired}
use Rattle.order_laws.specs.Pairs as pairs
use Rattle.order_laws.specs.Reordered.{AreReordered, IsReordered, SaysTheSame, is_loose}
use Rattle.order_laws.specs.Reordered as reordered
use Rattle.order_laws.proofs.PairsProofs.{pair_itself}
use Rattle.order_laws.proofs.Matched.{loose_names}
use Rattle.order_laws.proofs.Shuffled.{stands_left, stands_right}

-- an element shows no text, and a text shows itself
no_text : (t : Tree) (nodes : List Node) → texts_in (Element t ∷ nodes) ≡ texts_in nodes
no_text t nodes = ap (λ x. x ++ texts_in nodes) (none (Element t) refl)
  where
    none : (n : Node) → n ≡ Element t → shown_text (out-Node n) ≡ []
    none n is = ap (λ m. shown_text (out-Node m)) is ∙ search (rules, N.the_lemmas)

own_text : (x : List ℕ) (nodes : List Node) → texts_in (Text x ∷ nodes) ≡ x ++ texts_in nodes
own_text x nodes = ap (λ y. y ++ texts_in nodes) (itself (Text x) refl)
  where
    itself : (n : Node) → n ≡ Text x → shown_text (out-Node n) ≡ x
    itself n is = ap (λ m. shown_text (out-Node m)) is ∙ search (rules, N.the_lemmas)

-- a text before some nodes stands before their texts
text_first : (x : List ℕ) (nodes : List Node) → texts_in (text_before x nodes) ≡ x ++ texts_in nodes
text_first x [] = own_text x []
text_first x (Text y ∷ nodes) = own_text (x ++ y) nodes ∙ append_assoc x y (texts_in nodes) ∙ ap (λ z. x ++ z) (sym (own_text y nodes))
text_first x (n ∷ nodes) = own_text x (n ∷ nodes)

-- and changes none of their elements
no_element : (x : List ℕ) (nodes : List Node) → elements_of (text_before x nodes) ≡ elements_of nodes
no_element x [] = with_text x []
no_element x (Text y ∷ nodes) = with_text (x ++ y) nodes ∙ sym (with_text y nodes)
no_element x (n ∷ nodes) = with_text x (n ∷ nodes)

-- a node is an element or a text
data IsOfKind : Node → Type 0 where
  child : (t : Tree) → IsOfKind (Element t)
  text : (x : List ℕ) → IsOfKind (Text x)

kind_of : (n : Node) → IsOfKind n
kind_of n = elim (out-Node n) as (λ q. out-Node n ≡ q → IsOfKind n) [
  | shown.Element t ↦ λ e. subst IsOfKind (sym (rolls-Element t) ∙ ap roll-Node (sym e) ∙ roll-out-Node n) (child t)
  | shown.Text x ↦ λ e. subst IsOfKind (sym (rolls-Text x) ∙ ap roll-Node (sym e) ∙ roll-out-Node n) (text x)
] refl

module _ (Gone : Tree → Type 0) where
  -- what is left of some nodes has their text
  pub text_left : {ns ms : List Node} {count : ℕ} → AreWithout Gone ns ms count → texts_in ms ≡ texts_in ns
  text_left left.nothing = refl
  text_left (left.text {ns = ns} {left = ms} bytes later) = text_first bytes ms ∙ ap (λ x. bytes ++ x) (text_left later) ∙ sym (own_text bytes ns)
  text_left (left.kept {t = t} {u = u} {ns = ns} {left = ms} stays one later) = no_text u ms ∙ text_left later ∙ sym (no_text t ns)
  text_left (left.gone {t = t} {ns = ns} is later) = text_left later ∙ sym (no_text t ns)

  -- what is left of some elements, each of which is kept or gone, without the texts beside them
  pub data AreLeft : List Tree → List Tree → ℕ → Type 0 where
    nothing : AreLeft [] [] zero
    kept : {t u : Tree} {ts us : List Tree} {inside count : ℕ} → (Gone t → ⊥) → IsWithout Gone t u inside → AreLeft ts us count → AreLeft (t ∷ ts) (u ∷ us) (inside + count)
    gone : {t : Tree} {ts us : List Tree} {count : ℕ} → Gone t → AreLeft ts us count → AreLeft (t ∷ ts) us (suc count)

  -- the elements of what is left of some nodes are what is left of their elements
  pub elements_left : {ns ms : List Node} {count : ℕ} → AreWithout Gone ns ms count → AreLeft (elements_of ns) (elements_of ms) count
  elements_left left.nothing = nothing
  elements_left (left.text {ns = ns} {left = ms} {count = count} bytes later) =
      subst (λ ts. AreLeft ts (elements_of (text_before bytes ms)) count) (sym (with_text bytes ns))
      (subst (λ us. AreLeft (elements_of ns) us count) (sym (no_element bytes ms)) (elements_left later))
  elements_left (left.kept {t = t} {u = u} {ns = ns} {left = ms} {inside = inside} {count = count} stays one later) =
      subst (λ ts. AreLeft ts (elements_of (Element u ∷ ms)) (inside + count)) (sym (with_element t ns))
      (subst (λ us. AreLeft (t ∷ elements_of ns) us (inside + count)) (sym (with_element u ms)) (kept stays one (elements_left later)))
  elements_left (left.gone {t = t} {ns = ns} {left = ms} {count = count} is later) =
      subst (λ ts. AreLeft ts (elements_of ms) (suc count)) (sym (with_element t ns)) (gone is (elements_left later))

  -- so many are gone of some nodes, and these are the elements of what is left
  pub record LeftOf (ns : List Node) (us : List Tree) (count : ℕ) : Type 0 where
    pub nodes : List Node
    pub are : AreWithout Gone ns nodes count
    pub elements : elements_of nodes ≡ us

  -- what is left of nodes that begin with an element
  first_left : (t : Tree) (ns : List Node) (us : List Tree) (count : ℕ) → ((others : List Tree) (n : ℕ) → AreLeft (elements_of ns) others n → LeftOf ns others n) → AreLeft (t ∷ elements_of ns) us count
      → LeftOf (Element t ∷ ns) us count
  first_left t ns all count rest (kept {u = u} {us = us} {count = n} stays one later) =
      let h = rest us n later in
      record { nodes = Element u ∷ h.nodes; are = left.kept stays one h.are; elements = with_element u h.nodes ∙ ap (λ ts. u ∷ ts) h.elements }
  first_left t ns us count rest (gone {count = n} is later) = let h = rest us n later in record { nodes = h.nodes; are = left.gone is h.are; elements = h.elements }

  -- where something is left of the elements among some nodes, it is the elements of what is left of these
  pub nodes_left : (ns : List Node) (us : List Tree) (count : ℕ) → AreLeft (elements_of ns) us count → LeftOf ns us count
  nodes_left [] us count nothing = record { nodes = []; are = left.nothing; elements = refl }
  nodes_left (n ∷ ns) us count h = elim (kind_of n) as (λ k is. AreLeft (elements_of (k ∷ ns)) us count → LeftOf (k ∷ ns) us count) [
    | child t ↦ λ k. first_left t ns us count (nodes_left ns) (subst (λ ts. AreLeft ts us count) (with_element t ns) k)
    | text x ↦ λ k.
        let rest = nodes_left ns us count (subst (λ ts. AreLeft ts us count) (with_text x ns) k) in
        record { nodes = text_before x rest.nodes; are = left.text x rest.are; elements = no_element x rest.nodes ∙ rest.elements }
  ] h

  -- what is left of two lists of elements
  pub record PartsLeft (ts us all : List Tree) (count : ℕ) : Type 0 where
    pub first : List Tree
    pub later : List Tree
    pub gone_first : ℕ
    pub gone_later : ℕ
    pub are_first : AreLeft ts first gone_first
    pub are_later : AreLeft us later gone_later
    pub is : all ≡ first ++ later
    pub counts : count ≡ gone_first + gone_later

  parts_left : (ts us all : List Tree) (count : ℕ) → AreLeft (ts ++ us) all count → PartsLeft ts us all count
  parts_left [] us all count h = record { first = []; later = all; gone_first = 0; gone_later = count; are_first = nothing; are_later = h; is = refl; counts = omega arith }
  parts_left (t ∷ ts) us whole count (kept {u = u} {us = all} {inside = m} {count = n} stays one rest) =
      let p = parts_left ts us all n rest in
      record {
        first = u ∷ p.first;
        later = p.later;
        gone_first = m + p.gone_first;
        gone_later = p.gone_later;
        are_first = kept stays one p.are_first;
        are_later = p.are_later;
        is = ap (λ xs. u ∷ xs) p.is;
        counts = omega (arith, p.counts);
      }
  parts_left (t ∷ ts) us all count (gone {count = n} is rest) =
      let p = parts_left ts us all n rest in
      record {
        first = p.first;
        later = p.later;
        gone_first = suc p.gone_first;
        gone_later = p.gone_later;
        are_first = gone is p.are_first;
        are_later = p.are_later;
        is = p.is;
        counts = omega (arith, p.counts);
      }

  -- and the other way round
  both_left : (ts us first later : List Tree) (m n count : ℕ) → AreLeft ts first m → AreLeft us later n → count ≡ m + n → AreLeft (ts ++ us) (first ++ later) count
  both_left [] us first later m n count nothing k is = let same : n ≡ count = omega (arith, is) in subst (AreLeft us later) same k
  both_left (t ∷ ts) us whole later all n count (kept {u = u} {us = first} {inside = i} {count = m} stays one rest) k is =
      subst (AreLeft (t ∷ (ts ++ us)) (u ∷ (first ++ later))) (omega (arith, is)) (kept stays one (both_left ts us first later m n (m + n) rest k refl))
  both_left (t ∷ ts) us first later all n count (gone {count = m} g rest) k is =
      subst (AreLeft (t ∷ (ts ++ us)) (first ++ later)) (omega (arith, is)) (gone g (both_left ts us first later m n (m + n) rest k refl))

  -- of none nothing is left
  none_left : (us : List Tree) (count : ℕ) → AreLeft [] us count → us ≡ []
  none_left us count nothing = refl

-- an element and another of its name are of the same names
pub same_names : (t u : Tree) (locals : List (List ℕ)) → (out-Tree t).name ≡ (out-Tree u).name → is_one_of locals t ≡ is_one_of locals u
same_names t u locals e = ap (λ name. is_same name.ns tei_namespace && is_among locals name.local) e

-- the text of an element is left as it was
text_kept : (Gone : Tree → Type 0) {t r : Tree} {count : ℕ} → IsWithout Gone t r count → collapsed_in r ≡ collapsed_in t
text_kept Gone (left.element name attrs binds at are) = ap collapsed_text (text_left Gone are)

pub name_kept : (Gone : Tree → Type 0) {t r : Tree} {count : ℕ} → IsWithout Gone t r count → (out-Tree r).name ≡ (out-Tree t).name
name_kept Gone (left.element name attrs binds at are) = name

pub attrs_kept : (Gone : Tree → Type 0) {t r : Tree} {count : ℕ} → IsWithout Gone t r count → (out-Tree r).attrs ≡ (out-Tree t).attrs
attrs_kept Gone (left.element name attrs binds at are) = attrs

pub binds_kept : (Gone : Tree → Type 0) {t r : Tree} {count : ℕ} → IsWithout Gone t r count → (out-Tree r).binds ≡ (out-Tree t).binds
binds_kept Gone (left.element name attrs binds at are) = binds

module _ (Gone GoneThere : Tree → Type 0) where
  -- of each pair both are gone, or neither
  abbrev pub SameGone : List (Tree × Tree) → Type 0
  SameGone all = (p : Tree × Tree) → StandsIn all p → (Gone p.0 → GoneThere p.1) × (GoneThere p.1 → Gone p.0)

  -- what is left of two trees that say the same does so, where its children do
  left_reordered : {t u r s : Tree} {m n : ℕ} → IsReordered t u → IsWithout Gone t r m → IsWithout GoneThere u s n → AreReordered (is_loose t) (children_of r) (children_of s) → IsReordered r s
  left_reordered {t = t} {u = u} {r = r} {s = s} (reordered.element name attrs binds says are) w there children =
      let names : (out-Tree r).name ≡ (out-Tree t).name = name_kept Gone w in
      let same : SaysTheSame r s = λ is. text_kept Gone w ∙ says (sym (same_names r t (codes "altIdent" ∷ []) names) ∙ is) ∙ sym (text_kept GoneThere there) in
      reordered.element (names ∙ name ∙ sym (name_kept GoneThere there)) (attrs_kept Gone w ∙ attrs ∙ sym (attrs_kept GoneThere there)) (binds_kept Gone w ∙ binds ∙ sym (binds_kept GoneThere there)) same
      (subst (λ b. AreReordered b (children_of r) (children_of s)) (sym (same_names r t loose_names names)) children)

  -- what is left of a tree, with these children
  abbrev rest_of : Tree → List Node → Tree
  rest_of u nodes = roll-Tree (record { name = (out-Tree u).name; attrs = (out-Tree u).attrs; binds = (out-Tree u).binds; children = nodes; at = (out-Tree u).at })

  -- so many elements are gone of the second of two trees that are paired, and what is left of both says the same
  pub record LeavesAlike (u r s : Tree) (count : ℕ) : Type 0 where
    pub is_left : IsWithout GoneThere u s count
    pub reordered : IsReordered r s

  -- and so it is of several
  record LeaveAllAlike (loose : Bool) (us rs ss : List Tree) (count : ℕ) : Type 0 where
    are : AreLeft GoneThere us ss count
    reordered : AreReordered loose rs ss

  mutual
    -- where something is left of one of two trees that are paired, something is left of the other that says the same
    pub left_there : {t u r : Tree} {all : List (Tree × Tree)} {m : ℕ} → ArePaired t u all → SameGone all → IsWithout Gone t r m → (s : Tree) × LeavesAlike u r s m
    left_there {r = r} {m = m} (pairs.element {t = t} {u = u} {below = below} reorders are) same (left.element name attrs binds at without) =
        let w : IsWithout Gone t r m = left.element name attrs binds at without in
        let (ss, h) = among_left are (λ p s. same p (stands_later (t, u) p below s)) (elements_left Gone without) in
        let n = nodes_left GoneThere (out-Tree u).children ss m h.are in
        let s = rest_of u n.nodes in
        let there : IsWithout GoneThere u s m = left.element refl refl refl refl n.are in
        let children : AreReordered (is_loose t) (children_of r) (children_of s) = subst (AreReordered (is_loose t) (children_of r)) (sym n.elements) h.reordered in
        (s, record { is_left = there; reordered = left_reordered reorders w there children })

    -- and so it is of several
    among_left : {loose : Bool} {ts us rs : List Tree} {all : List (Tree × Tree)} {m : ℕ} → AreAllPaired loose ts us all → SameGone all → AreLeft Gone ts rs m
        → (ss : List Tree) × LeaveAllAlike loose us rs ss m
    among_left pairs.nothing same nothing = ([], record { are = nothing; reordered = reordered.nothing })
    among_left {loose = loose} {all = whole} (pairs.next {t = t} {u = u} before after first later is front one others all) same (kept {u = r} {us = rs} {inside = i} {count = c} stays w rest) =
        let in_first : (p : Tree × Tree) → StandsIn first p → StandsIn whole p = λ p k. subst (λ ps. StandsIn ps p) (sym all) (stands_left first later p k) in
        let in_later : (p : Tree × Tree) → StandsIn later p → StandsIn whole p = λ p k. subst (λ ps. StandsIn ps p) (sym all) (stands_right first later p k) in
        let (v, g) = left_there one (λ p k. same p (in_first p k)) w in
        let (ss, o) = among_left others (λ p k. same p (in_later p k)) rest in
        let p = parts_left GoneThere before after ss c o.are in
        let here = same (t, u) (in_first (t, u) (pair_itself one)) in
        let behind : AreLeft GoneThere (u ∷ after) (v ∷ p.later) (i + p.gone_later) = kept (λ n. stays (here.1 n)) g.is_left p.are_later in
        let both = both_left GoneThere before (u ∷ after) p.first (v ∷ p.later) p.gone_first (i + p.gone_later) (i + c) p.are_first behind (omega (arith, p.counts)) in
        let none : loose ≡ false → p.first ≡ [] = λ e. none_left GoneThere p.first p.gone_first (subst (λ ts. AreLeft GoneThere ts p.first p.gone_first) (front e) p.are_first) in (
          p.first ++ v ∷ p.later,
          record {
            are = subst (λ us. AreLeft GoneThere us (p.first ++ v ∷ p.later) (i + c)) (sym is) both;
            reordered = reordered.next p.first p.later refl none g.reordered (subst (AreReordered loose rs) p.is o.reordered);
          },
        )
    among_left {loose = loose} {all = whole} (pairs.next {t = t} {u = u} before after first later is front one others all) same (gone {us = rs} {count = c} g rest) =
        let in_first : (p : Tree × Tree) → StandsIn first p → StandsIn whole p = λ p k. subst (λ ps. StandsIn ps p) (sym all) (stands_left first later p k) in
        let in_later : (p : Tree × Tree) → StandsIn later p → StandsIn whole p = λ p k. subst (λ ps. StandsIn ps p) (sym all) (stands_right first later p k) in
        let (ss, o) = among_left others (λ p k. same p (in_later p k)) rest in
        let p = parts_left GoneThere before after ss c o.are in
        let here = same (t, u) (in_first (t, u) (pair_itself one)) in
        let behind : AreLeft GoneThere (u ∷ after) p.later (suc p.gone_later) = gone (here.0 g) p.are_later in
        let both = both_left GoneThere before (u ∷ after) p.first p.later p.gone_first (suc p.gone_later) (suc c) p.are_first behind (omega (arith, p.counts)) in (
          p.first ++ p.later,
          record { are = subst (λ us. AreLeft GoneThere us (p.first ++ p.later) (suc c)) (sym is) both; reordered = subst (AreReordered loose rs) p.is o.reordered },
        )
