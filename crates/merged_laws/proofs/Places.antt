-- The places of the children of a formed element rise.
use Rattle.std.proofs.Common.{◌≡◌, ◌≤◌, ◌<◌, ℕ, suc, List, [], ◌∷◌, ◌++◌, map, refl, sym, subst, arith}
use Rattle.odd_tree.specs.Elements.{children_of, elements_of}
use Rattle.odd_tree.specs.Formed.{AreFormed, IsFormed}
use Rattle.odd_tree.specs.declared.tree.Node.{Node}
use Rattle.odd_tree.specs.declared.tree.Tree.{Tree, out-Tree}
use Rattle.odd_tree.proofs.InTree.{with_element, with_text}

abbrev pub RiseFrom : ℕ → List ℕ → Type 0
RiseFrom first [] = Unit {0}
RiseFrom first (n ∷ ns) = (first ≤ n) × RiseFrom (suc n) ns

earlier : (first later : ℕ) (ns : List ℕ) → first ≤ later → RiseFrom later ns → RiseFrom first ns
earlier first later [] h r = tt
earlier first later (n ∷ ns) h r = (omega (arith, r.0), r.1)

abbrev pub begins_at : Tree → ℕ
begins_at u = (out-Tree u).at

mutual
  tree_ends : (first end : ℕ) (t : Tree) → IsFormed first end t → (first ≤ begins_at t) × (suc (begins_at t) ≤ end)
  tree_ends first end t (IsFormed.element h tag apart inside) = (h, nodes_end (suc (begins_at t)) end (out-Tree t).children inside)

  nodes_end : (first end : ℕ) (ns : List Node) → AreFormed first end ns → first ≤ end
  nodes_end first end ns (AreFormed.nothing h) = h
  nodes_end first end ns (AreFormed.text {nodes = nodes} a) = nodes_end first end nodes a
  nodes_end first end ns (AreFormed.child {t = t} {nodes = nodes} between is a) =
      let k = tree_ends first between t is in
      let l = nodes_end between end nodes a in
      omega (arith, k.0, k.1, l)

nodes_rise : (first end : ℕ) (ns : List Node) → AreFormed first end ns → RiseFrom first (map begins_at (elements_of ns))
nodes_rise first end ns (AreFormed.nothing h) = tt
nodes_rise first end ns (AreFormed.text {bytes = bytes} {nodes = nodes} a) = subst (λ us. RiseFrom first (map begins_at us)) (sym (with_text bytes nodes)) (nodes_rise first end nodes a)
nodes_rise first end ns (AreFormed.child {t = t} {nodes = nodes} between is a) =
    let k = tree_ends first between t is in
    subst (λ us. RiseFrom first (map begins_at us)) (sym (with_element t nodes)) (k.0, earlier (suc (begins_at t)) between (map begins_at (elements_of nodes)) k.1 (nodes_rise between end nodes a))

pub children_rise : (first end : ℕ) (t : Tree) → IsFormed first end t → RiseFrom (suc (begins_at t)) (map begins_at (children_of t))
children_rise first end t (IsFormed.element h tag apart inside) = nodes_rise (suc (begins_at t)) end (out-Tree t).children inside

-- of items with these places each begins before the next
pub next_above : {A : Type 0} (place : A → ℕ) (first : ℕ) (before after : List A) (x next : A) (xs : List A) → xs ≡ before ++ x ∷ (next ∷ after) → RiseFrom first (map place xs) → place x < place next
next_above place first [] after x next xs same r =
    let k : RiseFrom first (map place (x ∷ (next ∷ after))) = subst (λ ys. RiseFrom first (map place ys)) same r in omega (arith, k.1.0)
next_above place first (b ∷ before) after x next xs same r =
    let k : RiseFrom first (map place (b ∷ (before ++ x ∷ (next ∷ after)))) = subst (λ ys. RiseFrom first (map place ys)) same r in
    next_above place (suc (place b)) before after x next (before ++ x ∷ (next ∷ after)) refl k.1
