-- What is left of some nodes, where it is known of the first of them and the rest are still to come.
use Rattle.std.proofs.Common.{◌≡◌, ℕ, suc, ◌+◌, ◌<◌, true, false, List, [], ◌∷◌, ◌++◌, Option, length, drop, get_or, refl, sym, ap, subst, ◌∙◌, arith}
use Rattle.std.proofs.lemmas.Bool.{false≢true}
use Rattle.std.proofs.lemmas.Cmp.{eq_by_cmp_equiv, nat_cmp_total, ranked}
use Rattle.std.proofs.lemmas.List.{length-append}
use Rattle.std.proofs.lemmas.Map.Views.{Contains-from_any, list_any-from_Contains}
use Rattle.std.specs.BTreeSet.{BTreeSet, contains}
use Rattle.std.specs.List.{Contains}
use Rattle.std.specs.Ordering.{eq_by_cmp, nat_cmp}
use Rattle.odd_text.proofs.InList.{begins}
use Rattle.odd_tree.specs.declared.tree.Node.{Node, Element, Text}
use Rattle.odd_tree.specs.declared.tree.Tree.{Tree}
use Rattle.odd_items.specs.Left.{before_rest}
use Rattle.odd_items.specs.Without.{AreWithout, IsWithout, text_before}

-- whatever is left of the rest, put behind what is left so far, is left of all; `old` and `now` are how many were told gone before the first of them and by now
abbrev pub LeftSoFar : (Tree → Type 0) → List Node → List Node → List Node → Option (List ℕ) → ℕ → ℕ → Type 0
LeftSoFar Gone all rest nodes text old now =
    (left : List Node) (count : ℕ) → AreWithout Gone rest left count → (total : ℕ) × AreWithout Gone all (nodes ++ before_rest text left) total × (old + total ≡ now + count)

-- it holds at the start
pub left_none : (Gone : Tree → Type 0) (all rest nodes : List Node) (text : Option (List ℕ)) (old : ℕ) → rest ≡ all → ((left : List Node) → nodes ++ before_rest text left ≡ left)
    → LeftSoFar Gone all rest nodes text old old
left_none Gone all rest nodes text old same none left count is =
    (count, subst (λ ns. AreWithout Gone ns (nodes ++ before_rest text left) count) same (subst (λ ls. AreWithout Gone rest ls count) (sym (none left)) is), refl)

-- and at the end it is what is left
pub left_all : (Gone : Tree → Type 0) (all rest nodes : List Node) (text : Option (List ℕ)) (old now : ℕ) → LeftSoFar Gone all rest nodes text old now → rest ≡ []
    → (total : ℕ) × AreWithout Gone all (nodes ++ before_rest text []) total × (now ≡ old + total)
left_all Gone all rest nodes text old now so_far done =
    let whole = so_far [] 0 (subst (λ ns. AreWithout Gone ns [] 0) (sym done) AreWithout.nothing) in
    let counted = whole.2 in (whole.0, whole.1, omega (arith, counted))

-- the rest, where one node is known
first : (nodes : List Node) (i : ℕ) (n m : Node) → i < length nodes → n ≡ get_or nodes i n → n ≡ m → drop i nodes ≡ m ∷ drop (i + 1) nodes
first nodes i n m h at is = begins nodes i n h at ∙ ap (λ k. k ∷ drop (i + 1) nodes) is

module _ (Gone : Tree → Type 0) (all nodes : List Node) (i : ℕ) (n : Node) (made : List Node) (text : Option (List ℕ)) (old now : ℕ) (within : i < length nodes) (at : n ≡ get_or nodes i n)
    (so_far : LeftSoFar Gone all (drop i nodes) made text old now) where
  -- it stays so with a text
  pub left_text : (bytes : List ℕ) (new : List Node) (newer : Option (List ℕ)) → n ≡ Text bytes
      → ((left : List Node) → new ++ before_rest newer left ≡ made ++ before_rest text (text_before bytes left)) → LeftSoFar Gone all (drop (i + 1) nodes) new newer old now
  left_text bytes new newer is put left count later =
      let before = so_far (text_before bytes left) count (subst (λ ns. AreWithout Gone ns (text_before bytes left) count) (sym (first nodes i n (Text bytes) within at is)) (AreWithout.text bytes later)) in
      (before.0, subst (λ ls. AreWithout Gone all ls before.0) (sym (put left)) before.1, before.2)

  -- with an element that is kept, where those gone inside it were told
  pub left_kept : (t u : Tree) (new : List Node) (newer : Option (List ℕ)) (told : ℕ) → n ≡ Element t → (Gone t → ⊥) → (inside : ℕ) × IsWithout Gone t u inside × (told ≡ now + inside)
      → ((left : List Node) → new ++ before_rest newer left ≡ made ++ before_rest text (Element u ∷ left)) → LeftSoFar Gone all (drop (i + 1) nodes) new newer old told
  left_kept t u new newer told is stays kept put left count later =
      let before = so_far (Element u ∷ left) (kept.0 + count)
      (subst (λ ns. AreWithout Gone ns (Element u ∷ left) (kept.0 + count)) (sym (first nodes i n (Element t) within at is)) (AreWithout.kept stays kept.1 later)) in
      let counted = before.2 in
      let inside = kept.2 in (before.0, subst (λ ls. AreWithout Gone all ls before.0) (sym (put left)) before.1, omega (arith, counted, inside))

  -- and with one that is gone, and told
  pub left_gone : (t : Tree) (told : ℕ) → n ≡ Element t → Gone t → told ≡ now + 1 → LeftSoFar Gone all (drop (i + 1) nodes) made text old told
  left_gone t told is gone one left count later =
      let before = so_far left (suc count) (subst (λ ns. AreWithout Gone ns left (suc count)) (sym (first nodes i n (Element t) within at is)) (AreWithout.gone gone later)) in
      let counted = before.2 in (before.0, before.1, omega (arith, counted, one))

-- with one more at its end a list is longer by one
pub pushed : (old new : List ℕ) (a : ℕ) → new ≡ old ++ a ∷ [] → length new ≡ length old + 1
pushed old new a is = ap length is ∙ length-append old (a ∷ [])

-- a place in the set is one of its keys
pub contained : (places : BTreeSet ℕ) (at : ℕ) → contains nat_cmp places at ≡ true → Contains places.keys at
contained places at = Contains-from_any {eq = eq_by_cmp nat_cmp} (λ x y tied. grind (arith, ranked x y (nat_cmp x y) refl)) at places.keys

-- and one that is not there is none of them
pub not_contained : (places : BTreeSet ℕ) (at : ℕ) → contains nat_cmp places at ≡ false → Contains places.keys at → ⊥
not_contained places at none is = false≢true (sym none ∙ list_any-from_Contains (eq_by_cmp_equiv nat_cmp_total) at places.keys is)
