-- What is left of a formed element without the constraints that may not stand in it, and of its children.
use Rattle.std.proofs.Common.{◌≡◌, ℕ, ⊎_elim, inr, false, List, [], ◌∷◌, ◌++◌, codes, refl, sym, ap, subst, ◌∙◌, arith}
use Rattle.std.proofs.lemmas.Bool.{both_ways}
use Rattle.std.proofs.lemmas.Option.{same_Some}
use Rattle.std.specs.List.{Contains}
use Rattle.odd_text.specs.declared.name.Bind.{Bind}
use Rattle.odd_text.specs.Same.{is_same}
use Rattle.odd_tree.proofs.InTree.{with_element, with_text}
use Rattle.odd_text.proofs.InList.{first_or_later, map_stands, nothing_stands, stands_first, stands_later}
use Rattle.odd_tree.proofs.PrintedTrees.{same_from}
use Rattle.odd_text.specs.Standing.{StandsIn}
use Rattle.odd_tree.specs.Elements.{StandsWithin, children_of, elements_of, within}
use Rattle.odd_tree.specs.Elements as elements
use Rattle.odd_tree.specs.Formed.{IsFormed}
use Rattle.odd_tree.specs.Formed as formed
use Rattle.odd_tree.specs.declared.tree.Node.{Node, Text}
use Rattle.odd_tree.specs.declared.tree.Tree.{Tree, out-Tree}
use Rattle.odd_forms.proofs.Children.{found_among, one_named}
use Rattle.odd_forms.specs.Children.{IsChild}
use Rattle.odd_forms.specs.Faults.{child_in}
use Rattle.odd_forms.specs.Table.{form_at}
use Rattle.odd_forms.specs.declared.element.Element.{Element as Kind}
use Rattle.odd_forms.specs.declared.element.Element.TheVariants as element
use Rattle.odd_items.proofs.Remaining.{same_gone, same_gone_within, some_under}
use Rattle.odd_items.proofs.Standing as under
use Rattle.odd_items.proofs.Standing.{StandsUnder, child_under, same_child, same_place}
use Rattle.odd_items.specs.Constraints.{AddsPlaces, IsConstraint, IsConstraintIn, IsReadIn, LeavesOutConstraints}
use Rattle.odd_items.specs.Constraints as inner
use Rattle.odd_items.specs.Search.{Found}
use Rattle.odd_items.specs.Without.{AreWithout, IsWithout, text_before}
use Rattle.odd_items.specs.Without as left

-- the child of one that stands in an element stands there
pub child_stands : (t child : Tree) (f : Found) → StandsUnder [] t f → StandsIn (children_of f.element) child → (c : Found) × StandsUnder [] t c × (c.element ≡ child)
child_stands t child f under s =
    let found : Tree → Found = λ c. record { around = within f.around f.element; element = c } in
    (found child, child_under [] t f (found child) under (map_stands found (children_of f.element) child s), refl)

-- and so does what is read in it
read_stands : {e g : Kind} {s u : Tree} → IsReadIn e s g u → (t : Tree) (f : Found) → StandsUnder [] t f → f.element ≡ s → (c : Found) × StandsUnder [] t c × (c.element ≡ u)
read_stands inner.itself t f under same = (f, under, same)
read_stands (inner.inside child is stands read) t f under same =
    let c = child_stands t child f under (subst (λ w. StandsIn (children_of w) child) (sym same) stands) in
    read_stands read t c.0 c.1 c.2

-- and each constraint that may not stand in one that stands there
pub constraint_stands : (t : Tree) (f : Found) → StandsUnder [] t f → (e : Kind) (s c : Tree) → f.element ≡ s → IsConstraintIn e s c → (g : Found) × StandsUnder [] t g × (g.element ≡ c)
constraint_stands t f under e s c same (inner.child g parent read l stands k) =
    let p = read_stands read t f under same in
    child_stands t c p.0 p.1 (subst (λ w. StandsIn (children_of w) c) (sym p.2) stands)

-- what stands in an element stands there whatever is declared around it
any_around : {outer : List Bind} {t : Tree} {f : Found} → StandsUnder outer t f → (other : List Bind) → (g : Found) × StandsUnder other t g × (g.element ≡ f.element)
any_around {t = t} under.itself other = (record { around = other; element = t }, under.itself, refl)
any_around {t = t} (under.inside child s d) other = let g = any_around d (within other t) in (g.0, under.inside child s g.1, g.2)

-- where the elements are gone whose places were put into a set, those themselves are gone
pub left_by_places : (first end : ℕ) (t u : Tree) (Is : Tree → Type 0) (places : List ℕ) (count : ℕ) → IsFormed first end t
    → ((c : Tree) → Is c → (f : Found) × StandsUnder [] t f × (f.element ≡ c)) → AddsPlaces Is [] places → IsWithout (λ c. Contains places (out-Tree c).at) t u count → IsWithout Is t u count
left_by_places first end t u Is places count formed stands adds is = same_gone (λ c. Contains places (out-Tree c).at) Is t u count same is
  where
    same : (outer : List Bind) (f : Found) → StandsUnder outer t f → (Contains places (out-Tree f.element).at → Is f.element) × (Is f.element → Contains places (out-Tree f.element).at)
    same outer f under = (λ h. ⊎_elim (λ k. absurd (omega (arith, k.1))) one ((adds (out-Tree f.element).at).0 h), λ h. (adds (out-Tree f.element).at).1 (inr (f.element, h, refl)))
      where
        one : (c : Tree) × Is c × ((out-Tree f.element).at ≡ (out-Tree c).at) → Is f.element
        one h =
            let g = any_around under [] in
            let k = stands h.0 h.1 in
            let placed : (out-Tree g.0.element).at ≡ (out-Tree k.0.element).at = ap (λ w. (out-Tree w).at) g.2 ∙ h.2 ∙ ap (λ w. (out-Tree w).at) (sym k.2) in
            let e = same_place first end [] t g.0 k.0 formed g.1 k.1 placed in
            subst Is (sym (sym g.2 ∙ ap (λ w. w.element) e ∙ k.2)) h.1

-- so where the places are those of the constraints in an element, these are gone
pub constraints_gone : (first end : ℕ) (e : Kind) (t u : Tree) (places : List ℕ) (count : ℕ) → IsFormed first end t → AddsPlaces (IsConstraintIn e t) [] places
    → IsWithout (λ c. Contains places (out-Tree c).at) t u count → IsWithout (IsConstraintIn e t) t u count
constraints_gone first end e t u places count formed =
    left_by_places first end t u (IsConstraintIn e t) places count formed (λ c h. constraint_stands t (record { around = []; element = t }) under.itself e t c refl h)

-- a text before some nodes is no element
elements_before : (bytes : List ℕ) (ns : List Node) → elements_of (text_before bytes ns) ≡ elements_of ns
elements_before bytes [] = with_text bytes []
elements_before bytes (Text other ∷ ns) = with_text (bytes ++ other) ns ∙ sym (with_text other ns)
elements_before bytes (n ∷ ns) = with_text bytes (n ∷ ns)

-- what is left of an element
abbrev pub LeftOf : (Tree → Type 0) → List Tree → Tree → Type 0
LeftOf Gone others t = (u : Tree) × (count : ℕ) × StandsIn others u × IsWithout Gone t u count

-- of each that is not gone something is left
stays_among : (Gone : Tree → Type 0) (ns ms : List Node) (count : ℕ) → AreWithout Gone ns ms count → (child : Tree) → StandsIn (elements_of ns) child → (Gone child → ⊥)
    → LeftOf Gone (elements_of ms) child
stays_among Gone ns ms count left.nothing child s stays = absurd (nothing_stands child s)
stays_among Gone ns ms count (left.text {ns = rest} {left = others} {count = n} bytes later) child s stays =
    let h = stays_among Gone rest others n later child (subst (λ ts. StandsIn ts child) (with_text bytes rest) s) stays in
    (h.0, h.1, subst (λ ts. StandsIn ts h.0) (sym (elements_before bytes others)) h.2, h.3)
stays_among Gone ns ms count (left.kept {t = t} {u = u} {ns = rest} {left = others} {inside = m} {count = n} here one later) child s stays =
    subst (λ ts. LeftOf Gone ts child) (sym (with_element u others))
    (⊎_elim (λ e. (u, m, stands_first u (elements_of others), subst (λ x. IsWithout Gone x u m) (sym e) one))
    (λ k. let h = stays_among Gone rest others n later child k stays in (h.0, h.1, stands_later u h.0 (elements_of others) h.2, h.3))
    (first_or_later t child (elements_of rest) (subst (λ ts. StandsIn ts child) (with_element t rest) s)))
stays_among Gone ns ms count (left.gone {t = t} {ns = rest} {count = n} is later) child s stays =
    ⊎_elim (λ e. absurd (stays (subst Gone (sym e) is))) (λ k. stays_among Gone rest ms n later child k stays)
    (first_or_later t child (elements_of rest) (subst (λ ts. StandsIn ts child) (with_element t rest) s))

-- in a formed element one child alone has an element in it
one_child : (first end : ℕ) (t x y s : Tree) → IsFormed first end t → StandsIn (children_of t) x → StandsIn (children_of t) y → StandsWithin x s → StandsWithin y s → x ≡ y
one_child first end t x y s (formed.element low tag apart nodes) in_x in_y v w =
    let f = some_under v [] in
    let g = some_under w [] in
    same_child [] f.0 g.0 (ap (λ u. (out-Tree u).at) (f.2 ∙ sym g.2)) x y f.1 g.1 nodes in_x in_y

-- what is read in an element stands in it
read_within : {e g : Kind} {t u c : Tree} → IsReadIn e t g u → StandsWithin u c → StandsWithin t c
read_within inner.itself w = w
read_within (inner.inside child is stands read) w = elements.inside child stands (read_within read w)

-- no element of the table is a constraint
no_constraint : (k : Kind) → is_same (form_at k).name (codes "constraintSpec") ≡ false
no_constraint element.SchemaSpec = refl
no_constraint k = refl

never_constraint : (e k : Kind) (child : Tree) → IsChild e k child → IsConstraint child → ⊥
never_constraint e k child is constraint =
    let named = (found_among ((form_at e).many ++ (form_at e).once) child k is).1 in
    let same : (form_at k).name ≡ codes "constraintSpec" = ap (λ n. n.local) (sym named ∙ one_named (codes "constraintSpec") child constraint) in
    both_ways _ (no_constraint k) (same_from _ _ same)

-- what may not stand in a formed element may not stand in the child that has it in it
in_child : (first end : ℕ) (e k : Kind) (t child c : Tree) → IsFormed first end t → StandsIn (children_of t) child → IsChild e k child → StandsWithin child c → IsConstraintIn e t c
    → IsConstraintIn k child c
in_child first end e k t child c formed s is w (inner.child g parent read l stands constraint) = by read l stands
  where
    by : {g : Kind} {parent : Tree} → IsReadIn e t g parent → LeavesOutConstraints g → StandsIn (children_of parent) c → IsConstraintIn k child c
    by inner.itself l stands = let one = one_child first end t child c c formed s stands w elements.itself in absurd (never_constraint e k child is (subst IsConstraint (sym one) constraint))
    by {g = g} {parent = parent} (inner.inside {f = f} other of there read) l stands =
        let one = one_child first end t other child c formed there s (read_within read (elements.inside c stands elements.itself)) w in
        let kind : f ≡ k = same_Some _ _ (sym of ∙ ap (λ x. child_in (form_at e) x) one ∙ is) in
        inner.child g parent (subst (λ h. IsReadIn h child g parent) kind (subst (λ x. IsReadIn f x g parent) one read)) l stands constraint

-- of each child that is read something is left, without those that may not stand in it
pub child_left : (first end : ℕ) (e k : Kind) (t u : Tree) (count : ℕ) → IsFormed first end t → IsWithout (IsConstraintIn e t) t u count → (child : Tree) → StandsIn (children_of t) child
    → IsChild e k child → LeftOf (IsConstraintIn k child) (children_of u) child
child_left first end e k t u count formed (left.element name attrs binds at are) child s is =
    let h = stays_among (IsConstraintIn e t) (out-Tree t).children (out-Tree u).children count are child s (λ g. never_constraint e k child is (is_constraint g)) in
    (h.0, h.1, h.2, same_gone_within (IsConstraintIn e t) (IsConstraintIn k child) child h.0 h.1 same h.3)
  where
    is_constraint : {c : Tree} → IsConstraintIn e t c → IsConstraint c
    is_constraint (inner.child g parent read l stands constraint) = constraint

    out : {c : Tree} → IsConstraintIn k child c → IsConstraintIn e t c
    out (inner.child g parent read l stands constraint) = inner.child g parent (inner.inside child is s read) l stands constraint

    same : (c : Tree) → StandsWithin child c → (IsConstraintIn e t c → IsConstraintIn k child c) × (IsConstraintIn k child c → IsConstraintIn e t c)
    same c w = (λ g. in_child first end e k t child c formed s is w g, λ g. out g)
