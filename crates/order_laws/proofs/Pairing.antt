-- Two trees that say the same in another order, with each element of the one beside the one that it has become: what a search finds, which elements hold items, and the items.
use Rattle.std.proofs.Common.{◌≡◌, ℕ, Bool, true, false, List, [], ◌∷◌, ◌++◌, map, Some, append_assoc, ⊎_elim, refl, sym, ap, subst, ◌∙◌}
use Rattle.std.specs.Prelude.{codes}
use Rattle.odd_text.specs.declared.name.Bind.{Bind}
use Rattle.odd_text.specs.Standing.{StandsIn}
use Rattle.odd_tree.specs.Elements.{children_of, within}
use Rattle.odd_tree.specs.Formed.{IsFormed}
use Rattle.odd_tree.specs.declared.tree.Tree.{Tree, out-Tree}
use Rattle.odd_text.proofs.InList.{first_or_later, nothing_stands, stands_first, stands_later}
use Rattle.odd_decls.specs.Offences.{HasIdAgain}
use Rattle.odd_text.specs.Standing.{StandsTwice}
use Rattle.odd_items.specs.Groups.{HoldsItems, IsGroupOf, IsItemIn, RefersTo, bare, declaration_names, group_names, held, id_of, inside, itself, reference_names, referred}
use Rattle.odd_items.specs.Search.{Finds, Found, children_found}
use Rattle.order_laws.specs.Pairs.{ArePaired}
use Rattle.order_laws.specs.Reordered.{IsReordered}
use Rattle.order_laws.proofs.Alike.{same_given, same_id, same_one_of, same_within}
use Rattle.order_laws.proofs.FoundThere.{ArePairedFound, finds_paired, found_paired}
use Rattle.order_laws.proofs.Matched.{reordered_back}
use Rattle.order_laws.proofs.OneToOne.{AreMatched, AtMostOne, matched_there, matched_turned, matched_twice, matched_weaker}
use Rattle.order_laws.proofs.PairsProofs.{child_back, child_there, formed_place, formed_place_there, pair_itself, pair_reordered, paired, paired_reordered}

-- the same is declared around both, and they are beside one another
pub record AreBeside (Beside : Tree → Tree → Type 0) (f g : Found) : Type 0 where
  pub around : f.around ≡ g.around
  pub beside : Beside f.element g.element

pub record IsPairing (Beside : Tree → Tree → Type 0) (t u : Tree) : Type 0 where
  pub root : Beside t u
  pub alike : (x y : Tree) → Beside x y → IsReordered x y
  pub child : (x y c : Tree) → Beside x y → StandsIn (children_of x) c → (d : Tree) × StandsIn (children_of y) d × Beside c d
  pub back : (x y d : Tree) → Beside x y → StandsIn (children_of y) d → (c : Tree) × StandsIn (children_of x) c × Beside c d
  pub one : (x y v w : Tree) → Beside x y → Beside v w → (out-Tree x).at ≡ (out-Tree v).at → (x ≡ v) × (y ≡ w)
  pub one_back : (x y v w : Tree) → Beside x y → Beside v w → (out-Tree y).at ≡ (out-Tree w).at → (x ≡ v) × (y ≡ w)
  pub finds : (names : List (List ℕ)) (outermost : Bool) (found : List Found) → Finds names outermost [] t found
      → (others : List Found) × Finds names outermost [] u others × AreMatched (AreBeside Beside) found others
  pub finds_back : (names : List (List ℕ)) (outermost : Bool) (others : List Found) → Finds names outermost [] u others
      → (found : List Found) × Finds names outermost [] t found × AreMatched (AreBeside Beside) found others

-- of two formed trees that say the same in another order each element of one has one of the other beside it
pub pairing : {first end other_first other_end : ℕ} {t u : Tree} {all : List (Tree × Tree)} → IsFormed first end t → IsFormed other_first other_end u → ArePaired t u all
    → IsPairing (λ x y. StandsIn all (x, y)) t u
pairing {t = t} {u = u} {all = all} formed other_formed are = record {
  root = pair_itself are;
  alike = λ x y s. pair_reordered are (x, y) s;
  child = λ x y c s k. child_there are (x, y) s c k;
  back = λ x y d s k. child_back are (x, y) s d k;
  one = λ x y v w s k same. let e = formed_place formed are (x, y) (v, w) s k same in (ap (λ p. p.0) e, ap (λ p. p.1) e);
  one_back = λ x y v w s k same. let e = formed_place_there other_formed are (x, y) (v, w) s k same in (ap (λ p. p.0) e, ap (λ p. p.1) e);
  finds = λ names outermost found f.
      let h = finds_paired names outermost [] are f in
      (h.0, h.1, beside h.2);
  finds_back = λ names outermost others g.
      let other = paired (reordered_back (paired_reordered are)) in
      let h = finds_paired names outermost [] other.1 g in
      (h.0, h.1, beside (found_paired names outermost [] are h.1 g));
}
  where
    beside : {found others : List Found} → AreMatched (ArePairedFound all) found others → AreMatched (AreBeside (λ x y. StandsIn all (x, y))) found others
    beside m = matched_weaker (ArePairedFound all) (AreBeside (λ x y. StandsIn all (x, y))) (λ f g k. record { around = k.around; beside = k.pair }) m

-- and the other way round
pub turned : {Beside : Tree → Tree → Type 0} {t u : Tree} → IsPairing Beside t u → IsPairing (λ y x. Beside x y) u t
turned {Beside = Beside} p = record {
  root = p.root;
  alike = λ y x b. reordered_back (p.alike x y b);
  child = λ y x d b s. p.back x y d b s;
  back = λ y x c b s. p.child x y c b s;
  one = λ y x w v b c same. let e = p.one_back x y v w b c same in (e.1, e.0);
  one_back = λ y x w v b c same. let e = p.one x y v w b c same in (e.1, e.0);
  finds = λ names outermost others g. let h = p.finds_back names outermost others g in (h.0, h.1, turn h.2);
  finds_back = λ names outermost found f. let h = p.finds names outermost found f in (h.0, h.1, turn h.2);
}
  where
    turn : {found others : List Found} → AreMatched (AreBeside Beside) found others → AreMatched (AreBeside (λ y x. Beside x y)) others found
    turn m = matched_weaker (λ g f. AreBeside Beside f g) (AreBeside (λ y x. Beside x y)) (λ g f k. record { around = sym k.around; beside = k.beside }) (matched_turned (AreBeside Beside) m)

-- the first of these, where there is one, is beside the first of those
pub data AreFirstsBeside (Beside : Tree → Tree → Type 0) : List Found → List Found → Type 0 where
  none : AreFirstsBeside Beside [] []
  some : {f g : Found} {founds others : List Found} → AreBeside Beside f g → AreFirstsBeside Beside (f ∷ founds) (g ∷ others)

-- two lists of one item at most begin so
pub firsts_of_few : {Beside : Tree → Tree → Type 0} {founds others : List Found} → AtMostOne (AreBeside Beside) founds others → AreFirstsBeside Beside founds others
firsts_of_few AtMostOne.none = none
firsts_of_few (AtMostOne.one f g b) = some b

-- and the other way round
pub firsts_turned : {Beside : Tree → Tree → Type 0} {founds others : List Found} → AreFirstsBeside Beside founds others → AreFirstsBeside (λ y x. Beside x y) others founds
firsts_turned none = none
firsts_turned (some b) = some (record { around = sym b.around; beside = b.beside })

-- no group has the id of an earlier one
abbrev pub HasOwnIds : Tree → Type 0
HasOwnIds t = (place : ℕ) → HasIdAgain t place → ⊥

-- two that were found have the id
abbrev HaveId : List ℕ → Found → Type 0
HaveId id f = id_of f.element ≡ Some id

again_of : (t : Tree) (id : List ℕ) (found : List Found) → Finds group_names false [] t found → StandsTwice (HaveId id) found → (place : ℕ) × HasIdAgain t place
again_of t id found finds w = (
  (out-Tree w.later.element).at,
  record {
    id = id;
    before = w.before ++ w.first ∷ w.between;
    after = w.after;
    earlier = w.first;
    later = w.later;
    found = subst (Finds group_names false [] t) (w.parts ∙ sym (append_assoc w.before (w.first ∷ w.between) (w.later ∷ w.after))) finds;
    is_before = (w.before, w.between, refl);
    earlier_has = w.first_is;
    has = w.later_is;
    placed = refl;
  },
)

-- and the other way round
twice_of : (t : Tree) (place : ℕ) (h : HasIdAgain t place) → StandsTwice (HaveId h.id) (h.before ++ h.later ∷ h.after)
twice_of t place h = record {
  before = h.is_before.0;
  first = h.earlier;
  between = h.is_before.1;
  later = h.later;
  after = h.after;
  parts = ap (λ fs. fs ++ h.later ∷ h.after) h.is_before.2 ∙ append_assoc h.is_before.0 (h.earlier ∷ h.is_before.1) (h.later ∷ h.after);
  first_is = h.earlier_has;
  later_is = h.has;
}

module _ {Beside : Tree → Tree → Type 0} {t u : Tree} (p : IsPairing Beside t u) where
  -- what is beside another has its id
  pub same_id_beside : (f g : Found) → AreBeside Beside f g → id_of f.element ≡ id_of g.element
  same_id_beside f g b = same_id (p.alike f.element g.element b.beside)

  -- where no group of one has the id of an earlier one, no group of the other has
  pub own_ids_there : HasOwnIds t → HasOwnIds u
  own_ids_there own place h =
      let k = p.finds_back group_names false (h.before ++ h.later ∷ h.after) h.found in
      let turned = matched_turned (AreBeside Beside) k.2 in
      let w = matched_twice (λ g f. AreBeside Beside f g) (HaveId h.id) (HaveId h.id) (λ g f b has. same_id_beside f g b ∙ has) turned (twice_of u place h) in
      let again = again_of t h.id k.0 k.1 w in
      own again.0 again.1

  -- a child of one is beside a child of the other, with what is declared around them
  pub child_beside : (f g c : Found) → AreBeside Beside f g → StandsIn (children_found f) c → (d : Found) × StandsIn (children_found g) d × AreBeside Beside c d
  child_beside f g c b s =
      let k = child_of (children_of f.element) s in
      let h = p.child f.element g.element k.0 b.beside k.1 in
      let binds : within f.around f.element ≡ within g.around g.element = ap (λ around. within around f.element) b.around ∙ same_within g.around (p.alike f.element g.element b.beside) in (
        record { around = within g.around g.element; element = h.0 },
        stands_made (children_of g.element) h.1,
        record { around = ap (λ x. x.around) (sym k.2) ∙ binds; beside = subst (λ x. Beside x h.0) (ap (λ x. x.element) k.2) h.2 },
      )
    where
      made : List Bind → Tree → Found
      made binds x = record { around = binds; element = x }

      child_of : (ts : List Tree) → StandsIn (map (made (within f.around f.element)) ts) c → (x : Tree) × StandsIn ts x × (made (within f.around f.element) x ≡ c)
      child_of [] s = absurd (nothing_stands c s)
      child_of (x ∷ ts) s =
          ⊎_elim (λ e. (x, stands_first x ts, sym e)) (λ later. let h = child_of ts later in (h.0, stands_later x h.0 ts h.1, h.2))
          (first_or_later (made (within f.around f.element) x) c (map (made (within f.around f.element)) ts) s)

      stands_made : (ts : List Tree) {x : Tree} → StandsIn ts x → StandsIn (map (made (within g.around g.element)) ts) (made (within g.around g.element) x)
      stands_made [] {x} s = absurd (nothing_stands x s)
      stands_made (y ∷ ts) {x} s =
          ⊎_elim (λ e. subst (λ z. StandsIn (map (made (within g.around g.element)) (y ∷ ts)) (made (within g.around g.element) z)) (sym e) (stands_first (made (within g.around g.element) y) (map (made (within g.around g.element)) ts)))
          (λ later. stands_later (made (within g.around g.element) y) (made (within g.around g.element) x) (map (made (within g.around g.element)) ts) (stands_made ts later)) (first_or_later y x ts s)

  -- a reference to an id is beside one to it
  pub refers_beside : (x y : Tree) (id : List ℕ) → Beside x y → RefersTo x id → RefersTo y id
  refers_beside x y id b r = (sym (same_one_of reference_names (p.alike x y b)) ∙ r.0, sym (same_given (codes "target") (p.alike x y b)) ∙ r.1)

  module _ (own : HasOwnIds t) where
    -- the group of an id is beside that of the other
    pub group_there : (id : List ℕ) (group : Found) → IsGroupOf t id group → (h : Found) × IsGroupOf u id h × AreBeside Beside group h
    group_there id group is =
        let k = p.finds group_names false (is.before ++ group ∷ is.after) is.found in
        let h = matched_there (AreBeside Beside) k.2 group (is.before, is.after, refl) in
        let named : id_of h.0.element ≡ Some id = sym (same_id_beside group h.0 h.2) ∙ is.named in (
          h.0,
          record {
            before = h.1.0;
            after = h.1.1;
            found = subst (Finds group_names false [] u) h.1.2 k.1;
            named = named;
            first = λ other s has.
                let again = again_of u id k.0 k.1 (twice h.0 h.1 named other s has) in
                own_ids_there own again.0 again.1;
          },
          h.2,
        )
      where
        twice : {others : List Found} (g : Found) (at : StandsIn others g) → id_of g.element ≡ Some id → (other : Found) → StandsIn at.0 other → id_of other.element ≡ Some id → StandsTwice (HaveId id) others
        twice g at named other s has = record {
          before = s.0;
          first = other;
          between = s.1;
          later = g;
          after = at.1;
          parts = at.2 ∙ ap (λ fs. fs ++ g ∷ at.1) s.2 ∙ append_assoc s.0 (other ∷ s.1) (g ∷ at.1);
          first_is = has;
          later_is = named;
        }

    -- what holds items is beside what does
    pub holder_there : {schema other holder : Found} → AreBeside Beside schema other → HoldsItems t schema holder → (h : Found) × HoldsItems u other h × AreBeside Beside holder h
    holder_there {other = other} b itself = (other, itself, b)
    holder_there b (inside {group = group} holder holds s named) =
        let h = holder_there b holds in
        let c = child_beside holder h.0 group h.2 s in
        (c.0, inside h.0 h.1 c.1 (sym (same_one_of group_names (p.alike group.element c.0.element c.2.beside)) ∙ named), c.2)
    holder_there b (referred {group = group} holder reference id holds s refers is) =
        let h = holder_there b holds in
        let c = child_beside holder h.0 reference h.2 s in
        let g = group_there id group is in
        (g.0, referred h.0 c.0 id h.1 c.1 (refers_beside reference.element c.0.element id c.2.beside refers) g.1, g.2)

    -- an item is beside an item
    pub item_there : {schemas others : List Found} {item : Found} → AreFirstsBeside Beside schemas others → IsItemIn t schemas item → (h : Found) × IsItemIn u others h × AreBeside Beside item h
    item_there (some b) (held {item = item} holder holds s) =
        let h = holder_there b holds in
        let c = child_beside holder h.0 item h.2 s in
        (c.0, held h.0 h.1 c.1, c.2)
    item_there none (bare {item = item} found finds s) =
        let k = p.finds declaration_names true found finds in
        let h = matched_there (AreBeside Beside) k.2 item s in
        (h.0, bare k.0 k.1 h.1, h.2)
