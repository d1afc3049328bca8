-- Trees that say the same in another order are paired, element by element; and where all elements stand at places of their own, one place tells the pair.
use Rattle.std.proofs.Common.{◌≡◌, ◌≢◌, ℕ, suc, ◌≤◌, Bool, ⊎_elim, List, [], ◌∷◌, ◌++◌, map, eqb, false, append_assoc, refl, sym, ap, ap₂, subst, ◌∙◌, arith, rules, tests}
use Rattle.std.proofs.lemmas.List.{map-append}
use Rattle.std.proofs.lemmas.List.Sorted.{IsPermutation-append, IsPermutation-append_comm, IsPermutation-append_left, IsPermutation-cons, IsPermutation-map, IsPermutation-refl, IsPermutation-trans}
use Rattle.std.proofs.lemmas.Map.Keys.{IsDistinct-IsPermutation}
use Rattle.std.specs.List.{AllByRecursion, IsDistinct}
use Rattle.std.specs.List.Sorted.{IsPermutation}
use Rattle.odd_tokens.proofs.Characters.{Distinct, Lacks, distinct, each_weaker, none_twice}
use Rattle.odd_tokens.specs.Tokens.{NoneTwice}
use Rattle.odd_tree.proofs.InTree.{with_element, with_text}
use Rattle.odd_text.proofs.InList.{first_or_later, nothing_stands, stands_first, stands_later}
use Rattle.odd_text.specs.Standing.{StandsIn}
use Rattle.odd_tree.specs.Elements.{children_of, elements_of}
use Rattle.odd_tree.specs.Formed.{AreFormed, IsFormed}
use Rattle.odd_tree.specs.Formed as formed
use Rattle.odd_tree.specs.declared.tree.Node.{Node}
use Rattle.odd_tree.specs.declared.tree.Tree.{Tree, out-Tree}
use Rattle.order_laws.proofs.Shuffled.{stands_either, stands_left, stands_right, stands_with}
use Rattle.order_laws.specs.Pairs.{AreAllAmong, AreAllOf, AreAllPaired, ArePaired}
use Rattle.order_laws.specs.Pairs as pairs
use Rattle.order_laws.specs.Reordered.{AreReordered, IsReordered}
use Rattle.order_laws.specs.Reordered as reordered

-- trees that say the same in another order have pairs
mutual
  pub paired : {t u : Tree} → IsReordered t u → (all : List (Tree × Tree)) × ArePaired t u all
  paired {t = t} {u = u} (reordered.element name attrs binds says are) =
      let h = all_paired are in
      ((t, u) ∷ h.0, pairs.element (reordered.element name attrs binds says are) h.1)

  -- and so have several
  pub all_paired : {loose : Bool} {ts us : List Tree} → AreReordered loose ts us → (all : List (Tree × Tree)) × AreAllPaired loose ts us all
  all_paired reordered.nothing = ([], pairs.nothing)
  all_paired (reordered.next before after is front r later) =
      let one = paired r in
      let others = all_paired later in
      (one.0 ++ others.0, pairs.next before after one.0 others.0 is front one.1 others.1 refl)

-- what stands in two lists, one after the other, stands in one of them
-- the two of a pair say the same in another order
mutual
  pub pair_reordered : {t u : Tree} {all : List (Tree × Tree)} → ArePaired t u all → (p : Tree × Tree) → StandsIn all p → IsReordered p.0 p.1
  pair_reordered (pairs.element {t = t} {u = u} {below = below} r are) p s =
      ⊎_elim (λ e. subst (λ q. IsReordered q.0 q.1) (sym e) r) (λ later. pair_among are p later) (first_or_later (t, u) p below s)

  pub pair_among : {loose : Bool} {ts us : List Tree} {all : List (Tree × Tree)} → AreAllPaired loose ts us all → (p : Tree × Tree) → StandsIn all p → IsReordered p.0 p.1
  pair_among pairs.nothing p s = absurd (nothing_stands p s)
  pair_among (pairs.next before after first later is front one others all) p s =
      ⊎_elim (λ k. pair_reordered one p k) (λ k. pair_among others p k) (stands_either first later p (subst (λ ps. StandsIn ps p) all s))

-- trees that are paired say the same in another order
pub paired_reordered : {t u : Tree} {all : List (Tree × Tree)} → ArePaired t u all → IsReordered t u
paired_reordered (pairs.element r are) = r

-- the pair of the trees themselves is one of the pairs
pub pair_itself : {t u : Tree} {all : List (Tree × Tree)} → ArePaired t u all → StandsIn all (t, u)
pair_itself (pairs.element {t = t} {u = u} {below = below} r are) = stands_first (t, u) below

-- two trees are paired, and their pairs are among these
abbrev pub ArePairedIn : List (Tree × Tree) → Tree → Tree → Type 0
ArePairedIn all t u = (inner : List (Tree × Tree)) × ArePaired t u inner × ((p : Tree × Tree) → StandsIn inner p → StandsIn all p)

-- the two of a pair are paired, and their pairs are among all
mutual
  pub pair_paired : {t u : Tree} {all : List (Tree × Tree)} → ArePaired t u all → (p : Tree × Tree) → StandsIn all p → ArePairedIn all p.0 p.1
  pair_paired {all = all} (pairs.element {t = t} {u = u} {below = below} r are) p s =
      ⊎_elim (λ e. subst (λ q. ArePairedIn all q.0 q.1) (sym e) (all, pairs.element r are, λ q k. k))
      (λ later. let h = pair_among_paired are p later in (h.0, h.1, λ q k. stands_later (t, u) q below (h.2 q k))) (first_or_later (t, u) p below s)

  pair_among_paired : {loose : Bool} {ts us : List Tree} {all : List (Tree × Tree)} → AreAllPaired loose ts us all → (p : Tree × Tree) → StandsIn all p → ArePairedIn all p.0 p.1
  pair_among_paired pairs.nothing p s = absurd (nothing_stands p s)
  pair_among_paired {all = whole} (pairs.next before after first later is front one others all) p s =
      let within = λ (q : Tree × Tree) (k : StandsIn (first ++ later) q). subst (λ ps. StandsIn ps q) (sym all) k in
      ⊎_elim (λ k. let h = pair_paired one p k in (h.0, h.1, λ q i. within q (stands_left first later q (h.2 q i))))
      (λ k. let h = pair_among_paired others p k in (h.0, h.1, λ q i. within q (stands_right first later q (h.2 q i)))) (stands_either first later p (subst (λ ps. StandsIn ps p) all s))

-- each of several elements is paired with one of the others
one_among_paired : {loose : Bool} {ts us : List Tree} {all : List (Tree × Tree)} → AreAllPaired loose ts us all → (t : Tree) → StandsIn ts t → (u : Tree) × StandsIn us u × StandsIn all (t, u)
one_among_paired pairs.nothing t s = absurd (nothing_stands t s)
one_among_paired {us = us} {all = whole} (pairs.next {t = one} {u = u} {ts = ts} before after first later is front paired_one others all) t s =
    ⊎_elim (λ e. (u, (before, after, is), subst (λ x. StandsIn whole (x, u)) (sym e) (subst (λ ps. StandsIn ps (one, u)) (sym all) (stands_left first later (one, u) (pair_itself paired_one)))))
    (λ k. let h = one_among_paired others t k in (
      h.0,
      subst (λ xs. StandsIn xs h.0) (sym is) (stands_with before after u h.0 h.1),
      subst (λ ps. StandsIn ps (t, h.0)) (sym all) (stands_right first later (t, h.0) h.2),
    )) (first_or_later one t ts s)

-- and each of the others with one of these
other_among_paired : {loose : Bool} {ts us : List Tree} {all : List (Tree × Tree)} → AreAllPaired loose ts us all → (u : Tree) → StandsIn us u → (t : Tree) × StandsIn ts t × StandsIn all (t, u)
other_among_paired pairs.nothing u s = absurd (nothing_stands u s)
other_among_paired {ts = ts} {us = us} {all = whole} (pairs.next {t = t} {u = one} {ts = rest} before after first later is front paired_one others all) u s =
    let behind : StandsIn (before ++ after) u → (x : Tree) × StandsIn (t ∷ rest) x × StandsIn whole (x, u) = λ k.
    (let h = other_among_paired others u k in (h.0, stands_later t h.0 rest h.1, subst (λ ps. StandsIn ps (h.0, u)) (sym all) (stands_right first later (h.0, u) h.2))) in
    ⊎_elim (λ k. behind (stands_left before after u k))
    (λ k. ⊎_elim (λ e. (t, stands_first t rest, subst (λ x. StandsIn whole (t, x)) (sym e) (subst (λ ps. StandsIn ps (t, one)) (sym all) (stands_left first later (t, one) (pair_itself paired_one)))))
    (λ i. behind (stands_right before after u i)) (first_or_later one u after k)) (stands_either before (one ∷ after) u (subst (λ xs. StandsIn xs u) is s))

-- each child of the first of a pair has a child of the second with which it is a pair
pub child_there : {t u : Tree} {all : List (Tree × Tree)} → ArePaired t u all → (p : Tree × Tree) → StandsIn all p → (child : Tree) → StandsIn (children_of p.0) child
    → (other : Tree) × StandsIn (children_of p.1) other × StandsIn all (child, other)
child_there are p s child k = let i = pair_paired are p s in let h = child_of i.1 child k in (h.0, h.1, i.2 (child, h.0) h.2)
  where
    child_of : {x y : Tree} {inner : List (Tree × Tree)} → ArePaired x y inner → (c : Tree) → StandsIn (children_of x) c → (d : Tree) × StandsIn (children_of y) d × StandsIn inner (c, d)
    child_of (pairs.element {t = x} {u = y} {below = below} r amid) c j = let h = one_among_paired amid c j in (h.0, h.1, stands_later (x, y) (c, h.0) below h.2)

-- and each child of the second has one of the first
pub child_back : {t u : Tree} {all : List (Tree × Tree)} → ArePaired t u all → (p : Tree × Tree) → StandsIn all p → (other : Tree) → StandsIn (children_of p.1) other
    → (child : Tree) × StandsIn (children_of p.0) child × StandsIn all (child, other)
child_back are p s other k = let i = pair_paired are p s in let h = child_of i.1 other k in (h.0, h.1, i.2 (h.0, other) h.2)
  where
    child_of : {x y : Tree} {inner : List (Tree × Tree)} → ArePaired x y inner → (d : Tree) → StandsIn (children_of y) d → (c : Tree) × StandsIn (children_of x) c × StandsIn inner (c, d)
    child_of (pairs.element {t = x} {u = y} {below = below} r amid) d j = let h = other_among_paired amid d j in (h.0, h.1, stands_later (x, y) (h.0, d) below h.2)

-- the first of each pair, and the second
abbrev pub firsts : List (Tree × Tree) → List Tree
firsts = map (λ p. p.0)

abbrev pub seconds : List (Tree × Tree) → List Tree
seconds = map (λ p. p.1)

-- the first of the pairs are all elements of the first tree, in document order
mutual
  pub firsts_are_all : {t u : Tree} {all : List (Tree × Tree)} → ArePaired t u all → AreAllOf t (firsts all)
  firsts_are_all (pairs.element r are) = pairs.element (firsts_among are)

  firsts_among : {loose : Bool} {ts us : List Tree} {all : List (Tree × Tree)} → AreAllPaired loose ts us all → AreAllAmong ts (firsts all)
  firsts_among pairs.nothing = pairs.nothing
  firsts_among (pairs.next before after first later is front one others all) =
      pairs.next (firsts first) (firsts later) (firsts_are_all one) (firsts_among others) (ap firsts all ∙ map-append (λ p. p.0) first later)

-- all among two lists of elements are those of the first and then those of the second
pub among_parts : (ts us all : List Tree) → AreAllAmong (ts ++ us) all → (first : List Tree) × (later : List Tree) × AreAllAmong ts first × AreAllAmong us later × (all ≡ first ++ later)
among_parts [] us all h = ([], all, pairs.nothing, h, refl)
among_parts (t ∷ ts) us all (pairs.next first later one others is) =
    let k = among_parts ts us later others in
    (first ++ k.0, k.1, pairs.next first k.0 one k.2 refl, k.3, is ∙ ap (λ xs. first ++ xs) k.4 ∙ sym (append_assoc first k.0 k.1))

-- and the other way round
pub among_both : (ts us first later : List Tree) → AreAllAmong ts first → AreAllAmong us later → AreAllAmong (ts ++ us) (first ++ later)
among_both [] us first later pairs.nothing k = k
among_both (t ∷ ts) us all later (pairs.next one others h hs is) k =
    pairs.next one (others ++ later) h (among_both ts us others later hs k) (ap (λ xs. xs ++ later) is ∙ append_assoc one others later)

-- a list moved from between two others to the front of both
moved_front : {A : Type 0} (xs ys zs : List A) → IsPermutation (xs ++ (ys ++ zs)) (ys ++ (xs ++ zs))
moved_front xs ys zs =
    subst (λ l. IsPermutation l (ys ++ (xs ++ zs))) (append_assoc xs ys zs)
    (subst (λ r. IsPermutation ((xs ++ ys) ++ zs) r) (append_assoc ys xs zs) (IsPermutation-append_left zs (xs ++ ys) (ys ++ xs) (IsPermutation-append_comm xs ys)))

-- the second of the pairs are all elements of the second tree, in some order
mutual
  pub seconds_are_all : {t u : Tree} {all : List (Tree × Tree)} → ArePaired t u all → (others : List Tree) × AreAllOf u others × IsPermutation others (seconds all)
  seconds_are_all (pairs.element {u = u} {below = below} r are) =
      let h = seconds_among are in
      (u ∷ h.0, pairs.element h.1, IsPermutation-cons u h.0 (seconds below) h.2)

  seconds_among : {loose : Bool} {ts us : List Tree} {all : List (Tree × Tree)} → AreAllPaired loose ts us all → (others : List Tree) × AreAllAmong us others × IsPermutation others (seconds all)
  seconds_among pairs.nothing = ([], pairs.nothing, IsPermutation-refl [])
  seconds_among (pairs.next {u = u} before after first later is front one others all) =
      let f = seconds_are_all one in
      let h = seconds_among others in
      let p = among_parts before after h.0 h.1 in
      let behind : AreAllAmong (u ∷ after) (f.0 ++ p.1) = pairs.next f.0 p.1 f.1 p.3 refl in
      let placed : IsPermutation (p.0 ++ (f.0 ++ p.1)) (seconds first ++ seconds later) =
      IsPermutation-trans (p.0 ++ (f.0 ++ p.1)) (f.0 ++ (p.0 ++ p.1)) (seconds first ++ seconds later) (moved_front p.0 f.0 p.1)
      (IsPermutation-append f.0 (seconds first) (p.0 ++ p.1) (seconds later) f.2 (subst (λ xs. IsPermutation xs (seconds later)) p.4 h.2)) in (
        p.0 ++ (f.0 ++ p.1),
        subst (λ xs. AreAllAmong xs (p.0 ++ (f.0 ++ p.1))) (sym is) (among_both before (u ∷ after) p.0 (f.0 ++ p.1) p.2 behind),
        subst (IsPermutation (p.0 ++ (f.0 ++ p.1))) (sym (ap seconds all ∙ map-append (λ p. p.1) first later)) placed,
      )

-- a tree has one list of all its elements
mutual
  pub one_list : {t : Tree} {all others : List Tree} → AreAllOf t all → AreAllOf t others → all ≡ others
  one_list (pairs.element {t = t} among) (pairs.element amid) = ap (λ ts. t ∷ ts) (one_list_among among amid)

  pub one_list_among : {ts all others : List Tree} → AreAllAmong ts all → AreAllAmong ts others → all ≡ others
  one_list_among pairs.nothing pairs.nothing = refl
  one_list_among (pairs.next first later one among is) (pairs.next other_first other_later other amid at) =
      is ∙ ap₂ (λ xs ys. xs ++ ys) (one_list one other) (one_list_among among amid) ∙ sym at

-- the places at which elements begin
abbrev pub places : List Tree → List ℕ
places = map (λ t. (out-Tree t).at)

-- items of which no two are alike in what is made of them are told by that
pub one_made : {A B : Type 0} (f : A → B) (xs : List A) (x y : A) → Distinct (map f xs) → StandsIn xs x → StandsIn xs y → f x ≡ f y → x ≡ y
one_made f [] x y d s k same = absurd (nothing_stands x s)
one_made {A} f (z ∷ xs) x y d s k same =
    ⊎_elim (λ e. ⊎_elim (λ i. e ∙ sym i) (λ later. absurd (apart y later (sym same ∙ ap f e))) (first_or_later z y xs k))
    (λ later. ⊎_elim (λ i. absurd (apart x later (same ∙ ap f i))) (λ both. one_made f xs x y d.1 later both same) (first_or_later z y xs k)) (first_or_later z x xs s)
  where
    lacks : (ws : List A) → Lacks (f z) (map f ws) → (w : A) → StandsIn ws w → f w ≢ f z
    lacks [] l w t = absurd (nothing_stands w t)
    lacks (v ∷ ws) l w t = ⊎_elim (λ e at. l.0 (ap f (sym e) ∙ at)) (λ later. lacks ws l.1 w later) (first_or_later v w ws t)

    apart : (w : A) → StandsIn xs w → f w ≢ f z
    apart = lacks xs d.0

-- two images, one after the other, are one
map_twice : {A B C : Type 0} (f : A → B) (g : B → C) (xs : List A) → map g (map f xs) ≡ map (λ x. g (f x)) xs
map_twice f g [] = refl
map_twice f g (x ∷ xs) = ap (λ ys. g (f x) ∷ ys) (map_twice f g xs)

-- numbers that are not equal are apart by the test
lacks_tested : (x : ℕ) (xs : List ℕ) → Lacks x xs → AllByRecursion (λ y. eqb x y ≡ false) xs
lacks_tested x xs l = each_weaker (λ y h. search (rules, tests)) xs l

-- and the other way round
tested_lacks : (x : ℕ) (xs : List ℕ) → AllByRecursion (λ y. eqb x y ≡ false) xs → Lacks x xs
tested_lacks x xs l = each_weaker (λ y h. search (rules, tests)) xs l

tested : (xs : List ℕ) → Distinct xs → IsDistinct eqb xs
unfolding IsDistinct
tested [] d = tt
tested (x ∷ xs) d = (lacks_tested x xs d.0, tested xs d.1)

from_tested : (xs : List ℕ) → IsDistinct eqb xs → Distinct xs
unfolding IsDistinct
from_tested [] d = tt
from_tested (x ∷ xs) d = (tested_lacks x xs d.0, from_tested xs d.1)

-- numbers of which none stands twice are so in another order too
pub distinct_moved : (xs ys : List ℕ) → IsPermutation xs ys → Distinct xs → Distinct ys
distinct_moved xs ys p d = from_tested ys (IsDistinct-IsPermutation eqb (λ x y. search (rules, tests)) xs ys p (tested xs d))

-- where all elements of the first tree begin at places of their own, two pairs whose first begin at one place are one
pub one_place : {t u : Tree} {all : List (Tree × Tree)} → ArePaired t u all → (elements : List Tree) → AreAllOf t elements → NoneTwice (places elements) → (p q : Tree × Tree) → StandsIn all p
    → StandsIn all q → (out-Tree p.0).at ≡ (out-Tree q.0).at → p ≡ q
one_place {all = all} are elements of once p q s k same =
    one_made (λ (r : Tree × Tree). (out-Tree r.0).at) all p q
    (subst Distinct (ap places (one_list of (firsts_are_all are)) ∙ map_twice (λ (r : Tree × Tree). r.0) (λ t. (out-Tree t).at) all) (distinct (places elements) once)) s k same

-- and where those of the second tree do, two pairs whose second begin at one place
pub one_place_there : {t u : Tree} {all : List (Tree × Tree)} → ArePaired t u all → (elements : List Tree) → AreAllOf u elements → NoneTwice (places elements) → (p q : Tree × Tree)
    → StandsIn all p → StandsIn all q → (out-Tree p.1).at ≡ (out-Tree q.1).at → p ≡ q
one_place_there {all = all} are elements of once p q s k same =
    let o = seconds_are_all are in
    let moved : Distinct (places (seconds all)) =
    distinct_moved (places elements) (places (seconds all))
    (subst (λ xs. IsPermutation (places xs) (places (seconds all))) (one_list o.1 of) (IsPermutation-map (λ t. (out-Tree t).at) o.0 (seconds all) o.2)) (distinct (places elements) once) in
    one_made (λ (r : Tree × Tree). (out-Tree r.1).at) all p q (subst Distinct (map_twice (λ (r : Tree × Tree). r.1) (λ t. (out-Tree t).at) all) moved) s k same

-- elements begin between two places, each after the one before it
abbrev pub Rise : ℕ → ℕ → List Tree → Type 0
Rise first end [] = first ≤ end
Rise first end (t ∷ ts) = (first ≤ (out-Tree t).at) × Rise (suc (out-Tree t).at) end ts

-- they do after an earlier place too
rise_after : (first later end : ℕ) (ts : List Tree) → first ≤ later → Rise later end ts → Rise first end ts
rise_after first later end [] h k = omega arith
rise_after first later end (t ∷ ts) h k = (omega (arith, k.0), k.1)

-- those up to a place, and then those after it
rise_both : (first between end : ℕ) (ts us : List Tree) → Rise first between ts → Rise between end us → Rise first end (ts ++ us)
rise_both first between end [] us h k = rise_after first between end us h k
rise_both first between end (t ∷ ts) us h k = (h.0, rise_both (suc (out-Tree t).at) between end ts us h.1 k)

-- all among some elements are those of the first, and then those of the others
among_first : (t : Tree) (ts all : List Tree) → AreAllAmong (t ∷ ts) all → (first : List Tree) × (later : List Tree) × AreAllOf t first × AreAllAmong ts later × (all ≡ first ++ later)
among_first t ts all (pairs.next first later one others is) = (first, later, one, others, is)

-- all elements of a formed tree rise
mutual
  pub all_rise : {first end : ℕ} {t : Tree} {all : List Tree} → IsFormed first end t → AreAllOf t all → Rise first end all
  all_rise (formed.element h tag apart nodes) (pairs.element among) = (h, among_rise nodes among)

  among_rise : {first end : ℕ} {nodes : List Node} {all : List Tree} → AreFormed first end nodes → AreAllAmong (elements_of nodes) all → Rise first end all
  among_rise {first = first} {end = end} (formed.nothing h) among = subst (Rise first end) (one_list_among pairs.nothing among) h
  among_rise {all = all} (formed.text {bytes = bytes} {nodes = nodes} later) among = among_rise later (subst (λ ts. AreAllAmong ts all) (with_text bytes nodes) among)
  among_rise {first = first} {end = end} {all = all} (formed.child {t = t} {nodes = nodes} between one later) among =
      let k = among_first t (elements_of nodes) all (subst (λ ts. AreAllAmong ts all) (with_element t nodes) among) in
      subst (Rise first end) (sym k.4) (rise_both first between end k.0 k.1 (all_rise one k.2) (among_rise later k.3))

-- what rises after a place lacks what stands before it
rise_lacks : (place first end : ℕ) (ts : List Tree) → suc place ≤ first → Rise first end ts → Lacks place (places ts)
rise_lacks place first end [] low h = tt
rise_lacks place first end (t ∷ ts) low h = (λ e. omega (arith, e, h.0), rise_lacks place (suc (out-Tree t).at) end ts (omega (arith, h.0)) h.1)

-- no place stands twice among those that rise
rise_distinct : (first end : ℕ) (ts : List Tree) → Rise first end ts → Distinct (places ts)
rise_distinct first end [] h = tt
rise_distinct first end (t ∷ ts) h = (rise_lacks (out-Tree t).at (suc (out-Tree t).at) end ts (omega arith) h.1, rise_distinct (suc (out-Tree t).at) end ts h.1)

-- so all elements of a formed tree begin at places of their own
pub own_places : {first end : ℕ} {t : Tree} {all : List Tree} → IsFormed first end t → AreAllOf t all → NoneTwice (places all)
own_places {first = first} {end = end} {all = all} h of = none_twice (places all) (rise_distinct first end all (all_rise h of))

-- so in a formed tree two pairs whose first begin at one place are one
pub formed_place : {first end : ℕ} {t u : Tree} {all : List (Tree × Tree)} → IsFormed first end t → ArePaired t u all → (p q : Tree × Tree) → StandsIn all p → StandsIn all q
    → (out-Tree p.0).at ≡ (out-Tree q.0).at → p ≡ q
formed_place {all = all} h are = let of = firsts_are_all are in one_place are (firsts all) of (own_places h of)

-- and, where the second tree is formed, two whose second do
pub formed_place_there : {first end : ℕ} {t u : Tree} {all : List (Tree × Tree)} → IsFormed first end u → ArePaired t u all → (p q : Tree × Tree) → StandsIn all p → StandsIn all q
    → (out-Tree p.1).at ≡ (out-Tree q.1).at → p ≡ q
formed_place_there h are = let o = seconds_are_all are in one_place_there are o.0 o.1 (own_places h o.1)
