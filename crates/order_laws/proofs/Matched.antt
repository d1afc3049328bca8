-- Children of which each is one of the others, said in another order: what stands among them, how many, and in what order.
use Rattle.std.proofs.Common.{◌≡◌, ℕ, ◌+◌, Bool, true, false, cond, ◌||◌, List, [], ◌∷◌, ◌++◌, map, count_by, Option, Some, None, ⊎_elim, refl, sym, ap, ap₂, subst, ◌∙◌, append_assoc, arith}
use Rattle.std.proofs.lemmas.List.Elements.{filter_map-append}
use Rattle.std.proofs.lemmas.List.Folds.{list_any-append}
use Rattle.std.proofs.lemmas.List.Sums.{sum_by-append, sum_by-cons}
use Rattle.std.specs.Prelude.{codes}
use Rattle.std.specs.List.{cons_option, filter_map, list_any}
use Rattle.odd_text.specs.declared.name.Name.{Name}
use Rattle.odd_text.specs.Standing.{StandsIn}
use Rattle.odd_tree.specs.Elements.{children_of}
use Rattle.odd_tree.specs.declared.tree.Attr.{Attr}
use Rattle.odd_tree.specs.declared.tree.Tree.{Tree}
use Rattle.odd_text.proofs.InList.{first_or_later, nothing_stands}
use Rattle.odd_forms.specs.Listing.{Lists, ListsAmong, is_definition, is_list}
use Rattle.odd_forms.specs.Listing as listing
use Rattle.odd_forms.specs.Names.{is_one_of}
use Rattle.odd_text.specs.Standing.{StandsTwice}
use Rattle.odd_forms.specs.Tags.{Tag, tag_of}
use Rattle.order_laws.specs.Reordered.{AreReordered, IsReordered, SaysTheSame, element, is_loose, next, nothing}
use Rattle.order_laws.proofs.Alike.{same_attrs, same_name, same_one_of}
use Rattle.order_laws.proofs.Shuffled.{AreShuffled, map_shuffled, stands_with, twice_shuffled}

-- Trees that say the same in another order

-- each child of one is a child of the other, said in another order
pub stands_there : {loose : Bool} {ts us : List Tree} (t : Tree) → AreReordered loose ts us → StandsIn ts t → (u : Tree) × StandsIn us u × IsReordered t u
stands_there t nothing s = absurd (nothing_stands t s)
stands_there t (next {t = x} {u = u} {ts = ts} before after e h r rest) s =
    ⊎_elim (λ same. (u, (before, after, e), subst (λ y. IsReordered y u) (sym same) r))
    (λ later. let f = stands_there t rest later in (f.0, subst (λ ys. StandsIn ys f.0) (sym e) (stands_with before after u f.0 f.1), f.2)) (first_or_later x t ts s)

-- with one more in each, which stands first in one
put_in : {loose : Bool} {t u : Tree} {us : List Tree} (before after : List Tree) → (loose ≡ false → before ≡ []) → IsReordered u t → AreReordered loose (before ++ after) us
    → AreReordered loose (before ++ u ∷ after) (t ∷ us)
put_in {us = us} [] after h r rest = next [] us refl (λ _. refl) r rest
put_in {loose} {t} (b ∷ before) after h r (next {u = y} front back e k q rest) =
    next (t ∷ front) back (ap (λ ys. t ∷ ys) e) (λ f. let no : b ∷ before ≡ [] = h f in cc) q (put_in before after (λ f. let no : b ∷ before ≡ [] = h f in cc) r rest)

-- the names of those whose children stand in any order
abbrev pub loose_names : List (List ℕ)
loose_names = codes "schemaSpec" ∷ codes "specGrp" ∷ codes "attList" ∷ codes "classes" ∷ codes "valList" ∷ []

-- a text that is the same is the same the other way round
text_back : (t u : Tree) → is_one_of (codes "altIdent" ∷ []) t ≡ is_one_of (codes "altIdent" ∷ []) u → SaysTheSame t u → SaysTheSame u t
text_back t u same s = λ h. sym (s (same ∙ h))

mutual
  -- what says the same in another order as one does, of that one it is said too
  pub reordered_back : {t u : Tree} → IsReordered t u → IsReordered u t
  reordered_back (element {t = t} {u = u} n a b s c) =
      element (sym n) (sym a) (sym b) (text_back t u (same_one_of (codes "altIdent" ∷ []) (element {t = t} {u = u} n a b s c)) s)
      (subst (λ loose. AreReordered loose (children_of u) (children_of t)) (same_one_of loose_names (element {t = t} {u = u} n a b s c)) (are_reordered_back c))

  -- and of children
  pub are_reordered_back : {loose : Bool} {ts us : List Tree} → AreReordered loose ts us → AreReordered loose us ts
  are_reordered_back nothing = nothing
  are_reordered_back (next {loose = loose} {t = t} {u = u} {ts = ts} before after e h r rest) =
      subst (λ ys. AreReordered loose ys (t ∷ ts)) (sym e) (put_in before after h (reordered_back r) (are_reordered_back rest))

-- and each child of the other is one of the first, of which it is said in another order
pub stands_back : {loose : Bool} {ts us : List Tree} (u : Tree) → AreReordered loose ts us → StandsIn us u → (t : Tree) × StandsIn ts t × IsReordered t u
stands_back u r s = let f = stands_there u (are_reordered_back r) s in (f.0, f.1, reordered_back f.2)

-- children in the same order are so in any
pub in_any_order : {loose : Bool} {ts us : List Tree} → AreReordered loose ts us → AreReordered true ts us
in_any_order nothing = nothing
in_any_order (next before after e h r rest) = next before after e (λ f. cc) r (in_any_order rest)

-- as many of them pass a test that says of a tree what it says of one that says the same
pub same_count : (p : Tree → Bool) → ((t u : Tree) → IsReordered t u → p t ≡ p u) → {loose : Bool} {ts us : List Tree} → AreReordered loose ts us → count_by p ts ≡ count_by p us
same_count p same nothing = refl
same_count p same (next {t = t} {u = u} {ts = ts} before after e h r rest) =
    let one : Tree → ℕ = λ x. cond (p x) 1 0 in
    let there : count_by p (t ∷ ts) ≡ one t + count_by p ts = sum_by-cons one t ts in
    let other : count_by p (u ∷ after) ≡ one u + count_by p after = sum_by-cons one u after in
    let all : count_by p (before ++ u ∷ after) ≡ count_by p before + count_by p (u ∷ after) = sum_by-append one before (u ∷ after) in
    let without : count_by p (before ++ after) ≡ count_by p before + count_by p after = sum_by-append one before after in
    let alike : one t ≡ one u = ap (λ b. cond b 1 0) (same t u r) in
    let later : count_by p ts ≡ count_by p (before ++ after) = same_count p same rest in
    let sums : count_by p (t ∷ ts) ≡ count_by p (before ++ u ∷ after) = omega arith in
    sums ∙ ap (count_by p) (sym e)

-- one passes a test where one of two lists and a first item do, in any order
any_swapped : (a b c : Bool) → (a || (b || c)) ≡ (b || (a || c))
any_swapped true true c = refl
any_swapped true false c = refl
any_swapped false true c = refl
any_swapped false false c = refl

-- and one of them passes it where one of the others does
pub same_any : (p : Tree → Bool) → ((t u : Tree) → IsReordered t u → p t ≡ p u) → {loose : Bool} {ts us : List Tree} → AreReordered loose ts us → list_any p ts ≡ list_any p us
same_any p same nothing = refl
same_any p same (next {t = t} {u = u} {ts = ts} before after e h r rest) =
    ap₂ (λ a b. a || b) (same t u r) (same_any p same rest ∙ list_any-append p before after) ∙ any_swapped (p u) (list_any p before) (list_any p after)
    ∙ sym (ap (list_any p) e ∙ list_any-append p before (u ∷ after))

-- with what a new item gives, or without it
shuffled_with : {X : Type 0} (o : Option X) (xs ys before after : List X) → ys ≡ before ++ cons_option o after → AreShuffled xs (before ++ after) → AreShuffled (cons_option o xs) ys
shuffled_with None xs ys before after e m = subst (AreShuffled xs) (sym e) m
shuffled_with (Some x) xs ys before after e m = AreShuffled.one before after e m

-- what they give is the same, in some order
pub given_shuffled : {X : Type 0} (f : Tree → Option X) → ((t u : Tree) → IsReordered t u → f t ≡ f u) → {loose : Bool} {ts us : List Tree} → AreReordered loose ts us
    → AreShuffled (filter_map f ts) (filter_map f us)
given_shuffled f same nothing = AreShuffled.none
given_shuffled f same (next {t = t} {u = u} {ts = ts} before after e h r rest) =
    let m = subst (AreShuffled (filter_map f ts)) (filter_map-append f before after) (given_shuffled f same rest) in
    shuffled_with (f t) (filter_map f ts) _ (filter_map f before) (filter_map f after)
    (ap (filter_map f) e ∙ filter_map-append f before (u ∷ after) ∙ ap (λ o. filter_map f before ++ cons_option o (filter_map f after)) (sym (same t u r))) m

-- so two that are such are so among what the others give
pub twice_there : {X : Type 0} (f : Tree → Option X) → ((t u : Tree) → IsReordered t u → f t ≡ f u) → (Is : X → Type 0) → {loose : Bool} {ts us : List Tree} → AreReordered loose ts us
    → StandsTwice Is (filter_map f ts) → StandsTwice Is (filter_map f us)
twice_there f same Is r w = twice_shuffled Is (given_shuffled f same r) w

-- and so with what is made of it
pub twice_made_there : {X Y : Type 0} (f : Tree → Option X) → ((t u : Tree) → IsReordered t u → f t ≡ f u) → (g : X → Y) (Is : Y → Type 0) → {loose : Bool} {ts us : List Tree}
    → AreReordered loose ts us → StandsTwice Is (map g (filter_map f ts)) → StandsTwice Is (map g (filter_map f us))
twice_made_there f same g Is r w = twice_shuffled Is (map_shuffled g (given_shuffled f same r)) w

-- the children of two that say the same
pub same_children : {t u : Tree} → IsReordered t u → AreReordered (is_loose t) (children_of t) (children_of u)
same_children (element n a b s c) = c

-- tags of two that say the same are the same
pub same_tag : {t u : Tree} → IsReordered t u → tag_of t ≡ tag_of u
same_tag r = let made : Name → List Attr → Tag = λ name attrs. record { name = name; attrs = attrs } in ap₂ made (same_name r) (same_attrs r)

-- children in the same order: each says the same as the one at its place
pub data InOrder : List Tree → List Tree → Type 0 where
  none : InOrder [] []
  each : {t u : Tree} {ts us : List Tree} → IsReordered t u → InOrder ts us → InOrder (t ∷ ts) (u ∷ us)

pub in_order : {loose : Bool} {ts us : List Tree} → loose ≡ false → AreReordered loose ts us → InOrder ts us
in_order fixed nothing = InOrder.none
in_order fixed (next {t = t} {u = u} {ts = ts} before after is ordered r rest) =
    subst (InOrder (t ∷ ts)) (sym (is ∙ ap (λ b. b ++ u ∷ after) (ordered fixed)))
    (InOrder.each r (subst (InOrder ts) (ap (λ b. b ++ after) (ordered fixed)) (in_order fixed rest)))

-- so their tags are the same
pub tags_there : {ts us : List Tree} → InOrder ts us → map tag_of ts ≡ map tag_of us
tags_there InOrder.none = refl
tags_there (InOrder.each r rest) = ap₂ (λ tag tags. tag ∷ tags) (same_tag r) (tags_there rest)

-- Attributes that an `attList` lists

-- what two lists of children list, the one before the other
listed_parts : (before after : List Tree) {defs : List Tree} → ListsAmong (before ++ after) defs
    → (front : List Tree) × (back : List Tree) × ListsAmong before front × ListsAmong after back × (defs ≡ front ++ back)
listed_parts [] after {defs} l = ([], defs, ListsAmong.nothing, l, refl)
listed_parts (b ∷ before) after (ListsAmong.definition d l) =
    let p = listed_parts before after l in (b ∷ p.0, p.1, ListsAmong.definition d p.2, p.3, ap (λ ys. b ∷ ys) p.4)
listed_parts (b ∷ before) after (ListsAmong.nested {inner = inner} d k i l e) =
    let p = listed_parts before after l in
    (inner ++ p.0, p.1, ListsAmong.nested d k i p.2 refl, p.3, e ∙ ap (λ ys. inner ++ ys) p.4 ∙ sym (append_assoc inner p.0 p.1))
listed_parts (b ∷ before) after (ListsAmong.other d k l) = let p = listed_parts before after l in (p.0, p.1, ListsAmong.other d k p.2, p.3, p.4)

-- and what they list together
listed_together : (before after : List Tree) {front back : List Tree} → ListsAmong before front → ListsAmong after back → ListsAmong (before ++ after) (front ++ back)
listed_together [] after ListsAmong.nothing m = m
listed_together (b ∷ before) after (ListsAmong.definition d l) m = ListsAmong.definition d (listed_together before after l m)
listed_together (b ∷ before) after {back = back} (ListsAmong.nested {inner = inner} {later = later} d k i l e) m =
    ListsAmong.nested d k i (listed_together before after l m) (ap (λ ys. ys ++ back) e ∙ append_assoc inner later back)
listed_together (b ∷ before) after (ListsAmong.other d k l) m = ListsAmong.other d k (listed_together before after l m)

-- with several more in each, which stand first in one
several_in : {inner others ts : List Tree} (front back : List Tree) → AreReordered true inner others → AreReordered true ts (front ++ back)
    → AreReordered true (inner ++ ts) (front ++ (others ++ back))
several_in front back nothing rest = rest
several_in {ts = ts} front back (next {u = u} {ts = inner} before after e h r m) rest =
    next (front ++ before) (after ++ back)
    (ap (λ ys. front ++ (ys ++ back)) e ∙ ap (λ ys. front ++ ys) (append_assoc before (u ∷ after) back) ∙ sym (append_assoc front before (u ∷ (after ++ back)))) (λ f. cc) r
    (subst (AreReordered true (inner ++ ts)) (ap (λ ys. front ++ ys) (append_assoc before after back) ∙ sym (append_assoc front before (after ++ back))) (several_in front back m rest))

mutual
  -- one that says the same lists attributes that say the same, in some order
  pub lists_there : {t u : Tree} {defs : List Tree} → IsReordered t u → Lists t defs → (others : List Tree) × Lists u others × AreReordered true defs others
  lists_there (element n a b s c) (listing.list l) = let f = lists_among c l in (f.0, listing.list f.1, f.2)

  -- and so do children that are matched
  lists_among : {loose : Bool} {ts us defs : List Tree} → AreReordered loose ts us → ListsAmong ts defs → (others : List Tree) × ListsAmong us others × AreReordered true defs others
  lists_among nothing ListsAmong.nothing = ([], ListsAmong.nothing, nothing)
  lists_among (next {t = t} {u = u} before after e h r rest) (ListsAmong.definition {defs = defs} d l) =
      let f = lists_among rest l in
      let p = listed_parts before after f.1 in
      let is : is_definition u ≡ true = sym (same_one_of (codes "attDef" ∷ []) r) ∙ d in (
        p.0 ++ u ∷ p.1,
        subst (λ ys. ListsAmong ys (p.0 ++ u ∷ p.1)) (sym e) (listed_together before (u ∷ after) p.2 (ListsAmong.definition is p.3)),
        next p.0 p.1 refl (λ f. cc) r (subst (AreReordered true defs) p.4 f.2),
      )
  lists_among (next {t = t} {u = u} before after e h r rest) (ListsAmong.nested {inner = inner} {later = later} {defs = defs} d k i l at) =
      let f = lists_among rest l in
      let g = lists_there r i in
      let p = listed_parts before after f.1 in
      let no : is_definition u ≡ false = sym (same_one_of (codes "attDef" ∷ []) r) ∙ d in
      let is : is_list u ≡ true = sym (same_one_of (codes "attList" ∷ []) r) ∙ k in
      let all = p.0 ++ (g.0 ++ p.1) in (
        all,
        subst (λ ys. ListsAmong ys all) (sym e) (listed_together before (u ∷ after) p.2 (ListsAmong.nested no is g.1 p.3 refl)),
        subst (λ ys. AreReordered true ys all) (sym at) (several_in p.0 p.1 g.2 (subst (AreReordered true later) p.4 f.2)),
      )
  lists_among (next {t = t} {u = u} before after e h r rest) (ListsAmong.other {defs = defs} d k l) =
      let f = lists_among rest l in
      let p = listed_parts before after f.1 in
      let no : is_definition u ≡ false = sym (same_one_of (codes "attDef" ∷ []) r) ∙ d in
      let none : is_list u ≡ false = sym (same_one_of (codes "attList" ∷ []) r) ∙ k in (
        p.0 ++ p.1,
        subst (λ ys. ListsAmong ys (p.0 ++ p.1)) (sym e) (listed_together before (u ∷ after) p.2 (ListsAmong.other no none p.3)),
        subst (AreReordered true defs) p.4 f.2,
      )
