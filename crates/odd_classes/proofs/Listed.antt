-- The lists of the members of classes, filled element by element in rising order.
use Rattle.std.proofs.Common.{◌≡◌, ◌≤◌, ℕ, suc, List, [], ◌∷◌, ◌++◌, Some, length, ⊎_elim, refl, sym, subst, ◌∙◌, arith, ◌↔◌, ◌⊎◌, ◌<◌, ◌+◌, get_or, replicate, inl, inr, ap, set, take, drop}
use Rattle.std.proofs.lemmas.Bool.Decides.{eqb_tells}
use Rattle.std.proofs.lemmas.Cmp.{nat_list_cmp_total}
use Rattle.std.proofs.lemmas.List.{get_or-replicate, length-replicate, drop_more, length-set, take-append-drop}
use Rattle.std.proofs.lemmas.List.Folds.{sum_by-replicate}
use Rattle.std.proofs.lemmas.List.Sums.{sum_by-cons}
use Rattle.std.proofs.lemmas.Option.{same_Some, slice_get_within}
use Rattle.std.specs.Cmp.{IsTotalOrder}
use Rattle.std.specs.FinMap.{is_sorted}
use Rattle.std.specs.List.{Contains}
use Rattle.std.specs.Prelude.{slice_get, sum_by, IsTrue}
use Rattle.std.specs.declared.cmp.Ordering.{Ordering}
use Rattle.std.specs.declared.cmp.Ordering.TheVariants.{Less}
use Rattle.odd_text.proofs.SetOf.{first_below, not_below, rest_rising, none_rising, rising_more}
use Rattle.odd_text.specs.Sorted.{AreRising, IsSet}
use Rattle.odd_graph.proofs.OneMore.{contains_next, stands_at}
use Rattle.odd_graph.specs.Graph.{Leads, StandOnce}
use Rattle.odd_library.specs.Odd.{element_key}
use Rattle.odd_library.specs.declared.library.Component.{Component}
use Rattle.odd_library.specs.declared.library.Component.TheVariants as component
use Rattle.odd_library.specs.declared.library.ElementPart.{ElementPart}
use Rattle.odd_library.specs.declared.library.Library.{Library}
use Rattle.odd_meaning.specs.Classes.{IsElementOf}
use Rattle.odd_meaning.specs.Links.{class_key, classes_of}
use Rattle.odd_text.specs.Key.{key_cmp}
use Rattle.odd_text.specs.Text.{text_cmp}
use Rattle.odd_text.specs.declared.key.Key.{Key}
use Rattle.odd_text.proofs.InList.{first_or_later, nothing_stands, stands_first, stands_later, stands_push}
use Rattle.odd_text.specs.Standing.{StandsIn}
use Rattle.odd_classes.proofs.Linked.{no_set, set_same, chains_agree}
use Rattle.odd_classes.proofs.Places.{places_rise, entry_held, held_at}
use Rattle.odd_classes.specs.Listing.{AreModelLists, HasListed, IsListedBefore, IsModelAt, IsModelAmong, AreListed, AreListsOf}
use Rattle.odd_classes.specs.Placing.{IsEntryAt, IsGraphOf}

module _ {A : Type 0} (order : A → A → Ordering) where
  module _ (total : IsTotalOrder order) where
    -- an item more that is above all of a list that rises
    pub last_rises : (xs : List A) (y : A) → ((x : A) → StandsIn xs x → order x y ≡ Less) → AreRising order xs → AreRising order (xs ++ y ∷ [])
    last_rises [] y above r = rising_more order y [] (λ z s. absurd (nothing_stands z s)) (none_rising order)
    last_rises (x ∷ xs) y above r =
        rising_more order x (xs ++ y ∷ []) (λ z s. ⊎_elim (first_below order total x xs r z) (λ e. subst (λ w. order x w ≡ Less) e (above x (stands_first x xs))) ((stands_push xs y z).0 s))
        (last_rises xs y (λ z s. above z (stands_later x z xs s)) (rest_rising order total x xs r))

    -- of two lists that rise the one that is part of the other is no longer
    pub part_no_longer : (xs ys : List A) → AreRising order xs → AreRising order ys → ((x : A) → StandsIn xs x → StandsIn ys x) → length xs ≤ length ys
    part_no_longer [] ys r q all = omega arith
    part_no_longer (x ∷ xs) [] r q all = absurd (nothing_stands x (all x (stands_first x xs)))
    part_no_longer (x ∷ xs) (y ∷ ys) r q all =
        let above : (z : A) → StandsIn xs z → order x z ≡ Less = first_below order total x xs r in
        let rest : AreRising order xs = rest_rising order total x xs r in
        ⊎_elim
        (λ same. let more = part_no_longer xs ys rest (rest_rising order total y ys q)
        (λ z s. ⊎_elim (λ e. absurd (not_below order total x (subst (λ w. order x w ≡ Less) (e ∙ sym same) (above z s)))) (λ t. t) (first_or_later y z ys (all z (stands_later x z xs s)))) in
        omega arith)
        (λ later. let less = first_below order total y ys q x later in
        let more = part_no_longer (x ∷ xs) ys r (rest_rising order total y ys q) (λ z s. ⊎_elim (λ e. absurd (lower z s (sym e) less)) (λ t. t) (first_or_later y z ys (all z s))) in
        omega arith)
        (first_or_later y x ys (all x (stands_first x xs)))
      where
        lower : (z : A) → StandsIn (x ∷ xs) z → y ≡ z → order y x ≡ Less → ⊥
        lower z s e less =
            ⊎_elim (λ same. not_below order total x (subst (λ w. order w x ≡ Less) (e ∙ same) less))
            (λ later. not_below order total x (total.trans x z x (first_below order total x xs r z later) (subst (λ w. order w x ≡ Less) e less))) (first_or_later x z xs s)

-- a sum is no more than another, place by place
pub sums_le : {A B : Type 0} (f : A → ℕ) (g : B → ℕ) (xs : List A) (ys : List B) → length xs ≡ length ys → ((i : ℕ) (x : A) (y : B) → slice_get xs i ≡ Some x → slice_get ys i ≡ Some y → f x ≤ g y) → sum_by f xs ≤ sum_by g ys
sums_le f g [] ys same le = omega arith
sums_le f g (x ∷ xs) [] same le = absurd (omega (arith, same))
sums_le f g (x ∷ xs) (y ∷ ys) same le =
    let first = le 0 x y refl refl in
    let rest = sums_le f g xs ys (omega (arith, same)) (λ i a b p q. le (suc i) a b p q) in
    omega (arith, first, rest, sum_by-cons f x xs, sum_by-cons g y ys)

-- the lists after the elements among the first entries
pub record ListedSoFar (entries : List (Key × Component)) (arrows : List (List ℕ)) (count : ℕ) (lists : List (List (List ℕ))) : Type 0 where
  pub models : AreModelLists entries lists
  pub sets : (place : ℕ) (class : List ℕ) → IsModelAt entries place class → IsSet text_cmp (IsListedBefore entries arrows count place) (get_or lists place [])

-- where a class stands
pub model_within : (entries : List (Key × Component)) (place : ℕ) (class : List ℕ) → IsModelAt entries place class → place < length entries
model_within entries place class m = slice_get_within entries place (class_key class, component.Class m.part) m.here

-- after none each list is empty
pub none_listed : (entries : List (Key × Component)) (arrows : List (List ℕ)) (lists : List (List (List ℕ))) → lists ≡ replicate (length entries) [] → ListedSoFar entries arrows 0 lists × (sum_by length lists ≡ 0)
none_listed entries arrows lists are = (so_far, ap (sum_by length) are ∙ sum_by-replicate length (length entries) [] ∙ omega arith)
  where
    many : length lists ≡ length entries
    many = ap length are ∙ length-replicate (length entries) []

    empty : (place : ℕ) → place < length entries → get_or lists place [] ≡ []
    empty place less = ap (λ ls. get_or ls place []) are ∙ get_or-replicate (length entries) place [] [] less

    so_far : ListedSoFar entries arrows 0 lists
    so_far = record {
      models = record { of_all = many; others = λ place less not. empty place (subst (λ n. place < n) many less) };
      sets = λ place class m. no_set text_cmp _ _ (empty place (model_within entries place class m)) (λ ident l. omega (arith, l.4));
    }

module _ (entries : List (Key × Component)) (arrows : List (List ℕ)) (i : ℕ) where
  -- the element at the next place leads to this one
  abbrev IsListedNext : ℕ → List ℕ → Type 0
  IsListedNext place ident = (part : ElementPart) × IsEntryAt entries i (element_key ident) (component.Element part) × Leads arrows i place

  -- what is listed by the next place is so before, or by the element there
  next_listed : (place : ℕ) (ident : List ℕ) → IsListedBefore entries arrows (i + 1) place ident ↔ (IsListedBefore entries arrows i place ident ⊎ IsListedNext place ident)
  next_listed place ident = (
    λ l. ⊎_elim
        (λ same. inr (subst (λ from. (part : ElementPart) × IsEntryAt entries from (element_key ident) (component.Element part) × Leads arrows from place) (sym same.1) (l.1, l.2, l.3)))
        (λ other. inl (l.0, l.1, l.2, l.3, omega (arith, other.1, l.4))) (eqb_tells i l.0),
    λ h. ⊎_elim (λ l. (l.0, l.1, l.2, l.3, omega (arith, l.4))) (λ l. (i, l.0, l.1, l.2, omega arith)) h,
  )

  module _ (lists : List (List (List ℕ))) (before : ListedSoFar entries arrows i lists) where
    -- what is listed where nothing more is
    same_listed : (place : ℕ) (class : List ℕ) → IsModelAt entries place class → ((ident : List ℕ) → IsListedNext place ident → ⊥) → IsSet text_cmp (IsListedBefore entries arrows (i + 1) place) (get_or lists place [])
    same_listed place class m not =
        set_same text_cmp _ _ _ (λ ident. (λ l. (next_listed place ident).1 (inl l), λ l. ⊎_elim (λ b. b) (λ n. absurd (not ident n)) ((next_listed place ident).0 l))) (before.sets place class m)

    -- no element stands there
    pub none_more : ((ident : List ℕ) (part : ElementPart) → IsEntryAt entries i (element_key ident) (component.Element part) → ⊥) → ListedSoFar entries arrows (i + 1) lists
    none_more not = record { models = before.models; sets = λ place class m. same_listed place class m (λ ident n. not ident n.0 n.1) }

    -- the entry there is an element
    module _ (up : IsTrue (is_sorted key_cmp entries)) (entry : Key × Component) (there : IsEntryAt entries i entry.0 entry.1)
        (element : (part : ElementPart) × (entry ≡ (element_key entry.0.ident, component.Element part))) where
      abbrev x : List ℕ
      x = entry.0.ident

      abbrev part : ElementPart
      part = element.0

      at : IsEntryAt entries i (element_key x) (component.Element part)
      at = there ∙ ap Some element.1

      -- its ident is above those of the elements before
      above : (place : ℕ) (ident : List ℕ) → IsListedBefore entries arrows i place ident → text_cmp ident x ≡ Less
      above place ident l = places_rise entries up l.0 i (element_key ident) (element_key x) (component.Element l.1) (component.Element part) l.4 l.2 at

      -- a list with it
      with_it : (place : ℕ) (class : List ℕ) → IsModelAt entries place class → Leads arrows i place → IsSet text_cmp (IsListedBefore entries arrows (i + 1) place) (get_or lists place [] ++ x ∷ [])
      with_it place class m leads = record {
        rising = last_rises text_cmp nat_list_cmp_total (get_or lists place []) x (λ ident s. above place ident (set.none_else ident s)) set.rising;
        none_else = λ ident s. (next_listed place ident).1 (⊎_elim (λ t. inl (set.none_else ident t)) (λ e. inr (part, subst (λ y. IsEntryAt entries i (element_key y) (component.Element part)) e at, leads)) ((stands_push (get_or lists place []) x ident).0 s));
        each = λ ident l. (stands_push (get_or lists place []) x ident).1 (⊎_elim (λ b. inl (set.each ident b)) (λ n. inr (ap (λ (e : Key × Component). e.0.ident) (same_Some _ _ (sym at ∙ n.1)))) ((next_listed place ident).0 l));
      }
        where
          set : IsSet text_cmp (IsListedBefore entries arrows i place) (get_or lists place [])
          set = before.sets place class m

      -- the lists with it
      pub element_more : (classes : List ℕ) (made : List (List (List ℕ))) → ((node : ℕ) → Contains classes node ↔ Leads arrows i node) → HasListed entries classes x lists made → ListedSoFar entries arrows (i + 1) made
      element_more classes made are has = record {
        models = record {
          of_all = has.same ∙ before.models.of_all;
          others = λ place less not.
              let inside = subst (λ n. place < n) has.same less in
              ⊎_elim (λ h. absurd (not h.0.1.0 h.0.1.1)) (λ h. h.1 ∙ before.models.others place inside not) (has.each place inside);
        };
        sets = λ place class m.
            let inside = subst (λ n. place < n) (sym before.models.of_all) (model_within entries place class m) in
            ⊎_elim (λ h. subst (IsSet text_cmp (IsListedBefore entries arrows (i + 1) place)) (sym h.1) (with_it place class m ((are place).0 h.0.0)))
            (λ h. subst (IsSet text_cmp (IsListedBefore entries arrows (i + 1) place)) (sym h.1) (same_listed place class m (λ ident n. h.0 ((are place).1 n.2, (class, m))))) (has.each place inside);
      }

module _ (entries : List (Key × Component)) (places : List ℕ) (once : StandOnce places) (ident : List ℕ) (lists made : List (List (List ℕ))) (i : ℕ) (within : i < length places)
    (before : HasListed entries (take i places) ident lists made) where
  -- the next place was not among the first
  fresh : Contains (take i places) (get_or places i 0) → ⊥
  fresh = once (take i places) (drop (i + 1) places) (get_or places i 0) (sym (take-append-drop i places) ∙ ap (λ ys. take i places ++ ys) (drop_more places i 0 within))

  -- a class is among the first and the next as among the first, where it is not at the next
  among : (p : ℕ) → (get_or places i 0 ≡ p → (class : List ℕ) → IsModelAt entries p class → ⊥) → IsModelAmong entries (take (i + 1) places) p → IsModelAmong entries (take i places) p
  among p not m = (⊎_elim (λ c. c) (λ e. absurd (not e m.1.0 m.1.1)) ((contains_next places i 0 p within).0 m.0), m.1)

  -- a place at which nothing changes
  kept : (p : ℕ) (lists made : List (List (List ℕ))) → (get_or places i 0 ≡ p → (class : List ℕ) → IsModelAt entries p class → ⊥)
      → (IsModelAmong entries (take i places) p × (get_or made p [] ≡ get_or lists p [] ++ ident ∷ [])) ⊎ ((IsModelAmong entries (take i places) p → ⊥) × (get_or made p [] ≡ get_or lists p []))
      → (IsModelAmong entries (take (i + 1) places) p × (get_or made p [] ≡ get_or lists p [] ++ ident ∷ [])) ⊎ ((IsModelAmong entries (take (i + 1) places) p → ⊥) × (get_or made p [] ≡ get_or lists p []))
  kept p lists made not = ⊎_elim (λ m. inl (((contains_next places i 0 p within).1 (inl m.0.0), m.0.1), m.1)) (λ m. inr (λ am. m.0 (among p not am), m.1))

  -- no class of type `model` with a list stands at the next place
  pub each_none : ((class : List ℕ) → get_or places i 0 < length lists → IsModelAt entries (get_or places i 0) class → ⊥) → HasListed entries (take (i + 1) places) ident lists made
  each_none not = record {
    same = before.same;
    each = λ p less. kept p lists made (λ e class m. not class (subst (λ q. q < length lists) (sym e) less) (subst (λ q. IsModelAt entries q class) (sym e) m)) (before.each p less);
  }

  -- one stands there
  pub each_more : (class : List ℕ) → IsModelAt entries (get_or places i 0) class → get_or places i 0 < length made
      → HasListed entries (take (i + 1) places) ident lists (set made (get_or places i 0) (get_or made (get_or places i 0) [] ++ ident ∷ []))
  each_more class model inside = record { same = length-set made (get_or places i 0) new ∙ before.same; each = each }
    where
      new : List (List ℕ)
      new = get_or made (get_or places i 0) [] ++ ident ∷ []

      unchanged : get_or places i 0 < length lists → get_or made (get_or places i 0) [] ≡ get_or lists (get_or places i 0) []
      unchanged less = ⊎_elim (λ m. absurd (fresh m.0.0)) (λ m. m.1) (before.each (get_or places i 0) less)

      each : (p : ℕ) → p < length lists
          → (IsModelAmong entries (take (i + 1) places) p × (get_or (set made (get_or places i 0) new) p [] ≡ get_or lists p [] ++ ident ∷ []))
          ⊎ ((IsModelAmong entries (take (i + 1) places) p → ⊥) × (get_or (set made (get_or places i 0) new) p [] ≡ get_or lists p []))
      each p less =
          ⊎_elim
          (λ at. inl (
            ((contains_next places i 0 p within).1 (inr at.0), (class, subst (λ q. IsModelAt entries q class) at.0 model)),
            at.1 ∙ ap (λ xs. xs ++ ident ∷ []) (unchanged (subst (λ q. q < length lists) (sym at.0) less) ∙ ap (λ q. get_or lists q []) at.0),
          ))
          (λ at. kept p lists (set made (get_or places i 0) new) (λ e. absurd (at.0 e)) (subst (λ xs. (IsModelAmong entries (take i places) p × (xs ≡ get_or lists p [] ++ ident ∷ [])) ⊎ ((IsModelAmong entries (take i places) p → ⊥) × (xs ≡ get_or lists p []))) (sym at.1) (before.each p less)))
          (stands_at made (get_or places i 0) new [] inside p)

module _ (library : Library) (up : IsTrue (is_sorted key_cmp library.parts)) (arrows : List (List ℕ)) (graph : IsGraphOf classes_of library.parts arrows) (count : ℕ) (lists : List (List (List ℕ)))
    (made : ListedSoFar library.parts arrows count lists) where
  -- what is listed is a member
  listed_is : (place : ℕ) (class ident : List ℕ) → IsModelAt library.parts place class → IsListedBefore library.parts arrows count place ident → IsElementOf library class ident
  listed_is place class ident m l = record {
    part = l.1;
    held = entry_held library.parts up l.0 (element_key ident) (component.Element l.1) l.2;
    member = (chains_agree classes_of library up arrows graph l.0 place (element_key ident) (class_key class) (component.Element l.1, l.2) (component.Class m.part, m.here)).0 l.3;
  }

  -- so the lists hold some of the members
  pub are_listed : AreListed library lists
  are_listed = record {
    models = made.models;
    rising = λ place class m. (made.sets place class m).rising;
    members = λ place class ident m s. listed_is place class ident m ((made.sets place class m).none_else ident s);
  }

  -- and at the end all
  pub all_listed : length library.parts ≤ count → AreListsOf library lists
  all_listed end = record {
    models = made.models;
    sets = λ place class m. set_same text_cmp _ _ _ (λ ident. (λ l. listed_is place class ident m l, λ e. listed place class ident m e)) (made.sets place class m);
  }
    where
      listed : (place : ℕ) (class ident : List ℕ) → IsModelAt library.parts place class → IsElementOf library class ident → IsListedBefore library.parts arrows count place ident
      listed place class ident m e =
          let at = held_at library.parts (element_key ident) (component.Element e.part) e.held in
          let inside : at.0 < length library.parts = slice_get_within library.parts at.0 (element_key ident, component.Element e.part) at.1 in
          (at.0, e.part, at.1, (chains_agree classes_of library up arrows graph at.0 place (element_key ident) (class_key class) (component.Element e.part, at.1) (component.Class m.part, m.here)).1 e.member, omega (arith, inside, end))
