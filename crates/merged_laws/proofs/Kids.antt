-- Lists of elements that are made of items, and the trees that show them.
use Rattle.std.proofs.Common.{◌≡◌, List, [], ◌∷◌, ◌++◌, map, Option, Some, refl, sym, ap, ap₂, subst, ◌∙◌, ⊎_elim}
use Rattle.std.specs.List.{cons_option, filter_map}
use Rattle.std.specs.Cmp.{IsTotalOrder}
use Rattle.std.specs.declared.cmp.Ordering.{Ordering}
use Rattle.odd_text.specs.Standing.{StandsIn}
use Rattle.odd_tree.specs.Markup.{Markup}
use Rattle.odd_tree.specs.declared.tree.Tree.{Tree}
use Rattle.odd_text.proofs.InList.{first_or_later, nothing_stands, stands_first, stands_later}
use Rattle.odd_tree.proofs.PrintedTrees.{Shows}
use Rattle.odd_forms.specs.Names.{tei_namespace}
use Rattle.odd_text.specs.Sorted.{AreRising}
use Rattle.odd_text.specs.Standing.{StandsTwice}
use Rattle.odd_forms.specs.Tags.{Tag}
use Rattle.odd_text.proofs.SetOf.{first_below, not_below, rest_rising}
use Rattle.merged_laws.proofs.Told.{AreShown, tag_said}

module _ {A : Type 0} (f : A → Markup) where
  -- each tree shows what one of the items is made into
  pub shown_of : (xs : List A) (ts : List Tree) → AreShown (map f xs) ts → (t : Tree) → StandsIn ts t → (x : A) × StandsIn xs x × Shows tei_namespace [] (f x) t
  shown_of [] [] s t stands = absurd (nothing_stands t stands)
  shown_of [] (u ∷ us) s t stands = absurd s
  shown_of (x ∷ xs) [] s t stands = absurd s
  shown_of (x ∷ xs) (u ∷ us) s t stands =
      ⊎_elim (λ e. (x, stands_first x xs, subst (Shows tei_namespace [] (f x)) (sym e) s.0))
      (λ later. let h = shown_of xs us s.1 t later in (h.0, stands_later x h.0 xs h.1, h.2)) (first_or_later u t us stands)

  -- and each item is shown
  pub shown_for : (xs : List A) (ts : List Tree) → AreShown (map f xs) ts → (x : A) → StandsIn xs x → (t : Tree) × StandsIn ts t × Shows tei_namespace [] (f x) t
  shown_for [] [] s x stands = absurd (nothing_stands x stands)
  shown_for [] (u ∷ us) s x stands = absurd s
  shown_for (y ∷ xs) [] s x stands = absurd s
  shown_for (y ∷ xs) (u ∷ us) s x stands =
      ⊎_elim (λ e. (u, stands_first u us, subst (λ z. Shows tei_namespace [] (f z) u) (sym e) s.0))
      (λ later. let h = shown_for xs us s.1 x later in (h.0, stands_later u h.0 us h.1, h.2)) (first_or_later y x xs stands)

  -- what is told of each tree
  pub items_are : {B : Type 0} (value : Tree → B) (said : A → B) → ((x : A) (t : Tree) → Shows tei_namespace [] (f x) t → value t ≡ said x) → (xs : List A) (ts : List Tree) → AreShown (map f xs) ts → map value ts ≡ map said xs
  items_are value said h [] [] s = refl
  items_are value said h [] (u ∷ us) s = absurd s
  items_are value said h (x ∷ xs) [] s = absurd s
  items_are value said h (x ∷ xs) (u ∷ us) s = ap₂ (λ a b. a ∷ b) (h x u s.0) (items_are value said h xs us s.1)

  -- what is told of the tag of each
  pub tags_give : {B : Type 0} (value : Tag → Option B) (said : A → B) → ((x : A) → value (tag_said (f x)) ≡ Some (said x)) → (xs : List A) → filter_map value (map tag_said (map f xs)) ≡ map said xs
  tags_give value said h [] = refl
  tags_give value said h (x ∷ xs) = ap (λ o. cons_option o (filter_map value (map tag_said (map f xs)))) (h x) ∙ ap (λ ys. said x ∷ ys) (tags_give value said h xs)

-- of items that rise none stands twice
none_between : {A : Type 0} (order : A → A → Ordering) → IsTotalOrder order → (before between after items : List A) (item : A) → AreRising order items → items ≡ before ++ item ∷ (between ++ item ∷ after) → ⊥
none_between order total [] between after items item r e =
    not_below order total item (first_below order total item (between ++ item ∷ after) (subst (AreRising order) e r) item (between, after, refl))
none_between order total (b ∷ bs) between after items item r e =
    none_between order total bs between after (bs ++ item ∷ (between ++ item ∷ after)) item (rest_rising order total b _ (subst (AreRising order) e r)) refl

pub none_twice : {A : Type 0} (order : A → A → Ordering) → IsTotalOrder order → (items : List A) → AreRising order items → (item : A) → StandsTwice (λ x. x ≡ item) items → ⊥
none_twice order total items r item s =
    none_between order total s.before s.between s.after items item r (s.parts ∙ ap₂ (λ x y. s.before ++ x ∷ (s.between ++ y ∷ s.after)) s.first_is s.later_is)
