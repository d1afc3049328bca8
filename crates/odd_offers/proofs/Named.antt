-- Attributes of which two have one name in documents.
use Rattle.std.proofs.Common.{◌≡◌, ◌≢◌, ◌↔◌, ℕ, List, [], ◌∷◌, ◌++◌, Some, T, cond, map, refl, sym, ap, subst, ◌∙◌, append_assoc}
use Rattle.std.proofs.lemmas.Cmp.{nat_list_cmp_total}
use Rattle.std.proofs.lemmas.List.{map-append}
use Rattle.std.specs.Cmp.{tied_itself}
use Rattle.std.specs.FinMap.{find, is_sorted, slice_cmp-IsAntisymmetric, nat_cmp-IsAntisymmetric}
use Rattle.std.specs.FinMap.Entries.{below_all}
use Rattle.std.specs.Ordering.{is_eq, ordering_reverse}
use Rattle.std.specs.declared.cmp.Ordering.TheVariants.{Equal, Less}
use Rattle.odd_text.proofs.Entries.{as_T, first as first_T, found_contained, is_less, second as second_T}
use Rattle.odd_text.specs.Text.{text_cmp}
use Rattle.odd_text.specs.declared.name.Name.{Name}
use Rattle.odd_text.specs.Standing.{StandsIn}
use Rattle.odd_text.proofs.InList.{Stands, map_stands, standing, stands_around}
use Rattle.odd_forms.proofs.Children.{twice_with}
use Rattle.odd_text.specs.Standing.{StandsTwice}
use Rattle.odd_library.specs.declared.library.Library.{Library}
use Rattle.odd_meaning.specs.Naming.{attribute_name}
use Rattle.odd_meaning.specs.Offering.{giver_key}
use Rattle.odd_meaning.specs.Rules.{SharesName}
use Rattle.odd_offers.specs.Answers.{AreGivensOf}
use Rattle.odd_offers.specs.Names.{IsNamedTwice, names_of}
use Rattle.odd_offers.specs.declared.given.Given.{Given}

-- a list is cut where what is made of it is
pub cut_map : {A B : Type 0} (f : A → B) (xs : List A) (ys zs : List B) (y : B) → map f xs ≡ ys ++ y ∷ zs
    → (before : List A) × (x : A) × (after : List A) × (xs ≡ before ++ x ∷ after) × (map f before ≡ ys) × (f x ≡ y) × (map f after ≡ zs)
cut_map f [] [] zs y e = cc
cut_map f [] (z ∷ ys) zs y e = cc
cut_map f (x ∷ xs) [] zs y e = ([], x, xs, refl, refl, first _ _ _ _ e, rest _ _ _ _ e)
  where
    first : {A : Type 0} (a b : A) (ks ls : List A) → a ∷ ks ≡ b ∷ ls → a ≡ b
    first a b ks ls h = cc

    rest : {A : Type 0} (a b : A) (ks ls : List A) → a ∷ ks ≡ b ∷ ls → ks ≡ ls
    rest a b ks ls h = cc
cut_map f (x ∷ xs) (z ∷ ys) zs y e =
    let r = cut_map f xs ys zs y (cc) in
    (x ∷ r.0, r.1, r.2, ap (λ ks. x ∷ ks) r.3, cc, r.5, r.6)

-- what is below all is below each
below_in : {V : Type 0} (k : List ℕ) (before after : List (List ℕ × V)) (e : List ℕ × V) → T (below_all text_cmp k (before ++ e ∷ after)) → text_cmp k e.0 ≡ Less
below_in k [] after e h = is_less (text_cmp k e.0) (first_T _ _ h)
below_in k (x ∷ before) after e h = below_in k before after e (second_T _ _ h)

-- the keys of two entries rise
pub rise_in : {V : Type 0} (before between after : List (List ℕ × V)) (e f : List ℕ × V) → T (is_sorted text_cmp (before ++ e ∷ (between ++ f ∷ after))) → text_cmp e.0 f.0 ≡ Less
rise_in [] between after e f h = below_in e.0 between after f (first_T _ _ h)
rise_in (x ∷ before) between after e f h = rise_in before between after e f (second_T _ _ h)

-- an entry is found at its key
pub found_in : {V : Type 0} (before after : List (List ℕ × V)) (e : List ℕ × V) → T (is_sorted text_cmp (before ++ e ∷ after)) → find text_cmp e.0 (before ++ e ∷ after) ≡ Some e.1
found_in [] after e h = ap (λ o. cond (is_eq o) (Some e.1) (find text_cmp e.0 after)) (tied_itself nat_list_cmp_total e.0)
found_in (x ∷ before) after e h =
    let less = below_in x.0 before after e (first_T _ _ h) in
    let turned = nat_list_cmp_total.antisymm e.0 x.0 ∙ ap ordering_reverse less in
    ap (λ o. cond (is_eq o) (Some x.1) (find text_cmp e.0 (before ++ e ∷ after))) turned ∙ found_in before after e (second_T _ _ h)

-- what is made of one of two items in a list, where they are alike, stands twice
alike_twice : {A B : Type 0} (f : A → B) (xs : List A) (x y : A) → StandsIn xs x → StandsIn xs y → x ≢ y → f x ≡ f y → StandsTwice (λ z. z ≡ f y) (map f xs)
alike_twice f xs x y s t apart same =
    elim (stands_around s.0 x s.1 t.0 y t.1 (sym s.2 ∙ t.2)) [
      | Stands.before c h ↦
          let once = map_stands f s.0 y (t.0, c, h) in
          subst (StandsTwice (λ z. z ≡ f y)) (sym (ap (map f) s.2 ∙ map-append f s.0 (x ∷ s.1))) (twice_with (λ z. z ≡ f y) (map f s.0) (map f s.1) (f x) (f y, once, refl) same)
      | Stands.here a b ↦ absurd (apart b)
      | Stands.after c h ↦
          let cut = s.0 ++ x ∷ c in
          let once = map_stands f cut x (s.0, c, refl) in
          let parts : xs ≡ cut ++ y ∷ t.1 = s.2 ∙ ap (λ ks. s.0 ++ x ∷ ks) h ∙ sym (append_assoc s.0 (x ∷ c) (y ∷ t.1)) in
          subst (StandsTwice (λ z. z ≡ f y)) (sym (ap (map f) parts ∙ map-append f cut (y ∷ t.1))) (twice_with (λ z. z ≡ f y) (map f cut) (map f t.1) (f y) (f x, once, same) refl)
    ]

-- the name of an entry
abbrev name_of : List ℕ × Given → Name
name_of e = attribute_name e.0 e.1.def

-- two names are one exactly where the element has two attributes with one name
pub names_shared : (library : Library) (element : List ℕ) (givens : List (List ℕ × Given)) → AreGivensOf library element givens → IsNamedTwice (names_of givens) ↔ SharesName library element
names_shared library element givens are = (
  λ w.
      let s = w.1 in
      let up = as_T _ are.rising in
      let one = cut_map name_of givens s.before (s.between ++ s.later ∷ s.after) s.first s.parts in
      let other = cut_map name_of one.2 s.between s.after s.later one.6 in
      let whole : givens ≡ one.0 ++ one.1 ∷ (other.0 ++ other.1 ∷ other.2) = one.3 ∙ ap (λ ks. one.0 ++ one.1 ∷ ks) other.3 in
      let rising = subst (λ es. T (is_sorted text_cmp es)) whole up in
      let first_found = subst (λ es. find text_cmp one.1.0 es ≡ Some one.1.1) (sym one.3) (found_in one.0 one.2 one.1 (subst (λ es. T (is_sorted text_cmp es)) one.3 up)) in
      let later : givens ≡ (one.0 ++ one.1 ∷ other.0) ++ other.1 ∷ other.2 = whole ∙ sym (append_assoc one.0 (one.1 ∷ other.0) (other.1 ∷ other.2)) in
      let later_found =
      subst (λ es. find text_cmp other.1.0 es ≡ Some other.1.1) (sym later) (found_in (one.0 ++ one.1 ∷ other.0) other.2 other.1 (subst (λ es. T (is_sorted text_cmp es)) later up)) in
      let less = rise_in one.0 other.0 other.2 one.1 other.1 rising in
      record {
        one = one.1.0;
        other = other.1.0;
        def = one.1.1.def;
        other_def = other.1.1.def;
        giver = giver_key element one.1.1.giver;
        other_giver = giver_key element other.1.1.giver;
        offered = ((are.each one.1.0 one.1.1).0 first_found).offered;
        other_offered = ((are.each other.1.0 other.1.1).0 later_found).offered;
        apart = λ same. let tied = subst (λ k. text_cmp one.1.0 k ≡ Equal) same (tied_itself nat_list_cmp_total one.1.0) in cc;
        same = one.5 ∙ s.first_is ∙ sym (other.5 ∙ s.later_is);
      },
  λ s.
      let one = are.all s.one s.def s.giver s.offered in
      let other = are.all s.other s.other_def s.other_giver s.other_offered in
      let first = found_stands s.one one.0 one.1 in
      let later = found_stands s.other other.0 other.1 in (
        name_of (s.other, other.0),
        alike_twice name_of givens (s.one, one.0) (s.other, other.0) first later (λ e. s.apart (ap (λ (p : List ℕ × Given). p.0) e))
            (ap (attribute_name s.one) one.2 ∙ s.same ∙ sym (ap (attribute_name s.other) other.2)),
      ),
)
  where
    found_stands : (ident : List ℕ) (given : Given) → find text_cmp ident givens ≡ Some given → StandsIn givens (ident, given)
    found_stands ident given h = standing givens (ident, given) (found_contained text_cmp nat_list_cmp_total (slice_cmp-IsAntisymmetric nat_cmp-IsAntisymmetric) ident given givens h)
