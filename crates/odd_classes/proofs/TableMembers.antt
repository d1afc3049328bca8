-- The table of the members of classes: what it tells, how many idents it holds, and the elements at places.
use Rattle.std.proofs.Common.{◌≡◌, ◌<◌, ◌≤◌, ◌+◌, ◌-◌, ◌∷◌, drop, suc, ℕ, true, List, [], length, get_or, sym, ap, subst, ◌∙◌, arith, Option, None, Some, refl, ⊎_elim, ◌↔◌, ◌⊎◌, ◌++◌, take, inl, inr}
use Rattle.std.proofs.lemmas.Cmp.{nat_list_cmp_total}
use Rattle.std.proofs.lemmas.List.{drop_more, length-drop}
use Rattle.std.proofs.lemmas.Map.Views.{tells_apart}
use Rattle.std.proofs.lemmas.Option.{same_Some, get_or_from_slice_get, slice_get_within}
use Rattle.std.specs.FinMap.{is_sorted, nat_cmp-IsAntisymmetric, slice_cmp-IsAntisymmetric, find}
use Rattle.std.specs.List.{Contains}
use Rattle.std.specs.Ordering.{eq_by_cmp}
use Rattle.std.specs.Prelude.{IsTrue, slice_get, sum_by}
use Rattle.odd_text.specs.Sorted.{AreRising, IsSet}
use Rattle.odd_graph.proofs.OneMore.{contains_next}
use Rattle.odd_library.specs.Odd.{element_key}
use Rattle.odd_library.specs.declared.library.Component.{Component}
use Rattle.odd_library.specs.declared.library.Component.TheVariants as component
use Rattle.odd_library.specs.declared.library.ElementPart.{ElementPart}
use Rattle.odd_library.specs.declared.library.Library.{Library}
use Rattle.odd_meaning.specs.Classes.{AreMembers, IsElementOf, IsListed, IsModel, Members, class_count, count_at, listed_count, members_count}
use Rattle.odd_meaning.specs.Links.{class_key}
use Rattle.odd_text.specs.Key.{key_cmp}
use Rattle.odd_text.specs.Map.{SetsOnly}
use Rattle.odd_text.specs.Text.{text_cmp}
use Rattle.odd_text.specs.declared.key.Key.{Key}
use Rattle.odd_text.specs.declared.key.Kind.{Kind}
use Rattle.odd_text.specs.declared.key.Kind.TheVariants as kind
use Rattle.odd_text.proofs.InList.{stands_push}
use Rattle.odd_text.specs.Standing.{StandsIn}
use Rattle.odd_classes.proofs.Listed.{part_no_longer, sums_le}
use Rattle.odd_classes.proofs.Places.{IsFilled, filled_more, filled_none, one_place, entry_held, held_at, model_or_not, both_more, none_more}
use Rattle.odd_classes.specs.Listing.{IsModelAt, IsTableOf, AreListed, AreListsOf}
use Rattle.odd_classes.specs.Placing.{IsEntryAt, IsIdentAt}

-- idents that tie are one
pub one_ident : (a b : List ℕ) → eq_by_cmp text_cmp a b ≡ true → a ≡ b
one_ident = tells_apart (slice_cmp-IsAntisymmetric nat_cmp-IsAntisymmetric)

-- what is left of a list from a place on begins with what stands there
pub first_left : {A : Type 0} (xs ys : List A) (i : ℕ) (x d : A) → i ≤ length xs → drop i xs ≡ x ∷ ys → (i < length xs) × (get_or xs i d ≡ x) × (drop (i + 1) xs ≡ ys)
first_left xs ys i x d le is =
    let long : length xs - i ≡ suc (length ys) = sym (length-drop i xs) ∙ ap length is in
    let within : i < length xs = omega (arith, le, long) in
    let begins : get_or xs i d ∷ drop (i + 1) xs ≡ x ∷ ys = sym (drop_more xs i d within) ∙ is in
    (within, cc, cc)

module _ (entries : List (Key × Component)) (lists : List (List (List ℕ))) where
  -- the class stands there, and this is its list
  abbrev pub IsListAt : ℕ → List ℕ → List (List ℕ) → Type 0
  IsListAt place class idents = IsModelAt entries place class × (idents ≡ get_or lists place [])

  -- the table of the classes among the first entries
  abbrev pub IsTableSoFar : ℕ → List (List ℕ × List (List ℕ)) → Type 0
  IsTableSoFar count table = IsFilled text_cmp IsListAt count table

  -- the list of the class at the next place is put
  table_more : IsTrue (is_sorted key_cmp entries) → (i : ℕ) (old new : List (List ℕ × List (List ℕ))) (class ident : List ℕ) (list : List (List ℕ)) → IsTableSoFar i old → IsModelAt entries i class
      → ident ≡ class → list ≡ get_or lists i [] → SetsOnly text_cmp old new ident list → IsTableSoFar (i + 1) new
  table_more up i old new class ident list before model same is sets =
      filled_more text_cmp IsListAt nat_list_cmp_total one_ident i old new ident list before sets (subst (IsModelAt entries i) (sym same) model, is)
      (λ other w a. ap (λ (e : Key × Component). e.0.ident) (same_Some _ _ (sym a.0.here ∙ model.here)) ∙ sym same)
      (λ place w a.
      is ∙ ap (λ p. get_or lists p []) (one_place entries up i place (class_key class) (component.Class model.part) (component.Class a.0.part) model.here (subst (λ c. IsEntryAt entries place (class_key c) (component.Class a.0.part)) same a.0.here)) ∙ sym a.1)

  -- the table of the classes among the first entries, and the lists that are left
  abbrev pub IsMadeSoFar : ℕ → List (List (List ℕ)) → List (List ℕ × List (List ℕ)) → Type 0
  IsMadeSoFar count left table = IsTableSoFar count table × (drop count lists ≡ left) × (count ≤ length lists)

  -- the next list is that of a class, and is put
  pub made_more : IsTrue (is_sorted key_cmp entries) → (i : ℕ) (list : List (List ℕ)) (left : List (List (List ℕ))) (old new : List (List ℕ × List (List ℕ))) (class ident : List ℕ) → IsMadeSoFar i (list ∷ left) old
      → IsModelAt entries i class → ident ≡ class → SetsOnly text_cmp old new ident list → IsMadeSoFar (i + 1) left new
  made_more up i list left old new class ident before model same sets =
      let first = first_left lists left i list [] before.2 before.1 in
      (table_more up i old new class ident list before.0 model same (sym first.1) sets, first.2, omega (arith, first.0))

  -- it is none
  pub made_none : (i : ℕ) (list : List (List ℕ)) (left : List (List (List ℕ))) (table : List (List ℕ × List (List ℕ))) → IsMadeSoFar i (list ∷ left) table → ((class : List ℕ) → IsModelAt entries i class → ⊥)
      → IsMadeSoFar (i + 1) left table
  made_none i list left table before not =
      let first = first_left lists left i list [] before.2 before.1 in
      (filled_none text_cmp IsListAt i table before.0 (λ class idents a. not class a.0), first.2, omega (arith, first.0))

  -- none is left
  pub all_made : (count : ℕ) (left : List (List (List ℕ))) (table : List (List ℕ × List (List ℕ))) → IsMadeSoFar count left table → length left ≡ 0 → IsTableOf entries lists table
  all_made count left table made none =
      let all : count ≡ length lists = omega (arith, length-drop count lists, ap length made.1, none, made.2) in
      subst (λ n. IsTableSoFar n table) all made.0

module _ (library : Library) (up : IsTrue (is_sorted key_cmp library.parts)) (lists : List (List (List ℕ))) where
  -- what stands at a place is of type `model`
  model_is : (place : ℕ) (class : List ℕ) → IsModelAt library.parts place class → IsModel library class
  model_is place class m = record { part = m.part; held = entry_held library.parts up place (class_key class) (component.Class m.part) m.here; gives = m.gives }

  module _ (are : AreListsOf library lists) (table : List (List ℕ × List (List ℕ))) (is : IsTableOf library.parts lists table) where
    -- the table is that of the members
    pub are_members : AreMembers library (λ class. find text_cmp class table)
    are_members class = by (find text_cmp class table) refl
      where
        by : (listed : Option (List (List ℕ))) → find text_cmp class table ≡ listed → IsListed library class listed
        by None e = λ model.
            let at = held_at library.parts (class_key class) (component.Class model.part) model.held in
            let m : IsModelAt library.parts at.0 class = record { part = model.part; here = at.1; gives = model.gives } in
            let inside : at.0 < length lists = subst (λ n. at.0 < n) (sym are.models.of_all) (slice_get_within library.parts at.0 (class_key class, component.Class model.part) at.1) in
            let found = (is class (get_or lists at.0 [])).1 (at.0, inside, (m, refl)) in
            cc
        by (Some idents) e = let s = (is class idents).0 e in (model_is s.0 class s.2.0, subst (IsSet text_cmp (IsElementOf library class)) (sym s.2.1) (are.sets s.0 class s.2.0))

    -- and holds no more idents than the lists
    pub no_more : members_count (λ class. find text_cmp class table) library ≤ sum_by length lists
    no_more = sums_le (class_count (λ class. find text_cmp class table)) length library.parts lists (sym are.models.of_all) (λ i entry list at there. by_kind i entry.0 entry.1 list at there entry.0.kind refl)
      where
        by_list : (i : ℕ) (class : List ℕ) (part : Component) (list : List (List ℕ)) → IsEntryAt library.parts i (class_key class) part → slice_get lists i ≡ Some list
            → (listed : Option (List (List ℕ))) → find text_cmp class table ≡ listed → listed_count listed ≤ length list
        by_list i class part list at there None e = omega arith
        by_list i class part list at there (Some idents) e =
            let s = (is class idents).0 e in
            let same : s.0 ≡ i = one_place library.parts up s.0 i (class_key class) (component.Class s.2.0.part) part s.2.0.here at in
            let one : idents ≡ list = s.2.1 ∙ ap (λ p. get_or lists p []) same ∙ get_or_from_slice_get lists i list [] there in
            omega (arith, ap length one)

        by_kind : (i : ℕ) (key : Key) (part : Component) (list : List (List ℕ)) → IsEntryAt library.parts i key part → slice_get lists i ≡ Some list → (k : Kind) → key.kind ≡ k
            → count_at (λ class. find text_cmp class table) k key.ident ≤ length list
        by_kind i key part list at there kind.Class e = by_list i key.ident part list (at ∙ ap (λ k. Some (record { kind = k; ident = key.ident }, part)) e) there (find text_cmp key.ident table) refl
        by_kind i key part list at there kind.Element e = omega arith
        by_kind i key part list at there kind.Macro e = omega arith
        by_kind i key part list at there kind.Datatype e = omega arith

  -- lists that hold some of the members hold no more than the members are
  pub too_many : AreListed library lists → (members : Members) → AreMembers library members → sum_by length lists ≤ members_count members library
  too_many are members all = sums_le length (class_count members) lists library.parts are.models.of_all by_place
    where
      by_listed : (i : ℕ) (class : List ℕ) → IsModelAt library.parts i class → (list : List (List ℕ)) → get_or lists i [] ≡ list → (listed : Option (List (List ℕ))) → IsListed library class listed → length list ≤ listed_count listed
      by_listed i class m list is None not = absurd (not (model_is i class m))
      by_listed i class m list is (Some idents) one =
          part_no_longer text_cmp nat_list_cmp_total list idents (subst (AreRising text_cmp) is (are.rising i class m)) one.1.rising (λ ident s. one.1.each ident (are.members i class ident m (subst (λ xs. StandsIn xs ident) (sym is) s)))

      by_place : (i : ℕ) (list : List (List ℕ)) (entry : Key × Component) → slice_get lists i ≡ Some list → slice_get library.parts i ≡ Some entry → length list ≤ class_count members entry
      by_place i list entry there at =
          let is : get_or lists i [] ≡ list = get_or_from_slice_get lists i list [] there in
          ⊎_elim
          (λ model.
          let same : (class_key model.0, component.Class model.1.part) ≡ entry = same_Some _ _ (sym model.1.here ∙ at) in
          subst (λ e. length list ≤ class_count members e) same (by_listed i model.0 model.1 list is (members model.0) (all model.0)))
          (λ not. let none : list ≡ [] = sym is ∙ are.models.others i (slice_get_within lists i list there) not in omega (arith, ap length none)) (model_or_not library.parts i)

-- the element stands at the place
abbrev pub IsElementAt : List (Key × Component) → List ℕ → ℕ → Type 0
IsElementAt entries ident place = (part : ElementPart) × IsEntryAt entries place (element_key ident) (component.Element part)

-- the idents are those that stand so at these places
abbrev pub AreThose : (List ℕ → ℕ → Type 0) → List ℕ → List (List ℕ) → Type 0
AreThose StandsAt places idents = (ident : List ℕ) → StandsIn idents ident ↔ ((place : ℕ) × StandsAt ident place × Contains places place)

-- those of the elements there
abbrev pub AreAmong : List (Key × Component) → List ℕ → List (List ℕ) → Type 0
AreAmong entries = AreThose (IsElementAt entries)

-- what is such at the first places is so at the next, or at one before
at_next : (Is : ℕ → Type 0) (places : List ℕ) (i : ℕ) → i < length places
    → ((k : ℕ) × Is k × Contains (take (i + 1) places) k) ↔ (((k : ℕ) × Is k × Contains (take i places) k) ⊎ Is (get_or places i 0))
at_next Is places i within = (
  λ s. ⊎_elim (λ c. inl (s.0, s.1, c)) (λ e. inr (subst Is (sym e) s.1)) ((contains_next places i 0 s.0 within).0 s.2),
  λ h. ⊎_elim (λ s. (s.0, s.1, (contains_next places i 0 s.0 within).1 (inl s.2))) (λ is. (get_or places i 0, is, (contains_next places i 0 (get_or places i 0) within).1 (inr (λ n. get_or places i 0)))) h,
)

module _ (StandsAt : List ℕ → ℕ → Type 0) (places : List ℕ) (i : ℕ) (idents : List (List ℕ)) (before : AreThose StandsAt (take i places) idents) (within : i < length places) where
  -- one ident stands at the next place
  those_more : (here : List ℕ) → ((ident : List ℕ) → StandsAt ident (get_or places i 0) ↔ (here ≡ ident)) → AreThose StandsAt (take (i + 1) places) (idents ++ here ∷ [])
  those_more here one ident = both_more (stands_push idents here ident) (before ident) (at_next (StandsAt ident) places i within) (one ident)

  -- none stands there
  pub those_none : ((ident : List ℕ) → StandsAt ident (get_or places i 0) → ⊥) → AreThose StandsAt (take (i + 1) places) idents
  those_none not ident = none_more (before ident) (at_next (StandsAt ident) places i within) (not ident)

module _ (entries : List (Key × Component)) (places : List ℕ) (i : ℕ) (idents : List (List ℕ)) (within : i < length places) (here : Key × Component) (at : IsEntryAt entries (get_or places i 0) here.0 here.1) where
  -- an element stands there
  pub element_more : AreAmong entries (take i places) idents → (part : ElementPart) → here ≡ (element_key here.0.ident, component.Element part) → AreAmong entries (take (i + 1) places) (idents ++ here.0.ident ∷ [])
  element_more before part element = those_more (IsElementAt entries) places i idents before within here.0.ident (λ ident. (
    λ m. ap (λ (e : Key × Component). e.0.ident) (same_Some _ _ (sym at ∙ m.1)),
    λ e. (part, at ∙ ap Some (element ∙ ap (λ x. (element_key x, component.Element part)) e)),
  ))

  -- any entry stands there
  pub entry_more : AreThose (IsIdentAt entries) (take i places) idents → AreThose (IsIdentAt entries) (take (i + 1) places) (idents ++ here.0.ident ∷ [])
  entry_more before = those_more (IsIdentAt entries) places i idents before within here.0.ident (λ ident. (
    λ m. ap (λ (e : Key × Component). e.0.ident) (same_Some _ _ (sym at ∙ m.1.1)) ∙ m.2,
    λ e. (here.0, (here.1, at), e),
  ))
