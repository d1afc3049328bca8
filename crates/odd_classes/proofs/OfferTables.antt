-- What is answered of each element of a library: by places, filled while its entries are gone through; and what they offer, by ident.
use Rattle.std.proofs.Common.{◌≡◌, ◌<◌, ◌≤◌, ◌+◌, ◌⊎◌, inl, inr, ⊎_elim, ℕ, List, ◌∷◌, Option, None, Some, MatchOption, refl, sym, ap, subst, ◌∙◌, arith}
use Rattle.std.proofs.Common.{drop, take, length, get_or, set, slice_get}
use Rattle.std.proofs.Math.ListN.{length-set}
use Rattle.std.proofs.lemmas.Cmp.{nat_list_cmp_total}
use Rattle.std.proofs.lemmas.List.{length-drop, take_all}
use Rattle.std.proofs.lemmas.Option.{get_or_from_slice_get, same_Some, slice_get-get_or, slice_get_within}
use Rattle.std.specs.FinMap.{find, is_sorted}
use Rattle.std.specs.List.{Contains}
use Rattle.std.specs.Prelude.{IsTrue}
use Rattle.odd_graph.proofs.OneMore.{contains_next}
use Rattle.odd_library.specs.Odd.{element_key}
use Rattle.odd_library.specs.declared.library.Component.{Component}
use Rattle.odd_library.specs.declared.library.Library.{Library}
use Rattle.odd_meaning.specs.Rules.{Breaks, Contradicts, SharesName}
use Rattle.odd_offers.specs.Answers.{AreGivensOf}
use Rattle.odd_text.specs.Key.{key_cmp}
use Rattle.odd_text.specs.Map.{SetsOnly}
use Rattle.odd_text.specs.Text.{text_cmp}
use Rattle.odd_text.specs.declared.key.Key.{Key}
use Rattle.odd_classes.proofs.Asking.{answered, one_element}
use Rattle.odd_classes.proofs.LoopsReached.{element_apart}
use Rattle.odd_classes.proofs.Places.{IsFilled, filled_more, filled_none, held_at, one_place}
use Rattle.odd_classes.proofs.Scanning.{entry_got, one_entry}
use Rattle.odd_classes.proofs.TableMembers.{first_left, one_ident}
use Rattle.odd_classes.proofs.TablesTaken.{put_at}
use Rattle.odd_classes.specs.Inheriting.{IsElementAt, IsNodeAt, IsStep, Sweeps}
use Rattle.odd_classes.specs.Offered.{AreAnswers, AreAtElements, AreByIdent, AreOffersIn, Givens, HasAnswer, HasGivens, IsRight, IsRightAt}
use Rattle.odd_classes.specs.Placing.{IsPlaceOf}
use Rattle.odd_classes.specs.declared.answers.Answer.{Answer}
use Rattle.odd_classes.specs.declared.answers.Answer.TheVariants as answer
use Rattle.odd_classes.specs.declared.inheriting.Inherited.{Inherited}
use Rattle.odd_classes.specs.declared.inheriting.Inheriting.{Inheriting}

module _ (entries : List (Key × Component)) (places : List (Option Answer)) where
  -- the element stands there, and this is given
  abbrev pub IsGivenAt : ℕ → List ℕ → Givens → Type 0
  IsGivenAt place element givens = IsPlaceOf entries place (element_key element) × HasGivens places place givens

  -- the table of what is given at the first places, and what is left
  abbrev pub IsMadeSoFar : ℕ → List (Option Answer) → List (List ℕ × Givens) → Type 0
  IsMadeSoFar count left table = IsFilled text_cmp IsGivenAt count table × (drop count places ≡ left) × (count ≤ length places)

  -- what is given at the next place is put
  pub made_more : IsTrue (is_sorted key_cmp entries) → AreAtElements entries places → (i : ℕ) (givens : Givens) (left : List (Option Answer)) (old new : List (List ℕ × Givens))
      (d : Key × Component) (ident : List ℕ) → IsMadeSoFar i (Some (answer.Offers givens) ∷ left) old → ident ≡ (get_or entries i d).0.ident → SetsOnly text_cmp old new ident givens
      → IsMadeSoFar (i + 1) left new
  made_more up elements i givens left old new d ident before same sets =
      let first = first_left places left i (Some (answer.Offers givens)) None before.2 before.1 in
      let has : HasGivens places i givens = slice_get-get_or places i None first.0 ∙ ap Some first.1 in
      let element = elements i givens has in
      let got = entry_got entries i (element_key element.0) element.1.0 d element.1.1 in
      let is : element.0 ≡ ident = ap (λ (e : Key × Component). e.0.ident) (sym got) ∙ sym same in
      let at : IsGivenAt i ident givens = (subst (λ e. IsPlaceOf entries i (element_key e)) is element.1, has) in (
        filled_more text_cmp IsGivenAt nat_list_cmp_total one_ident i old new ident givens before.0 sets at
            (λ other w a. ap (λ (k : Key). k.ident) (one_entry entries i (element_key other) (element_key ident) a.0.0 at.0.0 a.0.1 at.0.1).0)
            (λ place w a.
            let one = one_place entries up i place (element_key ident) at.0.0 a.0.0 at.0.1 a.0.1 in
            (let is : Some (Some (answer.Offers givens)) ≡ Some (Some (answer.Offers w)) = sym has ∙ ap (slice_get places) one ∙ a.1 in cc)),
        first.2,
        omega (arith, first.0),
      )

  -- nothing is offered there
  pub made_none : (i : ℕ) (next : Option Answer) (left : List (Option Answer)) (table : List (List ℕ × Givens)) → ((givens : Givens) → next ≡ Some (answer.Offers givens) → ⊥)
      → IsMadeSoFar i (next ∷ left) table → IsMadeSoFar (i + 1) left table
  made_none i next left table not before =
      let first = first_left places left i next None before.2 before.1 in
      let is : slice_get places i ≡ Some next = slice_get-get_or places i None first.0 ∙ ap Some first.1 in (
        filled_none text_cmp IsGivenAt i table before.0 (λ element givens a. not givens (same_Some _ _ (sym is ∙ a.1))),
        first.2,
        omega (arith, first.0),
      )

  -- none is left
  pub all_made : (count : ℕ) (left : List (Option Answer)) (table : List (List ℕ × Givens)) → IsMadeSoFar count left table → length left ≡ 0 → AreByIdent entries places table
  all_made count left table made none =
      let all : count ≡ length places = omega (arith, length-drop count places, ap length made.1, none, made.2) in
      subst (λ n. IsFilled text_cmp IsGivenAt n table) all made.0

module _ (library : Library) where
  -- at each place of an element that was passed stands an answer, and each answer is right
  pub record FilledAt (Passed : ℕ → Type 0) (answers : List (Option Answer)) : Type 0 where
    pub as_many : length answers ≡ length library.parts
    pub right : (place : ℕ) (made : Answer) → HasAnswer answers place made → IsRightAt library place made
    pub each : (place : ℕ) → IsElementAt library place → Passed place → (made : Answer) × HasAnswer answers place made

  module _ (answers : List (Option Answer)) where
    -- where no other place of an element was passed
    filled_agree : (Passed Others : ℕ → Type 0) → ((place : ℕ) → IsElementAt library place → Others place → Passed place) → FilledAt Passed answers → FilledAt Others answers
    filled_agree Passed Others to filled =
        record { as_many = filled.as_many; right = filled.right; each = λ place element others. filled.each place element (to place element others) }

    -- a right answer is put
    filled_put : (Passed : ℕ → Type 0) → FilledAt Passed answers → (place : ℕ) (made : Answer) → IsRightAt library place made → place < length answers
        → FilledAt (λ p. Passed p ⊎ (place ≡ p)) (set answers place (Some made))
    filled_put Passed filled place made right within = record {
      as_many = length-set answers place (Some made) ∙ filled.as_many;
      right = λ p other has. elim (put_at answers place (Some made) p within) [
        | inl same ↦
            let one : made ≡ other = same_Some made other (same_Some (Some made) (Some other) (sym same.1 ∙ has)) in
            subst (IsRightAt library p) one (subst (λ q. IsRightAt library q made) same.0 right)
        | inr apart ↦ filled.right p other (sym apart.1 ∙ has)
      ];
      each = λ p element passed. elim (put_at answers place (Some made) p within) [
        | inl same ↦ (made, same.1)
        | inr apart ↦
            let was = filled.each p element (⊎_elim (λ earlier. earlier) (λ same. absurd (apart.0 same)) passed) in
            (was.0, apart.1 ∙ was.1)
      ];
    }

  module _ (order : List ℕ) where
    -- the nodes before this place of the order were passed
    abbrev pub FilledUpTo : ℕ → List (Option Answer) → Type 0
    FilledUpTo at answers = FilledAt (Contains (take at order)) answers

    module _ (at : ℕ) where
      -- with the next node those up to it
      filled_next : (node : ℕ) (answers : List (Option Answer)) → IsNodeAt order at node → FilledAt (λ p. Contains (take at order) p ⊎ (node ≡ p)) answers
          → FilledUpTo (at + 1) answers
      filled_next node answers here =
          let is = get_or_from_slice_get order at node 0 here in
          filled_agree answers (λ p. Contains (take at order) p ⊎ (node ≡ p)) (Contains (take (at + 1) order))
          (λ p element passed. ⊎_elim (λ earlier. inl earlier) (λ same. inr (sym is ∙ same)) ((contains_next order at 0 p (slice_get_within order at node here)).0 passed))

      module _ (answers : List (Option Answer)) (filled : FilledUpTo at answers) where
        -- the next is no element
        pub filled_over : IsStep library order at None → FilledUpTo (at + 1) answers
        filled_over step = filled_next step.0 answers step.1 (filled_agree answers (Contains (take at order)) (λ p. Contains (take at order) p ⊎ (step.0 ≡ p))
            (λ p element passed. ⊎_elim (λ earlier. earlier) (λ is. absurd (step.2 (subst (IsElementAt library) (sym is) element))) passed) filled)

        module _ (inherited : Inherited) (step : IsStep library order at (Some inherited)) where
          -- it is one, and has a place
          pub step_within : inherited.place < length answers
          step_within = let within = slice_get_within library.parts inherited.place (element_key step.1.0, step.1.1) step.1.2 in omega (arith, within, filled.as_many)

          -- and its answer is put
          pub filled_with : (made : Answer) → ((element : List ℕ) → IsPlaceOf library.parts inherited.place (element_key element) → IsRight library element made)
              → FilledUpTo (at + 1) (set answers inherited.place (Some made))
          filled_with made of =
              let here : IsPlaceOf library.parts inherited.place (element_key step.1.0) = (step.1.1, step.1.2) in
              filled_next inherited.place (set answers inherited.place (Some made)) step.0
              (filled_put answers (Contains (take at order)) filled inherited.place made (step.1.0, here, of step.1.0 here) step_within)

  -- at the end each element was passed that reaches no class which is a member of itself
  pub all_answers : (s : Inheriting) (at : ℕ) → Sweeps library s at → length s.order.items ≤ at → (answers : List (Option Answer)) → FilledUpTo s.order.items at answers → AreAnswers library answers
  all_answers s at sw end answers filled = record {
    as_many = filled.as_many;
    right = filled.right;
    each = λ place element here none.
        let apart = element_apart library sw.rising s.arrows.now sw.graph place element here none in
        let within = slice_get_within library.parts place (element_key element, here.0) here.1 in
        filled.each place (element, here.0, here.1)
        (⊎_elim (λ among. subst (λ xs. Contains xs place) (sym (take_all at s.order.items end)) among) (λ past. absurd (omega (arith, past, within, sw.graph.as_many))) (sw.each place apart));
  }

  module _ (answers : List (Option Answer)) (are : AreAnswers library answers) (unlooped : (key : Key) → Breaks library key 13 → ⊥) (agrees : (element : List ℕ) → Contradicts library element → ⊥)
      (named_apart : (element : List ℕ) → SharesName library element → ⊥) where
    -- where no element breaks a rule, each answer is what it offers
    offers_at : (place : ℕ) (element : List ℕ) → IsPlaceOf library.parts place (element_key element) → (givens : Givens) × HasGivens answers place givens
    offers_at place element here = let made = answered library answers are unlooped place element here in by made.0 made.1 made.2
      where
        by : (made : Answer) → HasAnswer answers place made → IsRight library element made → (givens : Givens) × HasGivens answers place givens
        by (answer.Offers givens) has right = (givens, has)
        by (answer.Breaks rule) has right = absurd (⊎_elim (λ is. agrees element is.1) (λ is. named_apart element is.2) right)

    -- so the table is that of what each element offers
    pub are_offers : (table : List (List ℕ × Givens)) → AreByIdent library.parts answers table → AreOffersIn library table
    are_offers table by element = told (find text_cmp element table) refl
      where
        held : (found : Option Component) → find key_cmp (element_key element) library.parts ≡ found → find text_cmp element table ≡ None → found ≡ None
        held None e none = refl
        held (Some part) e none =
            let there = held_at library.parts (element_key element) part e in
            let given = offers_at there.0 element (part, there.1) in
            let found = (by element given.0).1 (there.0, slice_get_within answers there.0 (Some (answer.Offers given.0)) given.1, ((part, there.1), given.1)) in
            cc

        told : (listed : Option Givens) → find text_cmp element table ≡ listed
            → MatchOption listed (find key_cmp (element_key element) library.parts ≡ None) (AreGivensOf library element)
        told None e = held (find key_cmp (element_key element) library.parts) refl e
        told (Some givens) e =
            let s = (by element givens).0 e in
            let right = are.right s.0 (answer.Offers givens) s.2.1 in
            subst (λ x. AreGivensOf library x givens) (one_element library s.0 right.0 element right.1 s.2.0) right.2.2

  -- what is offered stands at elements alone
  pub at_elements : (answers : List (Option Answer)) → AreAnswers library answers → AreAtElements library.parts answers
  at_elements answers are place givens has = let right = are.right place (answer.Offers givens) has in (right.0, right.1)
