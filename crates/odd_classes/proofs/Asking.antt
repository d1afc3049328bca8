-- What is answered of each element, and the first that breaks a rule.
use Rattle.std.proofs.Common.{◌≡◌, ◌≢◌, ◌≤◌, ◌⊎◌, ◌↔◌, inl, inr, ⊎_elim, ℕ, Bool, List, Option, Some, None, get_or, refl, sym, ap, subst, arith, ◌∙◌}
use Rattle.std.proofs.lemmas.Bool.{cases_lt}
use Rattle.std.proofs.lemmas.Option.{get_or_from_slice_get, same_Some}
use Rattle.std.specs.Cmp.{tied_itself}
use Rattle.std.specs.FinMap.{find, is_sorted}
use Rattle.std.specs.Prelude.{IsTrue}
use Rattle.std.specs.declared.cmp.Ordering.TheVariants.{Equal, Greater}
use Rattle.odd_library.specs.Odd.{element_key}
use Rattle.odd_library.specs.declared.library.Component.{Component}
use Rattle.odd_library.specs.declared.library.Library.{Library}
use Rattle.odd_meaning.specs.Offering.{Clashes, edits_of}
use Rattle.odd_meaning.specs.Links.{class_key}
use Rattle.odd_meaning.specs.Rules.{Breaks, BreaksWithin, Contradicts, BreaksOffering, IsFirstBreak, IsLeastOffering, IsNotBehind, SharesName, has_clash, has_one_name, reaches_loop, contradicts, datatype_not_held, datatype_reaches_itself, macro_not_held, mixes_data, of_attributes, own_member, reaches_itself, shares_name}
use Rattle.odd_offers.proofs.TableOf.{offers_held}
use Rattle.odd_offers.specs.Tables.{ClashesBy, IsInherited, Table}
use Rattle.odd_text.specs.Key.{key_cmp}
use Rattle.odd_text.specs.KeyOrder.{key_total}
use Rattle.odd_text.specs.declared.key.Key.{Key}
use Rattle.odd_classes.proofs.Linked.{held}
use Rattle.odd_classes.proofs.Places.{entry_held, held_at, places_rise}
use Rattle.odd_classes.proofs.Scanning.{entry_got, one_entry}
use Rattle.odd_classes.specs.Offered.{AreAnswers, HasAnswer, IsAnswer, IsFirstBreaking, IsRight, IsRightRule, ReachesLoop}
use Rattle.odd_classes.specs.Placing.{IsEntryAt, IsPlaceOf}
use Rattle.odd_classes.specs.declared.answers.Answer.{Answer}
use Rattle.odd_classes.specs.declared.answers.Answer.TheVariants as answer

module _ (library : Library) (element : List ℕ) (part : Component) (inherited : Table) (held : find key_cmp (element_key element) library.parts ≡ Some part) (all : IsInherited library part inherited) where
  -- whether what is inherited clashes tells whether the element contradicts itself
  pub clash_contradicts : (b : Bool) → ClashesBy (edits_of part) inherited b → IsTrue b ↔ Contradicts library element
  clash_contradicts b by =
      let told = by library part refl all in (
        λ h. let c = told.0 h in record { part = part; held = held; ident = c.0; clashes = c.1 },
        λ c. told.1 (c.ident, subst (λ (p : Component). Clashes library p c.ident) (same_Some c.part part (sym c.held ∙ held)) c.clashes),
      )

module _ (library : Library) where
  -- at one place stands one element
  pub one_element : (place : ℕ) (one other : List ℕ) → IsPlaceOf library.parts place (element_key one) → IsPlaceOf library.parts place (element_key other) → one ≡ other
  one_element place one other a b = ap (λ (k : Key). k.ident) (one_entry library.parts place (element_key one) (element_key other) a.0 b.0 a.1 b.1).0

  -- who breaks one of the two rules
  data ByOffer : Key → ℕ → Type 0 where
    contradicting : (element : List ℕ) → Contradicts library element → ByOffer (element_key element) 15
    sharing : (element : List ℕ) → SharesName library element → ByOffer (element_key element) 16

  sort : (key : Key) (rule : ℕ) → BreaksWithin 15 16 library key rule → ByOffer key rule
  sort key _ (macro_not_held ident names held, low, high) = absurd (omega arith)
  sort key _ (datatype_not_held ident names held, low, high) = absurd (omega arith)
  sort _ _ (own_member ident l, low, high) = absurd (omega arith)
  sort _ _ (reaches_itself ident l, low, high) = absurd (omega arith)
  sort _ _ (datatype_reaches_itself ident l, low, high) = absurd (omega arith)
  sort _ _ (contradicts ident is, low, high) = contradicting ident is
  sort _ _ (shares_name ident is, low, high) = sharing ident is
  sort key _ (of_attributes ident names is, low, high) = absurd (omega arith)
  sort key _ (mixes_data is, low, high) = absurd (omega arith)

  -- an element that is held has a place
  contradicting_at : (element : List ℕ) → Contradicts library element → (place : ℕ) × IsPlaceOf library.parts place (element_key element)
  contradicting_at element c = let there = held_at library.parts (element_key element) c.part c.held in (there.0, (c.part, there.1))

  sharing_at : (element : List ℕ) → SharesName library element → (place : ℕ) × IsPlaceOf library.parts place (element_key element)
  sharing_at element s =
      let found = held (element_key element) library (offers_held library (element_key element) s.giver s.one s.def s.offered) in
      let there = held_at library.parts (element_key element) found.0 found.1 in
      (there.0, (found.0, there.1))

  module _ (up : IsTrue (is_sorted key_cmp library.parts)) where
    -- of two places the keys stand in the same order
    keys_follow : (place other : ℕ) (one two : Key) → place ≤ other → IsPlaceOf library.parts place one → IsPlaceOf library.parts other two → key_cmp one two ≢ Greater
    keys_follow place other one two le a b greater =
        elim (cases_lt place other) [
          | inl lt ↦ let less = places_rise library.parts up place other one two a.0 b.0 lt a.1 b.1 in cc
          | inr ge ↦
              let same : place ≡ other = omega arith in
              let keys = (one_entry library.parts other one two a.0 b.0 (subst (λ p. IsEntryAt library.parts p one a.0) same a.1) b.1).0 in
              let tied : key_cmp one one ≡ Equal = tied_itself key_total one in
              let far : key_cmp one one ≡ Greater = subst (λ k. key_cmp one k ≡ Greater) (sym keys) greater in
              cc
        ]

  module _ (answers : List (Option Answer)) (are : AreAnswers library answers) where
    -- of whom it is answered that it contradicts itself does
    contradicts_at : (place : ℕ) → HasAnswer answers place (answer.Breaks 15) → (element : List ℕ) × IsPlaceOf library.parts place (element_key element) × Contradicts library element
    contradicts_at place has =
        let right = are.right place (answer.Breaks 15) has in
        (right.0, right.1, ⊎_elim (λ is. is.1) (λ is. let no = is.0 in absurd (omega (arith, no))) right.2)

    shares_at : (place : ℕ) → HasAnswer answers place (answer.Breaks 16) → (element : List ℕ) × IsPlaceOf library.parts place (element_key element) × SharesName library element
    shares_at place has =
        let right = are.right place (answer.Breaks 16) has in
        (right.0, right.1, ⊎_elim (λ is. let no = is.0 in absurd (omega (arith, no))) (λ is. is.2) right.2)

    -- what is taken at the place of an element that reaches no class which is a member of itself is right of it
    pub answer_taken : (place : ℕ) (element : List ℕ) → IsPlaceOf library.parts place (element_key element) → (ReachesLoop library (element_key element) → ⊥) → (taken d : Option Answer)
        → taken ≡ get_or answers place d → (made : Answer) × (taken ≡ Some made) × IsRight library element made
    answer_taken place element here none taken d is =
        let made = are.each place element here none in
        let right = are.right place made.0 made.1 in
        (made.0, is ∙ get_or_from_slice_get answers place (Some made.0) d made.1, subst (λ e. IsRight library e made.0) (one_element place right.0 element right.1 here) right.2)

    module _ (unlooped : (key : Key) → Breaks library key 13 → ⊥) where
      -- each element has an answer
      pub answered : (place : ℕ) (element : List ℕ) → IsPlaceOf library.parts place (element_key element) → (made : Answer) × HasAnswer answers place made × IsRight library element made
      answered place element here =
          let made = are.each place element here (λ r. unlooped (class_key r.0) (own_member r.0 r.2)) in
          let right = are.right place made.0 made.1 in
          (made.0, made.1, subst (λ e. IsRight library e made.0) (one_element place right.0 element right.1 here) right.2)

      -- and the one that contradicts itself this
      has_contradicting : (element : List ℕ) → Contradicts library element → (place : ℕ) × IsPlaceOf library.parts place (element_key element) × HasAnswer answers place (answer.Breaks 15)
      has_contradicting element c =
          let there = contradicting_at element c in
          let made = answered there.0 element there.1 in
          (there.0, there.1, by there.0 made.0 made.1 made.2)
        where
          by : (place : ℕ) (made : Answer) → HasAnswer answers place made → IsRight library element made → HasAnswer answers place (answer.Breaks 15)
          by place (answer.Offers givens) has right = absurd (right.0 c)
          by place (answer.Breaks rule) has right = ⊎_elim (λ is. subst (λ r. HasAnswer answers place (answer.Breaks r)) is.0 has) (λ is. absurd (is.1 c)) right

      has_sharing : (element : List ℕ) → (Contradicts library element → ⊥) → SharesName library element → (place : ℕ) × IsPlaceOf library.parts place (element_key element) × HasAnswer answers place (answer.Breaks 16)
      has_sharing element agrees s =
          let there = sharing_at element s in
          let made = answered there.0 element there.1 in
          (there.0, there.1, by there.0 made.0 made.1 made.2)
        where
          by : (place : ℕ) (made : Answer) → HasAnswer answers place made → IsRight library element made → HasAnswer answers place (answer.Breaks 16)
          by place (answer.Offers givens) has right = absurd (right.1 s)
          by place (answer.Breaks rule) has right = ⊎_elim (λ is. absurd (agrees is.1)) (λ is. subst (λ r. HasAnswer answers place (answer.Breaks r)) is.0 has) right

      -- where no place is found, none contradicts itself
      pub none_contradicts : IsFirstBreaking answers 15 None → (element : List ℕ) → Contradicts library element → ⊥
      none_contradicts none element c = let there = has_contradicting element c in none there.0 there.2

      module _ (agrees : (element : List ℕ) → Contradicts library element → ⊥) where
        -- where no place is found for the other rule either, there is no offence
        pub none_shares : IsFirstBreaking answers 16 None → (element : List ℕ) → SharesName library element → ⊥
        none_shares none element s = let there = has_sharing element (agrees element) s in none there.0 there.2

        pub none_offends : IsFirstBreaking answers 16 None → (key : Key) (rule : ℕ) → BreaksWithin 15 16 library key rule → ⊥
        none_offends none key rule breaks = elim (sort key rule breaks) as (λ k r o. ⊥) [
          | contradicting element c ↦ agrees element c
          | sharing element s ↦ none_shares none element s
        ]

      module _ (up : IsTrue (is_sorted key_cmp library.parts)) where
        -- the first that contradicts itself is the first offence
        pub first_contradicting : (first : ℕ) → IsFirstBreaking answers 15 (Some first) → (key : Key) → IsPlaceOf library.parts first key → IsFirstBreak (BreaksWithin 15 16 library) key 15
        first_contradicting first is key here =
            let at = contradicts_at first is.0 in
            let same : element_key at.0 ≡ key = (one_entry library.parts first (element_key at.0) key at.1.0 here.0 at.1.1 here.1).0 in
            subst (λ k. IsFirstBreak (BreaksWithin 15 16 library) k 15) same (record {
              is_one = (contradicts at.0 at.2, omega arith, omega arith);
              first = λ other rule breaks. elim (sort other rule breaks) as (λ k r o. IsNotBehind 15 (element_key at.0) r k) [
                | contradicting element c ↦ let there = has_contradicting element c in inr (refl, keys_follow up first there.0 (element_key at.0) (element_key element) (is.1 there.0 there.2) at.1 there.1)
                | sharing element s ↦ inl (omega arith)
              ];
            })

        -- where none does, the first that shares a name is
        pub first_sharing : ((element : List ℕ) → Contradicts library element → ⊥) → (first : ℕ) → IsFirstBreaking answers 16 (Some first) → (key : Key) → IsPlaceOf library.parts first key
            → IsFirstBreak (BreaksWithin 15 16 library) key 16
        first_sharing agrees first is key here =
            let at = shares_at first is.0 in
            let same : element_key at.0 ≡ key = (one_entry library.parts first (element_key at.0) key at.1.0 here.0 at.1.1 here.1).0 in
            subst (λ k. IsFirstBreak (BreaksWithin 15 16 library) k 16) same (record {
              is_one = (shares_name at.0 at.2, omega arith, omega arith);
              first = λ other rule breaks. elim (sort other rule breaks) as (λ k r o. IsNotBehind 16 (element_key at.0) r k) [
                | contradicting element c ↦ absurd (agrees element c)
                | sharing element s ↦
                    let there = has_sharing element (agrees element) s in
                    inr (refl, keys_follow up first there.0 (element_key at.0) (element_key element) (is.1 there.0 there.2) at.1 there.1)
              ];
            })

-- what is asked of the component that is read at a place is asked of the entry there, and answered right
pub right_at : (library : Library) (es : List (Key × Component)) (place : ℕ) (ident : List ℕ) (part : Component) (table : Table) (made : Answer) (d : Key × Component) → IsTrue (is_sorted key_cmp library.parts) → es ≡ library.parts
    → IsEntryAt library.parts place (element_key ident) part → IsInherited library part table → IsAnswer (get_or es place d).1 table made → IsRight library ident made
right_at library es place ident part table made d up same entry all of =
    let held = entry_held library.parts up place (element_key ident) part entry in
    let read : get_or es place d ≡ (element_key ident, part) = ap (λ xs. get_or xs place d) same ∙ entry_got library.parts place (element_key ident) part d entry in
    subst (λ (e : Key × Component). IsAnswer e.1 table made) read of library ident held all

module _ (library : Library) (element : List ℕ) where
  -- where it reaches no loop and breaks neither of the two rules, it breaks none on what it offers
  pub none_of_offering : (ReachesLoop library (element_key element) → ⊥) → (Contradicts library element → ⊥) → (SharesName library element → ⊥) → (rule : ℕ) → BreaksOffering library element rule → ⊥
  none_of_offering loop agrees apart _ (reaches_loop class m l) = loop (class, m, l)
  none_of_offering loop agrees apart _ (has_clash c) = agrees c
  none_of_offering loop agrees apart _ (has_one_name s) = apart s

  -- no rule on what it offers has a lesser number than 13
  at_least : (rule : ℕ) → BreaksOffering library element rule → 13 ≤ rule
  at_least _ (reaches_loop class m l) = omega arith
  at_least _ (has_clash c) = omega arith
  at_least _ (has_one_name s) = omega arith

  -- a loop is the least
  pub loop_least : ReachesLoop library (element_key element) → IsLeastOffering library element 13
  loop_least r = record { is_one = reaches_loop r.0 r.1 r.2; least = at_least }

  -- and where it reaches none the first of the two rules that it breaks is
  pub right_least : (ReachesLoop library (element_key element) → ⊥) → (rule : ℕ) → IsRightRule library element rule → IsLeastOffering library element rule
  right_least loop rule (inl h) = subst (IsLeastOffering library element) (sym h.0) (record { is_one = has_clash h.1; least = above })
    where
      above : (other : ℕ) → BreaksOffering library element other → 15 ≤ other
      above _ (reaches_loop class m l) = absurd (loop (class, m, l))
      above _ (has_clash c) = omega arith
      above _ (has_one_name s) = omega arith
  right_least loop rule (inr h) = subst (IsLeastOffering library element) (sym h.0) (record { is_one = has_one_name h.2; least = above })
    where
      above : (other : ℕ) → BreaksOffering library element other → 16 ≤ other
      above _ (reaches_loop class m l) = absurd (loop (class, m, l))
      above _ (has_clash c) = absurd (h.1 c)
      above _ (has_one_name s) = omega arith
