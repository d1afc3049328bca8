-- What an element offers, by its own edits over what it inherits.
use Rattle.std.proofs.Common.{◌≡◌, ◌≢◌, ◌⊎◌, inl, inr, ⊎_elim, ℕ, true, false, List, [], ◌∷◌, Option, Some, None, cond, refl, sym, ap, subst, ◌∙◌}
use Rattle.std.proofs.lemmas.Cmp.{nat_list_cmp_total}
use Rattle.std.specs.Cmp.{tied_itself}
use Rattle.std.specs.FinMap.{find, is_sorted, slice_cmp-IsAntisymmetric, nat_cmp-IsAntisymmetric}
use Rattle.std.specs.Ordering.{is_lt, ordering_reverse}
use Rattle.std.specs.declared.cmp.Ordering.TheVariants.{Equal, Greater, Less}
use Rattle.std.specs.Prelude.{IsTrue}
use Rattle.odd_text.specs.Key.{key_cmp}
use Rattle.odd_text.specs.KeyOrder.{key_total}
use Rattle.odd_text.specs.Text.{text_cmp}
use Rattle.odd_text.specs.declared.key.Key.{Key}
use Rattle.odd_text.specs.declared.key.Kind.TheVariants as kind
use Rattle.odd_text.specs.Standing.{StandsIn}
use Rattle.odd_text.proofs.InList.{first_or_later, nothing_stands, stands_first, stands_later}
use Rattle.odd_overlay.proofs.Laid.{zipped_rises}
use Rattle.odd_overlay.specs.Overlaid.{find_zipped}
use Rattle.odd_attributes.specs.Attributes.{def_changed}
use Rattle.odd_attributes.specs.declared.att_def.AttDef.{AttDef}
use Rattle.odd_attributes.specs.declared.att_edit.AttEdit.{AttEdit}
use Rattle.odd_attributes.specs.declared.att_edit.AttEdit.TheVariants.{Set, Change, Delete}
use Rattle.odd_library.specs.Odd.{element_key}
use Rattle.odd_library.specs.declared.library.Component.{Component}
use Rattle.odd_library.specs.declared.library.Library.{Library}
use Rattle.odd_meaning.specs.Links.{class_key, memberships}
use Rattle.odd_meaning.specs.Offering.{Inherits, IsOfferOf, Offers, Passes, edits_of, giver_key}
use Rattle.odd_meaning.specs.Rules.{Contradicts}
use Rattle.odd_offers.specs.Answers.{AreGivensOf, IsAnswer, answer_at, changed_given, given_of, least_from}
use Rattle.odd_offers.specs.Same.{def_same, def_test}
use Rattle.odd_offers.specs.Tables.{IsInherited, StandsAt, Table}
use Rattle.odd_offers.specs.declared.given.Given.{Given}
use Rattle.odd_offers.specs.declared.table.Offer.{Offer}
use Rattle.odd_offers.proofs.StandingFor.{not_above, not_above_itself, not_below}
use Rattle.odd_offers.proofs.TableOf.{giver_is_class, passes_change, passes_none, passes_too, same_some}

-- two of which neither is above the other are one
both_below : (x y : List ℕ) → text_cmp x y ≢ Greater → text_cmp y x ≢ Greater → x ≡ y
both_below x y first second =
    elim (text_cmp x y) as (λ o. text_cmp x y ≡ o → x ≡ y) [
      | Less ↦ λ e. absurd (second (nat_list_cmp_total.antisymm y x ∙ ap ordering_reverse e))
      | Equal ↦ λ e. slice_cmp-IsAntisymmetric nat_cmp-IsAntisymmetric x y e
      | Greater ↦ λ e. absurd (first e)
    ] refl

-- and what is below it is not above it
below_not_above : (x y : List ℕ) → is_lt (text_cmp x y) ≡ true → text_cmp x y ≢ Greater
below_not_above x y h g = let no : false ≡ true = sym (ap is_lt g) ∙ h in cc

-- the offer of the least giver is one of them
pub least_in : (best : Offer) (os : List Offer) → StandsIn (best ∷ os) (least_from best os)
least_in best [] = stands_first best []
least_in best (o ∷ os) =
    elim (is_lt (text_cmp o.giver best.giver)) as (λ b. StandsIn (best ∷ o ∷ os) (least_from (cond b o best) os)) [
      | true ↦ stands_later best (least_from o os) (o ∷ os) (least_in o os)
      | false ↦
          ⊎_elim (λ is. subst (StandsIn (best ∷ o ∷ os)) (sym is) (stands_first best (o ∷ os))) (λ later. stands_later best (least_from best os) (o ∷ os) (stands_later o (least_from best os) os later))
          (first_or_later best (least_from best os) os (least_in best os))
    ]

-- and its giver is above none
pub least_below : (best : Offer) (os : List Offer) (x : Offer) → StandsIn (best ∷ os) x → text_cmp (least_from best os).giver x.giver ≢ Greater
least_below best [] x m = subst (λ (y : Offer). text_cmp best.giver y.giver ≢ Greater) (sym (only best x m)) (not_above_itself best.giver)
  where
    only : (a b : Offer) → StandsIn (a ∷ []) b → b ≡ a
    only a b h = ⊎_elim (λ is. is) (λ later. absurd (nothing_stands b later)) (first_or_later a b [] h)
least_below best (o ∷ os) x m =
    elim (is_lt (text_cmp o.giver best.giver)) as (λ b. is_lt (text_cmp o.giver best.giver) ≡ b → text_cmp (least_from (cond b o best) os).giver x.giver ≢ Greater) [
      | true ↦ λ e.
          ⊎_elim
          (λ is. subst (λ (y : Offer). text_cmp (least_from o os).giver y.giver ≢ Greater) (sym is)
          (not_above (least_from o os).giver o.giver best.giver (least_below o os o (stands_first o os)) (below_not_above o.giver best.giver e)))
          (λ later. least_below o os x later) (first_or_later best x (o ∷ os) m)
      | false ↦ λ e.
          ⊎_elim (λ is. subst (λ (y : Offer). text_cmp (least_from best os).giver y.giver ≢ Greater) (sym is) (least_below best os best (stands_first best os)))
          (λ later. ⊎_elim
          (λ is. subst (λ (y : Offer). text_cmp (least_from best os).giver y.giver ≢ Greater) (sym is)
          (not_above (least_from best os).giver best.giver o.giver (least_below best os best (stands_first best os)) (not_below o.giver best.giver e)))
          (λ l. least_below best os x (stands_later best x os l)) (first_or_later o x os later))
          (first_or_later best x (o ∷ os) m)
    ] refl

-- what each own edit makes of what is inherited, where it lets that pass
passed_answer : (e : Option AttEdit) (b : Offer) (os : List Offer) (before def : AttDef) → Passes e before def → (least_from b os).def ≡ before
    → answer_at e (Some (b ∷ os)) ≡ Some (record { def = def; giver = Some (least_from b os).giver })
passed_answer None b os before def p same = ap (λ d. Some (record { def = d; giver = Some (least_from b os).giver })) (same ∙ sym (passes_none before def p))
passed_answer (Some (Set d)) b os before def p same = elim p [ ]
passed_answer (Some Delete) b os before def p same = elim p [ ]
passed_answer (Some (Change f)) b os before def p same =
    ap (λ d. Some (record { def = d; giver = Some (least_from b os).giver })) (ap (def_changed f) same ∙ sym (passes_change f before def p))

-- an own Set lets nothing pass
set_passes_none : (e : Option AttEdit) (set before def : AttDef) → e ≡ Some (Set set) → Passes e before def → ⊥
set_passes_none None set before def is p = cc
set_passes_none (Some (Set d)) set before def is p = elim p [ ]
set_passes_none (Some Delete) set before def is p = cc
set_passes_none (Some (Change f)) set before def is p = let same : Change f ≡ Set set = same_some (Change f) (Set set) is in cc

-- where an answer is given it is that of an own Set, or of the least giver by what passes
answer_from : (e : Option AttEdit) (o : Option (List Offer)) (given : Given) → answer_at e o ≡ Some given
    → ((e ≡ Some (Set given.def)) × (given.giver ≡ None))
    ⊎ ((b : Offer) × (os : List Offer) × (o ≡ Some (b ∷ os)) × Passes e (least_from b os).def given.def × (given.giver ≡ Some (least_from b os).giver))
answer_from None None given h = cc
answer_from None (Some []) given h = cc
answer_from None (Some (b ∷ os)) given h =
    let same = same_some (given_of (least_from b os)) given h in
    inr (b, os, refl, subst (λ (g : Given). Passes None (least_from b os).def g.def) same Passes.as_it_is, ap (λ (g : Given). g.giver) (sym same))
answer_from (Some (Set d)) o given h =
    let made : Given = record { def = d; giver = None } in
    let same = same_some made given h in
    inl (ap (λ (g : Given). Some (Set g.def)) same, ap (λ (g : Given). g.giver) (sym same))
answer_from (Some Delete) o given h = cc
answer_from (Some (Change f)) None given h = cc
answer_from (Some (Change f)) (Some []) given h = cc
answer_from (Some (Change f)) (Some (b ∷ os)) given h =
    let same = same_some (changed_given f (least_from b os)) given h in
    inr (b, os, refl, subst (λ (g : Given). Passes (Some (Change f)) (least_from b os).def g.def) same (Passes.changed f), ap (λ (g : Given). g.giver) (sym same))

-- where an offer stands there are offers
some_first : (o : Option (List Offer)) (def : AttDef) (giver : List ℕ) → StandsAt o def giver → (b : Offer) × (os : List Offer) × (o ≡ Some (b ∷ os)) × StandsIn (b ∷ os) (record { def = def; giver = giver })
some_first None def giver m = absurd m
some_first (Some []) def giver m = absurd (nothing_stands (record { def = def; giver = giver }) m)
some_first (Some (b ∷ os)) def giver m = (b, os, refl, m)

-- an element is no class
no_class_gives : (element class : List ℕ) → element_key element ≡ class_key class → ⊥
no_class_gives element class e = let kinds : kind.Element ≡ kind.Class = ap (λ (k : Key). k.kind) e in cc

module _ (library : Library) (element : List ℕ) (part : Component) (inherited : Table) (held : find key_cmp (element_key element) library.parts ≡ Some part) (all : IsInherited library part inherited)
    (apart : Contradicts library element → ⊥) where
  -- the own edit, and what is inherited
  abbrev edit : List ℕ → Option AttEdit
  edit ident = find text_cmp ident (edits_of part)

  abbrev here : List ℕ → Option (List Offer)
  here ident = find text_cmp ident inherited

  -- what is offered is set, or inherited and passed
  offers_by : (holder : Key) (ident : List ℕ) (def : AttDef) (giver : Key) → holder ≡ element_key element → Offers library holder ident def giver
      → ((edit ident ≡ Some (Set def)) × (giver ≡ element_key element))
      ⊎ ((before : AttDef) × (class : List ℕ) × Passes (edit ident) before def × Inherits library part ident before (class_key class) × (giver ≡ class_key class))
  offers_by holder ident def giver e (Offers.own other is set) =
      let same : other ≡ part = same_some other part (sym is ∙ ap (λ k. find key_cmp k library.parts) e ∙ held) in
      inl (subst (λ (p : Component). find text_cmp ident (edits_of p) ≡ Some (Set def)) same set, e)
  offers_by holder ident def giver e (Offers.inherited other through before is among offered passes) =
      let same : other ≡ part = same_some other part (sym is ∙ ap (λ k. find key_cmp k library.parts) e ∙ held) in
      let class = giver_is_class library (class_key through) giver ident before through refl offered in
      let inherits : Inherits library part ident before (class_key class.0) =
      record { class = through; among = subst (λ (p : Component). StandsIn (memberships p) through) same among; offered = subst (λ k. Offers library (class_key through) ident before k) class.1 offered } in
      inr (before, class.0, subst (λ (p : Component). Passes (find text_cmp ident (edits_of p)) before def) same passes, inherits, class.1)

  -- what is set is offered
  set_offered : (ident : List ℕ) (def : AttDef) → edit ident ≡ Some (Set def) → Offers library (element_key element) ident def (element_key element)
  set_offered ident def set = Offers.own part held set

  -- and so is what is inherited and passed
  passed_offered : (ident : List ℕ) (before def : AttDef) (class : List ℕ) → Passes (edit ident) before def → Inherits library part ident before (class_key class)
      → Offers library (element_key element) ident def (class_key class)
  passed_offered ident before def class passes i = Offers.inherited part i.class before held i.among i.offered passes

  -- two that are inherited and pass are one
  one_def : (ident : List ℕ) (one other : AttDef) (giver other_giver : List ℕ) → Inherits library part ident one (class_key giver) → Inherits library part ident other (class_key other_giver)
      → (def : AttDef) → Passes (edit ident) one def → one ≡ other
  one_def ident one other giver other_giver m n def passes =
      elim (def_same one other) as (λ b. def_same one other ≡ b → one ≡ other) [
        | true ↦ λ e. def_test.exact one other e
        | false ↦ λ e. absurd (apart (record {
          part = part;
          held = held;
          ident = ident;
          clashes = record {
            one = one;
            other = other;
            giver = class_key giver;
            other_giver = class_key other_giver;
            passes = (def, passes);
            first = m;
            second = n;
            differ = λ same. let no : true ≡ false = sym (subst (λ d. def_same one d ≡ true) same (def_test.itself one)) ∙ e in cc;
          };
        }))
      ] refl

  -- the offer of the least giver is inherited
  least_inherited : (ident : List ℕ) (b : Offer) (os : List Offer) → here ident ≡ Some (b ∷ os) → Inherits library part ident (least_from b os).def (class_key (least_from b os).giver)
  least_inherited ident b os is =
      (all ident).sound (least_from b os).def (least_from b os).giver (subst (λ o. StandsAt o (least_from b os).def (least_from b os).giver) (sym is) (least_in b os))

  -- and its giver is above none by whom something is inherited
  least_of_all : (ident : List ℕ) (b : Offer) (os : List Offer) → here ident ≡ Some (b ∷ os) → (before : AttDef) (class : List ℕ) → Inherits library part ident before (class_key class)
      → text_cmp (least_from b os).giver class ≢ Greater
  least_of_all ident b os is before class i =
      let kept = (all ident).least before class i in
      not_above (least_from b os).giver kept.0.giver class (least_below b os kept.0 (subst (λ o. StandsAt o kept.0.def kept.0.giver) is kept.1)) kept.2

  -- an answer is what is offered
  answer_offered : (ident : List ℕ) (given : Given) → answer_at (edit ident) (here ident) ≡ Some given → IsOfferOf library element ident given.def given.giver
  answer_offered ident given h = ⊎_elim by_set by_giver (answer_from (edit ident) (here ident) given h)
    where
      by_set : (edit ident ≡ Some (Set given.def)) × (given.giver ≡ None) → IsOfferOf library element ident given.def given.giver
      by_set s = subst (IsOfferOf library element ident given.def) (sym s.1) (record {
        offered = set_offered ident given.def s.0;
        least = λ def other offers greater.
            ⊎_elim (λ k. let tied = subst (λ x. key_cmp (element_key element) x ≡ Equal) (sym k.1) (tied_itself key_total (element_key element)) in cc)
            (λ k. set_passes_none (edit ident) given.def k.0 def s.0 k.2) (offers_by (element_key element) ident def other refl offers);
      })

      by_giver : (b : Offer) × (os : List Offer) × (here ident ≡ Some (b ∷ os)) × Passes (edit ident) (least_from b os).def given.def × (given.giver ≡ Some (least_from b os).giver)
          → IsOfferOf library element ident given.def given.giver
      by_giver g =
          let b = g.0 in
          let os = g.1 in
          let least = least_from b os in
          subst (IsOfferOf library element ident given.def) (sym g.4) (record {
            offered = passed_offered ident least.def given.def least.giver g.3 (least_inherited ident b os g.2);
            least = λ def other offers.
                ⊎_elim (λ k. absurd (set_passes_none (edit ident) def least.def given.def k.0 g.3))
                (λ k. subst (λ x. key_cmp (class_key least.giver) x ≢ Greater) (sym k.4) (least_of_all ident b os g.2 k.0 k.1 k.3))
                (offers_by (element_key element) ident def other refl offers);
          })

  -- what is inherited and passed is answered, by its least giver
  passed_answered : (ident : List ℕ) (before def : AttDef) (class : List ℕ) → Passes (edit ident) before def → Inherits library part ident before (class_key class)
      → (b : Offer) × (os : List Offer) × (here ident ≡ Some (b ∷ os)) × (answer_at (edit ident) (here ident) ≡ Some (record { def = def; giver = Some (least_from b os).giver }))
  passed_answered ident before def class passes i =
      let kept = (all ident).least before class i in
      let f = some_first (here ident) kept.0.def kept.0.giver kept.1 in
      let least = least_from f.0 f.1 in
      let same : least.def ≡ before = sym (one_def ident before least.def class least.giver i (least_inherited ident f.0 f.1 f.2) def passes) in
      (f.0, f.1, f.2, ap (answer_at (edit ident)) f.2 ∙ passed_answer (edit ident) f.0 f.1 before def passes same)

  -- what is offered by the least giver is the answer
  offered_answer : (ident : List ℕ) (given : Given) → IsOfferOf library element ident given.def given.giver → answer_at (edit ident) (here ident) ≡ Some given
  offered_answer ident given r = ⊎_elim by_set by_class (offers_by (element_key element) ident given.def (giver_key element given.giver) refl r.offered)
    where
      own_giver : (g : Option (List ℕ)) → giver_key element g ≡ element_key element → g ≡ None
      own_giver None e = refl
      own_giver (Some class) e = absurd (no_class_gives element class (sym e))

      class_giver : (g : Option (List ℕ)) (class : List ℕ) → giver_key element g ≡ class_key class → g ≡ Some class
      class_giver None class e = absurd (no_class_gives element class e)
      class_giver (Some other) class e = ap (λ (k : Key). Some k.ident) e

      by_set : (edit ident ≡ Some (Set given.def)) × (giver_key element given.giver ≡ element_key element) → answer_at (edit ident) (here ident) ≡ Some given
      by_set s = ap (λ e. answer_at e (here ident)) s.0 ∙ ap (λ g. Some (record { def = given.def; giver = g })) (sym (own_giver given.giver s.1))

      by_class : (before : AttDef) × (class : List ℕ) × Passes (edit ident) before given.def × Inherits library part ident before (class_key class) × (giver_key element given.giver ≡ class_key class)
          → answer_at (edit ident) (here ident) ≡ Some given
      by_class k =
          let a = passed_answered ident k.0 given.def k.1 k.2 k.3 in
          let least = least_from a.0 a.1 in
          let too = passes_too (edit ident) k.0 given.def least.def k.2 in
          let under : text_cmp k.1 least.giver ≢ Greater = subst (λ x. key_cmp x (class_key least.giver) ≢ Greater) k.4 (r.least too.0 (class_key least.giver) (passed_offered ident least.def too.0 least.giver too.1 (least_inherited ident a.0 a.1 a.2))) in
          let over : text_cmp least.giver k.1 ≢ Greater = least_of_all ident a.0 a.1 a.2 k.0 k.1 k.3 in
          let same : k.1 ≡ least.giver = both_below k.1 least.giver under over in
          a.3 ∙ ap (λ g. Some (record { def = given.def; giver = g })) (ap Some (sym same) ∙ sym (class_giver given.giver k.1 k.4))

  -- what is found in the answer
  found : (made : List (List ℕ × Given)) → IsAnswer (edits_of part) inherited made → (ident : List ℕ) → find text_cmp ident made ≡ answer_at (edit ident) (here ident)
  found made is ident =
      ap (find text_cmp ident) is ∙ find_zipped text_cmp nat_list_cmp_total (slice_cmp-IsAntisymmetric nat_cmp-IsAntisymmetric) answer_at refl (edits_of part) inherited ident

  -- the answer is exactly what the element offers
  pub answer_right : (made : List (List ℕ × Given)) → IsAnswer (edits_of part) inherited made → AreGivensOf library element made
  answer_right made is = record {
    rising = subst (λ es. IsTrue (is_sorted text_cmp es)) (sym is) (zipped_rises answer_at (edits_of part) inherited);
    each = λ ident given. (λ h. answer_offered ident given (sym (found made is ident) ∙ h), λ r. found made is ident ∙ offered_answer ident given r);
    all = λ ident def giver offers.
        ⊎_elim
        (λ s. (record { def = def; giver = None }, found made is ident ∙ ap (λ e. answer_at e (here ident)) s.0, refl))
        (λ k. let a = passed_answered ident k.0 def k.1 k.2 k.3 in (record { def = def; giver = Some (least_from a.0 a.1).giver }, found made is ident ∙ a.3, refl))
        (offers_by (element_key element) ident def giver refl offers);
  }
