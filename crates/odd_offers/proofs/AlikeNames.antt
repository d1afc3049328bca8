-- Names of which two are one, looked for one after the other; and names that rise, of which no two are.
use Rattle.std.proofs.Common.{◌≡◌, ◌↔◌, ◌⊎◌, ◌+◌, suc, length, get_or, arith, Bool, true, false, cond, not, List, [], ◌∷◌, ◌++◌, inl, inr, ⊎_elim, IsTrue, refl, sym, ap, subst, ◌∙◌, append_assoc}
use Rattle.std.proofs.Math.Bool.{not-not}
use Rattle.std.proofs.lemmas.Bool.{both_ways}
use Rattle.std.proofs.lemmas.List.{append-nil}
use Rattle.std.proofs.lemmas.Map.Views.{tells_apart}
use Rattle.std.specs.BTreeSet.{BTreeSet, contains_by}
use Rattle.std.specs.Cmp.{tied_itself}
use Rattle.std.specs.List.{AllAdjacentBelow, IsAllAdjacentAnswer, list_any}
use Rattle.std.specs.Ordering.{eq_by_cmp, is_eq, is_lt}
use Rattle.std.specs.declared.cmp.Ordering.TheVariants.{Equal, Less}
use Rattle.odd_text.proofs.Entries.{as_T, is_less}
use Rattle.odd_text.specs.NameOrder.{name_cmp, name_exact}
use Rattle.odd_text.specs.declared.name.Name.{Name}
use Rattle.odd_text.proofs.InList.{StandsOnce, nothing_stands, once_push}
use Rattle.odd_content.specs.ConditionOrder.{name_total}
use Rattle.odd_text.specs.Standing.{StandsTwice}
use Rattle.odd_forms.proofs.Children.{twice_push, twice_with}
use Rattle.odd_offers.specs.Names.{IsNamedTwice}

-- whether the set holds the name
abbrev holds : BTreeSet Name → Name → Bool
holds values name = contains_by (name_cmp name) values

-- the value is the name
abbrev Is : Name → Name → Type 0
Is name value = value ≡ name

module _ (all : List Name) where
  -- the values that were passed, of which no two are one, where the rest is still to come
  pub record ApartSoFar (rest : List Name) (values : BTreeSet Name) : Type 0 where
    pub passed : List Name
    pub parted : all ≡ passed ++ rest
    pub told : (name : Name) → IsTrue (holds values name) ↔ StandsOnce (Is name) passed
    pub apart : (name : Name) → StandsTwice (Is name) passed → ⊥

  -- at first none was passed
  pub none_seen : (rest : List Name) (values : BTreeSet Name) → rest ≡ all → values.keys ≡ [] → ApartSoFar rest values
  none_seen rest values same empty = record {
    passed = [];
    parted = sym same;
    told = λ name. (λ h. absurd (both_ways (holds values name) (ap (λ ks. list_any (λ k. is_eq (name_cmp name k)) ks) empty) h), λ s. absurd (nothing_stands s.0 s.1));
    apart = λ name w. nothing_stands w.first (w.before, w.between ++ w.later ∷ w.after, w.parts);
  }

  module _ (rest later : List Name) (own : Name) (old : BTreeSet Name) (before : ApartSoFar rest old) (is : rest ≡ own ∷ later) (added : Bool) (was : added ≡ not (holds old own)) where
    held : not added ≡ holds old own
    held = ap not was ∙ not-not (holds old own)

    -- a value is passed that is none of the others, and put to them
    pub value_seen : (new : BTreeSet Name) → ((name : Name) → holds new name ≡ cond (eq_by_cmp name_cmp own name) true (holds old name)) → added ≡ true → ApartSoFar later new
    value_seen new updates first = record {
      passed = before.passed ++ own ∷ [];
      parted = before.parted ∙ ap (λ xs. before.passed ++ xs) is ∙ sym (append_assoc before.passed (own ∷ []) later);
      told = λ name. (
        λ h. (once_push (Is name) before.passed own).1 (⊎_elim (λ k. inl ((before.told name).0 k)) (λ k. inr k) ((puts name).0 h)),
        λ s. (puts name).1 (⊎_elim (λ k. inl ((before.told name).1 k)) (λ k. inr k) ((once_push (Is name) before.passed own).0 s)),
      );
      apart = λ name w.
          ⊎_elim (before.apart name) (λ f. both_ways (holds old name) (ap (holds old) (sym f.0) ∙ sym held ∙ ap not first) ((before.told name).1 f.1))
          ((twice_push (Is name) before.passed own).0 w);
    }
      where
        by_text : (name : Name) (b : Bool) → eq_by_cmp name_cmp own name ≡ b → IsTrue (holds new name) ↔ (IsTrue (holds old name) ⊎ Is name own)
        by_text name true same = (
          λ _. inr (tells_apart name_exact own name same),
          λ _. updates name ∙ ap (λ b. cond b true (holds old name)) same,
        )
        by_text name false other =
            let kept : holds new name ≡ holds old name = updates name ∙ ap (λ b. cond b true (holds old name)) other in
            let itself : own ≡ name → eq_by_cmp name_cmp own name ≡ true = λ same. ap is_eq (ap (name_cmp own) (sym same) ∙ tied_itself name_total own) in
            (λ h. inl (sym kept ∙ h), ⊎_elim (λ h. kept ∙ h) (λ h. absurd (both_ways (eq_by_cmp name_cmp own name) other (itself h))))

        puts : (name : Name) → IsTrue (holds new name) ↔ (IsTrue (holds old name) ⊎ Is name own)
        puts name = by_text name (eq_by_cmp name_cmp own name) refl

    -- two are one where one before is this value
    pub alike_seen : added ≡ false → (name : Name) × StandsTwice (Is name) all
    alike_seen again =
        (own, subst (StandsTwice (Is own)) (sym (before.parted ∙ ap (λ xs. before.passed ++ xs) is)) (twice_with (Is own) before.passed later own ((before.told own).0 (sym held ∙ ap not again)) refl))

  -- and no two are one where all were passed
  pub none_alike : (rest : List Name) (values : BTreeSet Name) → ApartSoFar rest values → rest ≡ [] → (name : Name) → StandsTwice (Is name) all → ⊥
  none_alike rest values before is name w =
      before.apart name (subst (StandsTwice (Is name)) (before.parted ∙ ap (λ xs. before.passed ++ xs) is ∙ append-nil before.passed) w)

-- each name comes after the one before it
abbrev Rise : List Name → Type 0
Rise names = AllAdjacentBelow (λ before name. true ≡ is_lt (name_cmp before name)) names (length names)

-- so do those after the first
later_rise : (name : Name) (names : List Name) → Rise (name ∷ names) → Rise names
later_rise name names h k d within =
    let next : suc k + 1 ≡ suc (k + 1) = omega arith in
    subst (λ n. true ≡ is_lt (name_cmp (get_or names k d) (get_or (name ∷ names) n d))) next (h (suc k) d (omega arith))

-- and those after some
rest_rise : (passed names : List Name) → Rise (passed ++ names) → Rise names
rest_rise [] names h = h
rest_rise (name ∷ passed) names h = rest_rise passed names (later_rise name (passed ++ names) h)

-- the first is below each of the others
first_below : (first : Name) (between : List Name) (later : Name) (after : List Name) → Rise (first ∷ (between ++ later ∷ after)) → name_cmp first later ≡ Less
first_below first [] later after h = is_less _ (as_T _ (sym (h 0 first (omega arith))))
first_below first (name ∷ between) later after h =
    name_total.trans first name later (is_less _ (as_T _ (sym (h 0 first (omega arith))))) (first_below name between later after (later_rise first (name ∷ (between ++ later ∷ after)) h))

-- of names that were found to rise no two are one
pub none_rise_alike : (names : List Name) (b : Bool) → IsAllAdjacentAnswer (λ before name b. b ≡ is_lt (name_cmp before name)) names b → IsTrue b → IsNamedTwice names → ⊥
none_rise_alike names false told h w = cc
none_rise_alike names true told h w =
    let s = w.1 in
    let less = first_below s.first s.between s.later s.after (rest_rise s.before (s.first ∷ (s.between ++ s.later ∷ s.after)) (subst Rise s.parts told)) in
    let tied : name_cmp s.first s.later ≡ Equal = ap (name_cmp s.first) (s.later_is ∙ sym s.first_is) ∙ tied_itself name_total s.first in
    cc
