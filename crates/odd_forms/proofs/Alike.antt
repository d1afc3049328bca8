-- Values of which two are one, looked for one after the other.
use Rattle.std.proofs.Common.{◌≡◌, ◌↔◌, ◌⊎◌, ℕ, Bool, true, false, cond, not, List, [], ◌∷◌, ◌++◌, inl, inr, ⊎_elim, IsTrue, refl, sym, ap, subst, ◌∙◌, append_assoc}
use Rattle.std.proofs.Math.Bool.{not-not}
use Rattle.std.proofs.lemmas.Bool.{both_ways}
use Rattle.std.proofs.lemmas.Cmp.{nat_list_cmp_total}
use Rattle.std.proofs.lemmas.List.{append-nil}
use Rattle.std.proofs.lemmas.Map.Views.{tells_apart}
use Rattle.std.specs.BTreeSet.{BTreeSet, contains_by}
use Rattle.std.specs.Cmp.{tied_itself}
use Rattle.std.specs.FinMap.{slice_cmp-IsAntisymmetric, nat_cmp-IsAntisymmetric}
use Rattle.std.specs.List.{list_any}
use Rattle.std.specs.Ordering.{eq_by_cmp, is_eq}
use Rattle.odd_text.specs.Text.{text_cmp}
use Rattle.odd_text.proofs.InList.{StandsOnce, nothing_stands, once_push}
use Rattle.odd_text.specs.Standing.{StandsTwice}
use Rattle.odd_forms.proofs.Children.{twice_push, twice_with}

-- whether the set holds the text
abbrev holds : BTreeSet (List ℕ) → List ℕ → Bool
holds values text = contains_by (text_cmp text) values

-- the value is the text
abbrev Is : List ℕ → List ℕ → Type 0
Is text value = value ≡ text

module _ (all : List (List ℕ)) where
  -- the values that were passed, of which no two are one, where the rest is still to come
  pub record ApartSoFar (rest : List (List ℕ)) (values : BTreeSet (List ℕ)) : Type 0 where
    pub passed : List (List ℕ)
    pub parted : all ≡ passed ++ rest
    pub told : (text : List ℕ) → IsTrue (holds values text) ↔ StandsOnce (Is text) passed
    pub apart : (text : List ℕ) → StandsTwice (Is text) passed → ⊥

  -- at first none was passed
  pub none_seen : (rest : List (List ℕ)) (values : BTreeSet (List ℕ)) → rest ≡ all → values.keys ≡ [] → ApartSoFar rest values
  none_seen rest values same empty = record {
    passed = [];
    parted = sym same;
    told = λ text. (λ h. absurd (both_ways (holds values text) (ap (λ ks. list_any (λ k. is_eq (text_cmp text k)) ks) empty) h), λ s. absurd (nothing_stands s.0 s.1));
    apart = λ text w. nothing_stands w.first (w.before, w.between ++ w.later ∷ w.after, w.parts);
  }

  module _ (rest later : List (List ℕ)) (own : List ℕ) (old : BTreeSet (List ℕ)) (before : ApartSoFar rest old) (is : rest ≡ own ∷ later) (added : Bool) (was : added ≡ not (holds old own)) where
    held : not added ≡ holds old own
    held = ap not was ∙ not-not (holds old own)

    -- a value is passed that is none of the others, and put to them
    pub value_seen : (new : BTreeSet (List ℕ)) → ((text : List ℕ) → holds new text ≡ cond (eq_by_cmp text_cmp own text) true (holds old text)) → added ≡ true → ApartSoFar later new
    value_seen new updates first = record {
      passed = before.passed ++ own ∷ [];
      parted = before.parted ∙ ap (λ xs. before.passed ++ xs) is ∙ sym (append_assoc before.passed (own ∷ []) later);
      told = λ text. (
        λ h. (once_push (Is text) before.passed own).1 (⊎_elim (λ k. inl ((before.told text).0 k)) (λ k. inr k) ((puts text).0 h)),
        λ s. (puts text).1 (⊎_elim (λ k. inl ((before.told text).1 k)) (λ k. inr k) ((once_push (Is text) before.passed own).0 s)),
      );
      apart = λ text w.
          ⊎_elim (before.apart text) (λ f. both_ways (holds old text) (ap (holds old) (sym f.0) ∙ sym held ∙ ap not first) ((before.told text).1 f.1))
          ((twice_push (Is text) before.passed own).0 w);
    }
      where
        by_text : (text : List ℕ) (b : Bool) → eq_by_cmp text_cmp own text ≡ b → IsTrue (holds new text) ↔ (IsTrue (holds old text) ⊎ Is text own)
        by_text text true same = (
          λ _. inr (tells_apart (slice_cmp-IsAntisymmetric nat_cmp-IsAntisymmetric) own text same),
          λ _. updates text ∙ ap (λ b. cond b true (holds old text)) same,
        )
        by_text text false other =
            let kept : holds new text ≡ holds old text = updates text ∙ ap (λ b. cond b true (holds old text)) other in
            let itself : own ≡ text → eq_by_cmp text_cmp own text ≡ true = λ same. ap is_eq (ap (text_cmp own) (sym same) ∙ tied_itself nat_list_cmp_total own) in
            (λ h. inl (sym kept ∙ h), ⊎_elim (λ h. kept ∙ h) (λ h. absurd (both_ways (eq_by_cmp text_cmp own text) other (itself h))))

        puts : (text : List ℕ) → IsTrue (holds new text) ↔ (IsTrue (holds old text) ⊎ Is text own)
        puts text = by_text text (eq_by_cmp text_cmp own text) refl

    -- two are one where one before is this value
    pub alike_seen : added ≡ false → (text : List ℕ) × StandsTwice (Is text) all
    alike_seen again =
        (own, subst (StandsTwice (Is own)) (sym (before.parted ∙ ap (λ xs. before.passed ++ xs) is)) (twice_with (Is own) before.passed later own ((before.told own).0 (sym held ∙ ap not again)) refl))

  -- and no two are one where all were passed
  pub none_alike : (rest : List (List ℕ)) (values : BTreeSet (List ℕ)) → ApartSoFar rest values → rest ≡ [] → (text : List ℕ) → StandsTwice (Is text) all → ⊥
  none_alike rest values before is text w =
      before.apart text (subst (StandsTwice (Is text)) (before.parted ∙ ap (λ xs. before.passed ++ xs) is ∙ append-nil before.passed) w)
