-- What offers tell of those that they stand for.
use Rattle.std.proofs.Common.{◌≡◌, ◌≢◌, ◌⊎◌, ◌↔◌, inl, inr, ⊎_elim, true, false, not, cond, ℕ, List, [], ◌∷◌, ◌++◌, Option, Some, None, refl, sym, ap, subst, ◌∙◌}
use Rattle.std.proofs.lemmas.Cmp.{nat_list_cmp_total}
use Rattle.std.specs.Cmp.{tied_itself}
use Rattle.std.specs.FinMap.{slice_cmp-IsAntisymmetric, nat_cmp-IsAntisymmetric}
use Rattle.std.specs.Ordering.{is_lt, ordering_reverse}
use Rattle.std.specs.declared.cmp.Ordering.TheVariants.{Equal, Greater, Less}
use Rattle.odd_text.specs.Text.{text_cmp}
use Rattle.odd_text.specs.Standing.{StandsIn}
use Rattle.odd_text.proofs.InList.{first_or_later, nothing_stands, only_item, stands_first, stands_later}
use Rattle.odd_attributes.specs.Attributes.{def_changed}
use Rattle.odd_attributes.specs.declared.att_def.AttDef.{AttDef}
use Rattle.odd_attributes.specs.declared.att_edit.AttFields.{AttFields}
use Rattle.odd_offers.specs.Same.{first as first_true, second as second_true}
use Rattle.odd_offers.specs.Tables.{MakesOne, StandFor, StandsAt, added, added_each, offers_joined, united_at}
use Rattle.odd_offers.specs.Telling.{is_told}
use Rattle.odd_offers.specs.declared.table.Offer.{Offer}
use Rattle.odd_offers.proofs.Lists.{any_stands, not_true, stands_either, stands_left, stands_right}
use Rattle.odd_offers.proofs.ToldSame.{told_same}

-- what is not above the one, where that is not above the other, is not above the other
pub not_above : (x y z : List ℕ) → text_cmp x y ≢ Greater → text_cmp y z ≢ Greater → text_cmp x z ≢ Greater
not_above x y z first second =
    elim (text_cmp x y) as (λ o. text_cmp x y ≡ o → text_cmp x z ≢ Greater) [
      | Less ↦ λ e. elim (text_cmp y z) as (λ o. text_cmp y z ≡ o → text_cmp x z ≢ Greater) [
        | Less ↦ λ f g. let less = nat_list_cmp_total.trans x y z e f in cc
        | Equal ↦ λ f. subst (λ w. text_cmp x w ≢ Greater) (exact y z f) first
        | Greater ↦ λ f. absurd (second f)
      ] refl
      | Equal ↦ λ e. subst (λ w. text_cmp w z ≢ Greater) (sym (exact x y e)) second
      | Greater ↦ λ e. absurd (first e)
    ] refl
  where
    exact : (a b : List ℕ) → text_cmp a b ≡ Equal → a ≡ b
    exact a b = slice_cmp-IsAntisymmetric nat_cmp-IsAntisymmetric a b

-- a text is not above itself
pub not_above_itself : (x : List ℕ) → text_cmp x x ≢ Greater
not_above_itself x g = let tied = tied_itself nat_list_cmp_total x in cc

-- what is not below the other is not above it the other way round
pub not_below : (x y : List ℕ) → is_lt (text_cmp x y) ≡ false → text_cmp y x ≢ Greater
not_below x y h g =
    elim (text_cmp x y) as (λ o. text_cmp x y ≡ o → ⊥) [
      | Less ↦ λ e. let no : true ≡ false = sym (ap is_lt e) ∙ h in cc
      | Equal ↦ λ e. let no : Greater ≡ Equal = sym g ∙ nat_list_cmp_total.antisymm y x ∙ ap ordering_reverse e in cc
      | Greater ↦ λ e. let no : Greater ≡ Less = sym g ∙ nat_list_cmp_total.antisymm y x ∙ ap ordering_reverse e in cc
    ] refl

-- offers stand for what they are
pub themselves : (IsOne : AttDef → List ℕ → Type 0) (offers : Option (List Offer)) → ((def : AttDef) (giver : List ℕ) → StandsAt offers def giver ↔ IsOne def giver) → StandFor IsOne offers
themselves IsOne offers same = record {
  sound = λ def giver s. (same def giver).0 s;
  least = λ def giver h. (record { def = def; giver = giver }, (same def giver).1 h, not_above_itself giver);
  apart = λ fields one def giver h kept kept_giver s. one def kept giver kept_giver ((same def giver).1 h) s;
}

-- and for the same by other words
pub stand_same : (Is Other : AttDef → List ℕ → Type 0) (offers : Option (List Offer)) → ((def : AttDef) (giver : List ℕ) → Is def giver ↔ Other def giver) → StandFor Is offers → StandFor Other offers
stand_same Is Other offers same stand = record {
  sound = λ def giver s. (same def giver).0 (stand.sound def giver s);
  least = λ def giver h. stand.least def giver ((same def giver).1 h);
  apart = λ fields one def giver h. stand.apart fields one def giver ((same def giver).1 h);
}

-- and so do others that are the same
pub same_stand : (Is : AttDef → List ℕ → Type 0) (offers made : Option (List Offer)) → ((def : AttDef) (giver : List ℕ) → StandsAt made def giver ↔ StandsAt offers def giver) → StandFor Is offers → StandFor Is made
same_stand Is offers made same stand = record {
  sound = λ def giver s. stand.sound def giver ((same def giver).0 s);
  least = λ def giver h. let kept = stand.least def giver h in (kept.0, (same kept.0.def kept.0.giver).1 kept.1, kept.2);
  apart = λ fields one def giver h kept kept_giver s.
      stand.apart fields (λ a b g k m n. one a b g k ((same a g).1 m) ((same b k).1 n)) def giver h kept kept_giver ((same kept kept_giver).0 s);
}

module _ (Is Others : AttDef → List ℕ → Type 0) (offers made : Option (List Offer)) (stand : StandFor Is offers) (all : StandFor Others made)
    (among : (def : AttDef) (giver : List ℕ) → StandsAt offers def giver → Others def giver) where
  -- what stands for offers that stand for others has no greater giver than these
  pub through_least : (def : AttDef) (giver : List ℕ) → Is def giver → (kept : Offer) × StandsAt made kept.def kept.giver × (text_cmp kept.giver giver ≢ Greater)
  through_least def giver h =
      let near = stand.least def giver h in
      let far = all.least near.0.def near.0.giver (among near.0.def near.0.giver near.1) in
      (far.0, far.1, not_above far.0.giver near.0.giver giver far.2 near.2)

  -- and a change that makes it one makes them one
  pub through_apart : (fields : AttFields) → MakesOne fields made → (def : AttDef) (giver : List ℕ) → Is def giver → (kept : AttDef) (kept_giver : List ℕ) → StandsAt made kept kept_giver
      → def_changed fields def ≡ def_changed fields kept
  through_apart fields one def giver h kept kept_giver s =
      let near = stand.least def giver h in
      let to : (d : AttDef) (g : List ℕ) → StandsAt offers d g → def_changed fields d ≡ def_changed fields kept = λ d g n. all.apart fields one d g (among d g n) kept kept_giver s in
      stand.apart fields (λ a b g k m n. to a g m ∙ sym (to b k n)) def giver h near.0.def near.0.giver near.1 ∙ to near.0.def near.0.giver near.1

-- an offer is one of these or one of those
abbrev Either : Option (List Offer) → Option (List Offer) → AttDef → List ℕ → Type 0
Either a b def giver = StandsAt a def giver ⊎ StandsAt b def giver

-- what stands for two that stand for others stands for all of these
pub of_both : (Is Other : AttDef → List ℕ → Type 0) (a b made : Option (List Offer)) → StandFor Is a → StandFor Other b → StandFor (Either a b) made
    → StandFor (λ def giver. Is def giver ⊎ Other def giver) made
of_both Is Other a b made for_a for_b all = record {
  sound = λ def giver s. ⊎_elim (λ m. inl (for_a.sound def giver m)) (λ m. inr (for_b.sound def giver m)) (all.sound def giver s);
  least = λ def giver h.
      ⊎_elim (λ k. through_least Is (Either a b) a made for_a all (λ d g m. inl m) def giver k) (λ k. through_least Other (Either a b) b made for_b all (λ d g m. inr m) def giver k) h;
  apart = λ fields one def giver h kept kept_giver s.
      ⊎_elim
      (λ k. through_apart Is (Either a b) a made for_a all (λ d g m. inl m) fields one def giver k kept kept_giver s)
      (λ k. through_apart Other (Either a b) b made for_b all (λ d g m. inr m) fields one def giver k kept kept_giver s) h;
}

-- an offer is one of these, or this one
abbrev IsMore : List Offer → Offer → AttDef → List ℕ → Type 0
IsMore xs o def giver = StandsAt (Some xs) def giver ⊎ (record { def = def; giver = giver } ≡ o)

-- where an offer tells nothing more, the others stand for it too
told_stand : (o : Offer) (xs : List Offer) → is_told xs o ≡ true → StandFor (IsMore xs o) (Some xs)
told_stand o [] e = cc
told_stand o (first ∷ xs) e = record {
  sound = λ def giver s. inl s;
  least = λ def giver h.
      ⊎_elim (λ s. (record { def = def; giver = giver }, s, not_above_itself giver))
      (λ is.
      let k = any_stands (λ (x : Offer). not (is_lt (text_cmp o.giver x.giver))) (first ∷ xs) (first_true _ _ e) in
      (k.0, k.1, subst (λ (x : Offer). text_cmp k.0.giver x.giver ≢ Greater) (sym is) (not_below o.giver k.0.giver (not_true _ k.2)))) h;
  apart = λ fields one def giver h kept kept_giver s.
      ⊎_elim (λ m. one def kept giver kept_giver m s)
      (λ is.
      ap (λ (x : Offer). def_changed fields x.def) is
      ∙ told_same first.def (first ∷ xs) o.def (second_true _ _ e) fields (λ x m. one x.def first.def x.giver first.giver m (stands_first first xs))
      ∙ one first.def kept first.giver kept_giver (stands_first first xs) s) h;
}

-- the offers with one put to them
added_stand : (o : Offer) (xs : List Offer) → StandFor (IsMore xs o) (Some (added xs o))
added_stand o xs =
    elim (is_told xs o) as (λ b. is_told xs o ≡ b → StandFor (IsMore xs o) (Some (cond b xs (xs ++ o ∷ [])))) [
      | true ↦ told_stand o xs
      | false ↦ λ e. themselves (IsMore xs o) (Some (xs ++ o ∷ [])) (λ def giver.
          let x : Offer = record { def = def; giver = giver } in (
            λ h. ⊎_elim (λ k. inl k) (λ k. inr (only_item o x k)) (stands_either xs (o ∷ []) x h),
            λ h. ⊎_elim (λ k. stands_left xs (o ∷ []) x k) (λ k. stands_right xs (o ∷ []) x (subst (StandsIn (o ∷ [])) (sym k) (stands_first o []))) h,
          ))
    ] refl

-- offers stand for themselves
these : (offers : Option (List Offer)) → StandFor (StandsAt offers) offers
these offers = themselves (StandsAt offers) offers (λ def giver. (λ h. h, λ h. h))

-- the offers with more put to them
added_each_stand : (xs os : List Offer) → StandFor (Either (Some xs) (Some os)) (Some (added_each xs os))
added_each_stand xs [] = themselves (Either (Some xs) (Some [])) (Some xs) (λ def giver. (λ h. inl h, λ h. ⊎_elim (λ k. k) (λ k. absurd (nothing_stands _ k)) h))
added_each_stand xs (o ∷ os) =
    let rest = added_each xs os in
    let made = Some (added rest o) in
    let with_one : StandFor (Either (Some rest) (Some (o ∷ []))) made =
    stand_same (IsMore rest o) (Either (Some rest) (Some (o ∷ []))) made (λ def giver. (
      λ h. ⊎_elim (λ k. inl k) (λ k. inr (subst (StandsIn (o ∷ [])) (sym k) (stands_first o []))) h,
      λ h. ⊎_elim (λ k. inl k) (λ k. inr (only_item o _ k)) h,
    )) (added_stand o rest) in
    stand_same (λ def giver. Either (Some xs) (Some os) def giver ⊎ StandsAt (Some (o ∷ [])) def giver) (Either (Some xs) (Some (o ∷ os))) made (λ def giver. (
      λ h. ⊎_elim (λ k. ⊎_elim (λ s. inl s) (λ s. inr (stands_later o _ os s)) k) (λ k. inr (subst (StandsIn (o ∷ os)) (sym (only_item o _ k)) (stands_first o os))) h,
      λ h. ⊎_elim (λ k. inl (inl k))
          (λ k. ⊎_elim (λ is. inr (subst (StandsIn (o ∷ [])) (sym is) (stands_first o []))) (λ s. inl (inr s)) (first_or_later o _ os k)) h,
    ))
    (of_both (Either (Some xs) (Some os)) (StandsAt (Some (o ∷ []))) (Some rest) (Some (o ∷ [])) made (added_each_stand xs os) (these (Some (o ∷ []))) with_one)

-- what is made of two lists stands for both
joined_stand : (xs os : List Offer) → StandFor (Either (Some xs) (Some os)) (Some (offers_joined xs os))
joined_stand [] os = themselves (Either (Some []) (Some os)) (Some os) (λ def giver. (λ h. inr h, λ h. ⊎_elim (λ k. absurd (nothing_stands _ k)) (λ k. k) h))
joined_stand (x ∷ xs) os =
    let near = added_each (x ∷ []) os in
    let made = Some (added_each near xs) in
    stand_same (λ def giver. Either (Some (x ∷ [])) (Some os) def giver ⊎ StandsAt (Some xs) def giver) (Either (Some (x ∷ xs)) (Some os)) made (λ def giver. (
      λ h. ⊎_elim (λ k. ⊎_elim (λ s. inl (subst (StandsIn (x ∷ xs)) (sym (only_item x _ s)) (stands_first x xs))) (λ s. inr s) k) (λ k. inl (stands_later x _ xs k)) h,
      λ h. ⊎_elim (λ k. ⊎_elim (λ is. inl (inl (subst (StandsIn (x ∷ [])) (sym is) (stands_first x [])))) (λ s. inr s) (first_or_later x _ xs k)) (λ k. inl (inr k)) h,
    ))
    (of_both (Either (Some (x ∷ [])) (Some os)) (StandsAt (Some xs)) (Some near) (Some xs) made (added_each_stand (x ∷ []) os) (these (Some xs)) (added_each_stand near xs))

-- to put the last and then those before it is to put all
pub each_before : (xs left all : List Offer) (x : Offer) → all ≡ left ++ x ∷ [] → added_each (added xs x) left ≡ added_each xs all
each_before xs left all x e = each left ∙ ap (added_each xs) (sym e)
  where
    each : (ys : List Offer) → added_each (added xs x) ys ≡ added_each xs (ys ++ x ∷ [])
    each [] = refl
    each (y ∷ ys) = ap (λ zs. added zs y) (each ys)

-- the offers of one list and of another
pub united_stand : (a b : Option (List Offer)) → StandFor (Either a b) (united_at a b)
united_stand None b = themselves (Either None b) b (λ def giver. (λ h. inr h, λ h. ⊎_elim (λ k. absurd k) (λ k. k) h))
united_stand (Some xs) None =
    themselves (Either (Some xs) None) (Some xs) (λ def giver. (λ h. inl h, λ h. ⊎_elim (λ k. k) (λ k. absurd k) h))
united_stand (Some xs) (Some ys) = joined_stand xs ys
