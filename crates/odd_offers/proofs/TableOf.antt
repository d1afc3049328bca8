-- The table of a class from what it inherits and its own edits, and what is inherited from the tables of classes.
use Rattle.std.proofs.Common.{◌≡◌, ◌<◌, ◌-◌, arith, length, get_or, suc, ◌⊎◌, inl, inr, ⊎_elim, ℕ, List, [], ◌∷◌, ◌++◌, Option, Some, None, map, refl, sym, ap, subst, ◌∙◌}
use Rattle.std.proofs.lemmas.Cmp.{nat_list_cmp_total}
use Rattle.std.specs.Prelude.{IsSome, unwrap_or}
use Rattle.std.specs.FinMap.{find, slice_cmp-IsAntisymmetric, nat_cmp-IsAntisymmetric}
use Rattle.odd_text.specs.Key.{key_cmp}
use Rattle.odd_text.specs.Text.{text_cmp}
use Rattle.odd_text.specs.declared.key.Key.{Key}
use Rattle.odd_text.specs.Standing.{StandsIn}
use Rattle.odd_text.proofs.InList.{map_stands, nothing_stands, only_item, stands_first, stands_map}
use Rattle.odd_overlay.specs.Overlaid.{find_zipped, zipped}
use Rattle.odd_attributes.specs.Attributes.{att_one_by_one, def_changed, fields_joined}
use Rattle.odd_attributes.specs.declared.att_def.AttDef.{AttDef}
use Rattle.odd_attributes.specs.declared.att_edit.AttEdit.{AttEdit}
use Rattle.odd_attributes.specs.declared.att_edit.AttEdit.TheVariants.{Set, Change, Delete}
use Rattle.odd_attributes.specs.declared.att_edit.AttFields.{AttFields}
use Rattle.odd_library.specs.declared.library.Component.{Component}
use Rattle.odd_library.specs.declared.library.Library.{Library}
use Rattle.odd_meaning.specs.Links.{IsHeld, class_key, memberships}
use Rattle.odd_meaning.specs.Offering.{Inherits, Offers, Passes, edits_of}
use Rattle.odd_offers.specs.Tables.{HaveAll, IsInherited, IsOwnTable, IsTableOf, StandFor, StandsAt, Table, Tells, offer_changed, own_at, united, united_at}
use Rattle.odd_offers.specs.declared.table.Offer.{Offer}
use Rattle.odd_offers.proofs.Lists.{stands_either, stands_left, stands_right}
use Rattle.odd_offers.proofs.StandingFor.{of_both, same_stand, stand_same, themselves, united_stand}

-- two values that are there are one where the options are
pub same_some : {A : Type 0} (x y : A) → Some x ≡ Some y → x ≡ y
same_some x y e = cc

-- it is a Set of its own, or something passed
own_from : (class : List ℕ) (e : Option AttEdit) (o : Option (List Offer)) (def : AttDef) (giver : List ℕ) → StandsAt (own_at class e o) def giver
    → ((e ≡ Some (Set def)) × (giver ≡ class)) ⊎ ((before : AttDef) × Passes e before def × StandsAt o before giver)
own_from class None o def giver h = inr (def, Passes.as_it_is, h)
own_from class (Some (Set d)) o def giver h =
    let e = only_item (record { def = d; giver = class }) (record { def = def; giver = giver }) h in
    inl (ap (λ (x : Offer). Some (Set x.def)) (sym e), ap (λ (x : Offer). x.giver) e)
own_from class (Some Delete) o def giver h = absurd h
own_from class (Some (Change f)) None def giver h = absurd h
own_from class (Some (Change f)) (Some os) def giver h =
    let r = stands_map (offer_changed f) os (record { def = def; giver = giver }) h in
    let there : StandsIn os (record { def = r.0.def; giver = giver }) = subst (λ (g : List ℕ). StandsIn os (record { def = r.0.def; giver = g })) (ap (λ (x : Offer). x.giver) (sym r.2)) r.1 in
    inr (r.0.def, subst (λ d. Passes (Some (Change f)) r.0.def d) (ap (λ (x : Offer). x.def) (sym r.2)) (Passes.changed f), there)

-- what is offered by own edits over what there is
abbrev pub IsMade : List ℕ → Option AttEdit → (AttDef → List ℕ → Type 0) → AttDef → List ℕ → Type 0
IsMade class e Is def giver = ((e ≡ Some (Set def)) × (giver ≡ class)) ⊎ ((before : AttDef) × Passes e before def × Is before giver)

-- what passes without an own edit stays
pub passes_none : (before def : AttDef) → Passes None before def → def ≡ before
passes_none before def Passes.as_it_is = refl

-- what passes a Change is changed
pub passes_change : (f : AttFields) (before def : AttDef) → Passes (Some (Change f)) before def → def ≡ def_changed f before
passes_change f before def (Passes.changed g) = refl

-- an own edit that lets one definition pass lets each
pub passes_too : (e : Option AttEdit) (before def other : AttDef) → Passes e before def → (made : AttDef) × Passes e other made
passes_too None before def other p = (other, Passes.as_it_is)
passes_too (Some (Set d)) before def other p = elim p [ ]
passes_too (Some Delete) before def other p = elim p [ ]
passes_too (Some (Change f)) before def other p = (def_changed f other, Passes.changed f)

-- no offers stand for nothing
nothing_made : (Is : AttDef → List ℕ → Type 0) → ((def : AttDef) (giver : List ℕ) → Is def giver → ⊥) → StandFor Is None
nothing_made Is never = themselves Is None (λ def giver. (λ h. absurd h, λ h. absurd (never def giver h)))

-- to change a definition twice is to change it once by both
changed_twice : (f g : AttFields) (def : AttDef) → def_changed g (def_changed f def) ≡ def_changed (fields_joined f g) def
changed_twice f g def = same_some _ _ (att_one_by_one (Change f) (Change g) (Some def))

-- where offers stand for what there is, changed ones stand for what comes of it by the change
changed_stand : (class : List ℕ) (f : AttFields) (os : List Offer) (Is : AttDef → List ℕ → Type 0) → StandFor Is (Some os)
    → StandFor (IsMade class (Some (Change f)) Is) (Some (map (offer_changed f) os))
changed_stand class f os Is stand = record {
  sound = λ def giver s. by_class def giver (own_from class (Some (Change f)) (Some os) def giver s);
  least = λ def giver h.
      let k = passed def giver h in
      let near = stand.least k.0 giver k.2 in
      (offer_changed f near.0, map_stands (offer_changed f) os near.0 near.1, near.2);
  apart = λ fields one def giver h kept kept_giver s.
      let k = passed def giver h in
      let from = stands_map (offer_changed f) os (record { def = kept; giver = kept_giver }) s in
      let to : (d : AttDef) → def_changed (fields_joined f fields) d ≡ def_changed fields (def_changed f d) = λ d. sym (changed_twice f fields d) in
      let same = stand.apart (fields_joined f fields) (λ a b g h m n. to a ∙ one (def_changed f a) (def_changed f b) g h
      (map_stands (offer_changed f) os (record { def = a; giver = g }) m) (map_stands (offer_changed f) os (record { def = b; giver = h }) n) ∙ sym (to b))
      k.0 giver k.2 from.0.def from.0.giver from.1 in
      ap (def_changed fields) (passes_change f k.0 def k.1) ∙ sym (to k.0) ∙ same ∙ to from.0.def ∙ ap (λ (x : Offer). def_changed fields x.def) (sym from.2);
}
  where
    passed : (def : AttDef) (giver : List ℕ) → IsMade class (Some (Change f)) Is def giver → (before : AttDef) × Passes (Some (Change f)) before def × Is before giver
    passed def giver h = ⊎_elim (λ k. let no : Change f ≡ Set def = same_some (Change f) (Set def) k.0 in cc) (λ k. k) h

    by_class : (def : AttDef) (giver : List ℕ) → IsMade class (Some (Change f)) (StandsAt (Some os)) def giver → IsMade class (Some (Change f)) Is def giver
    by_class def giver h = ⊎_elim (λ k. inl k) (λ k. inr (k.0, k.1, stand.sound k.0 giver k.2)) h

-- what a class makes of offers stands for what it makes of all for which they stand
own_stand : (class : List ℕ) (e : Option AttEdit) (o : Option (List Offer)) (Is : AttDef → List ℕ → Type 0) → StandFor Is o → StandFor (IsMade class e Is) (own_at class e o)
own_stand class None o Is stand =
    stand_same Is (IsMade class None Is) o (λ def giver. (
      λ h. inr (def, Passes.as_it_is, h),
      λ h. ⊎_elim (λ k. cc) (λ k. subst (λ d. Is d giver) (sym (passes_none k.0 def k.1)) k.2) h,
    )) stand
own_stand class (Some (Set d)) o Is stand =
    themselves (IsMade class (Some (Set d)) Is) (Some (record { def = d; giver = class } ∷ [])) (λ def giver. (
      λ h. ⊎_elim (λ k. inl k) (λ k. elim k.1 [ ]) (own_from class (Some (Set d)) o def giver h),
      λ h. ⊎_elim
          (λ k.
          let same : Set d ≡ Set def = same_some (Set d) (Set def) k.0 in
          let one : d ≡ def = cc in
          let own : Offer = record { def = d; giver = class } in
          let this : own ≡ record { def = def; giver = giver } = λ i. record { def = one i; giver = sym k.1 i } in
          subst (StandsIn (own ∷ [])) this (stands_first own []))
          (λ k. elim k.1 [ ]) h,
    ))
own_stand class (Some Delete) o Is stand = nothing_made (IsMade class (Some Delete) Is) (λ def giver h. ⊎_elim (λ k. cc) (λ k. elim k.1 [ ]) h)
own_stand class (Some (Change f)) None Is stand =
    nothing_made (IsMade class (Some (Change f)) Is)
    (λ def giver h. ⊎_elim (λ k. let no : Change f ≡ Set def = same_some (Change f) (Set def) k.0 in cc) (λ k. absurd (stand.least k.0 giver k.2).1) h)
own_stand class (Some (Change f)) (Some os) Is stand = changed_stand class f os Is stand

-- what is found in the table
own_found : (class : List ℕ) (edits : List (List ℕ × AttEdit)) (inherited : Table) (ident : List ℕ)
    → find text_cmp ident (zipped text_cmp (own_at class) edits inherited) ≡ own_at class (find text_cmp ident edits) (find text_cmp ident inherited)
own_found class edits inherited ident = find_zipped text_cmp nat_list_cmp_total (slice_cmp-IsAntisymmetric nat_cmp-IsAntisymmetric) (own_at class) refl edits inherited ident

module _ (library : Library) (class : List ℕ) (part : Component) (held : find key_cmp (class_key class) library.parts ≡ Some part) (ident : List ℕ) where
  abbrev IsThere : AttDef → List ℕ → Type 0
  IsThere def giver = Inherits library part ident def (class_key giver)

  abbrev edit : Option AttEdit
  edit = find text_cmp ident (edits_of part)

  -- what comes of what is inherited by the own edit is offered
  is_offered : (def : AttDef) (giver : List ℕ) → IsMade class edit IsThere def giver → Offers library (class_key class) ident def (class_key giver)
  is_offered def giver h =
      ⊎_elim (λ k. subst (λ g. Offers library (class_key class) ident def (class_key g)) (sym k.1) (Offers.own part held k.0))
      (λ k. Offers.inherited part k.2.class k.0 held k.2.among k.2.offered k.1) h

  -- and nothing else
  has_offered : (holder key : Key) (def : AttDef) (giver : List ℕ) → holder ≡ class_key class → key ≡ class_key giver → Offers library holder ident def key → IsMade class edit IsThere def giver
  has_offered holder key def giver eh ek (Offers.own other is e) =
      let same : other ≡ part = same_some other part (sym is ∙ ap (λ k. find key_cmp k library.parts) eh ∙ held) in
      inl (subst (λ (p : Component). find text_cmp ident (edits_of p) ≡ Some (Set def)) same e, ap (λ (k : Key). k.ident) (sym ek ∙ eh))
  has_offered holder key def giver eh ek (Offers.inherited other through before is among offered passes) =
      let same : other ≡ part = same_some other part (sym is ∙ ap (λ k. find key_cmp k library.parts) eh ∙ held) in
      inr (
        before,
        subst (λ (p : Component). Passes (find text_cmp ident (edits_of p)) before def) same passes,
        record {
          class = through;
          among = subst (λ (p : Component). StandsIn (memberships p) through) same among;
          offered = subst (λ k. Offers library (class_key through) ident before k) ek offered;
        },
      )

-- with what it inherits the class's own edits make its table
pub own_offers : (library : Library) (class : List ℕ) (part : Component) (inherited : Table) → find key_cmp (class_key class) library.parts ≡ Some part → IsInherited library part inherited
    → (made : Table) → IsOwnTable class (edits_of part) inherited made → IsTableOf library class made
own_offers library class part inherited held all made own ident =
    let edit = find text_cmp ident (edits_of part) in
    let there = find text_cmp ident inherited in
    let Is : AttDef → List ℕ → Type 0 = λ def giver. Inherits library part ident def (class_key giver) in
    same_stand (λ def giver. Offers library (class_key class) ident def (class_key giver)) (own_at class edit there) (find text_cmp ident made) (own ident)
    (stand_same (IsMade class edit Is) (λ def giver. Offers library (class_key class) ident def (class_key giver)) (own_at class edit there)
    (λ def giver. (is_offered library class part held ident def giver, has_offered library class part held ident (class_key class) (class_key giver) def giver refl refl))
    (own_stand class edit there Is (all ident)))

-- edits laid over a table in one sweep
pub own_zipped : (class : List ℕ) (edits : List (List ℕ × AttEdit)) (inherited : Table) → IsOwnTable class edits inherited (zipped text_cmp (own_at class) edits inherited)
own_zipped class edits inherited ident def giver =
    let found = own_found class edits inherited ident in
    (λ h. subst (λ o. StandsAt o def giver) found h, λ h. subst (λ o. StandsAt o def giver) (sym found) h)

-- the offers of two tables
united_tells : (one other : Table) (ident : List ℕ) → StandFor (λ def giver. Tells one ident def giver ⊎ Tells other ident def giver) (find text_cmp ident (united one other))
united_tells one other ident =
    let found = find_zipped text_cmp nat_list_cmp_total (slice_cmp-IsAntisymmetric nat_cmp-IsAntisymmetric) united_at refl one other ident in
    subst (StandFor (λ def giver. Tells one ident def giver ⊎ Tells other ident def giver)) (sym found) (united_stand (find text_cmp ident one) (find text_cmp ident other))

-- one of the tables has the offer
abbrev OneTells : List Table → List ℕ → AttDef → List ℕ → Type 0
OneTells tables ident def giver = (table : Table) × StandsIn tables table × Tells table ident def giver

-- no table has nothing
pub all_of_none : (tables : List Table) (made : Table) → tables ≡ [] → made ≡ [] → HaveAll tables made
all_of_none tables made none empty ident = themselves (OneTells tables ident) (find text_cmp ident made) (λ def giver. (
  λ h. absurd (subst (λ (t : Table). Tells t ident def giver) empty h),
  λ h. absurd (nothing_stands h.0 (subst (λ (ts : List Table). StandsIn ts h.0) none h.1)),
))

-- of one table it is all
pub all_of_one : (tables : List Table) (table made : Table) → tables ≡ table ∷ [] → made ≡ table → HaveAll tables made
all_of_one tables table made one same ident = themselves (OneTells tables ident) (find text_cmp ident made) (λ def giver. (
  λ h. (table, subst (λ (ts : List Table). StandsIn ts table) (sym one) (stands_first table []), subst (λ (t : Table). Tells t ident def giver) same h),
  λ h. subst (λ (t : Table). Tells t ident def giver) (only_item table h.0 (subst (λ (ts : List Table). StandsIn ts h.0) one h.1) ∙ sym same) h.2,
))

-- of fewer than two tables it is the last, or nothing
pub all_of_few : (tables : List Table) (popped : Option Table) (empty made : Table) → length tables < 2 → (IsSome popped → 0 < length tables)
    → ((d : Table) → 0 < length tables → popped ≡ Some (get_or tables (length tables - 1) d)) → empty ≡ [] → made ≡ unwrap_or popped empty → HaveAll tables made
all_of_few [] None empty made few some last none is = all_of_none [] made refl (is ∙ none)
all_of_few [] (Some table) empty made few some last none is = absurd (omega (arith, some search))
all_of_few (table ∷ []) popped empty made few some last none is = all_of_one (table ∷ []) table made refl (is ∙ ap (λ p. unwrap_or p empty) (last table (omega arith)))
all_of_few (table ∷ other ∷ tables) popped empty made few some last none is = absurd (too_long (length tables) few)
  where
    too_long : (n : ℕ) → suc (suc n) < 2 → ⊥
    too_long n h = omega arith

-- two halves make the whole
pub all_of_both : (xs ys tables : List Table) (one other made : Table) → tables ≡ xs ++ ys → HaveAll xs one → HaveAll ys other → made ≡ united one other → HaveAll tables made
all_of_both xs ys tables one other made is first second e ident =
    subst (λ (t : Table). StandFor (OneTells tables ident) (find text_cmp ident t)) (sym e)
    (stand_same (λ def giver. OneTells xs ident def giver ⊎ OneTells ys ident def giver) (OneTells tables ident) (find text_cmp ident (united one other)) (λ def giver. (
      λ h. ⊎_elim (λ r. (r.0, subst (λ (ts : List Table). StandsIn ts r.0) (sym is) (stands_left xs ys r.0 r.1), r.2))
          (λ r. (r.0, subst (λ (ts : List Table). StandsIn ts r.0) (sym is) (stands_right xs ys r.0 r.1), r.2)) h,
      λ h. ⊎_elim (λ k. inl (h.0, k, h.2)) (λ k. inr (h.0, k, h.2)) (stands_either xs ys h.0 (subst (λ (ts : List Table). StandsIn ts h.0) is h.1)),
    ))
    (of_both (OneTells xs ident) (OneTells ys ident) (find text_cmp ident one) (find text_cmp ident other) (find text_cmp ident (united one other)) (first ident) (second ident)
    (united_tells one other ident)))

-- what offers is held
pub offers_held : (library : Library) (holder giver : Key) (ident : List ℕ) (def : AttDef) → Offers library holder ident def giver → IsHeld library holder
offers_held library holder giver ident def (Offers.own part is e) = search is
offers_held library holder giver ident def (Offers.inherited part class before is among offered passes) = search is

-- a class hands on only what classes give
pub giver_is_class : (library : Library) (holder giver : Key) (ident : List ℕ) (def : AttDef) (class : List ℕ) → holder ≡ class_key class → Offers library holder ident def giver
    → (other : List ℕ) × (giver ≡ class_key other)
giver_is_class library holder giver ident def class e (Offers.own part is s) = (class, e)
giver_is_class library holder giver ident def class e (Offers.inherited part through before is among offered passes) = giver_is_class library (class_key through) giver ident before through refl offered
