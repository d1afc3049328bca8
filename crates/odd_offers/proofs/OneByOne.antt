-- A table into which the edits of a class are put one after the other.
use Rattle.std.proofs.Common.{◌≡◌, ◌↔◌, ℕ, List, [], ◌∷◌, Bool, true, false, cond, T, Option, Some, None, refl, sym, ap, subst, ◌∙◌}
use Rattle.std.specs.Prelude.{unwrap_or}
use Rattle.std.specs.FinMap.{find, is_sorted, slice_cmp-IsAntisymmetric, nat_cmp-IsAntisymmetric}
use Rattle.std.specs.FinMap.Entries.{below_all}
use Rattle.std.specs.Ordering.{eq_by_cmp, is_eq}
use Rattle.std.specs.declared.cmp.Ordering.{Ordering}
use Rattle.std.specs.declared.cmp.Ordering.TheVariants.{Less, Equal, Greater}
use Rattle.odd_text.proofs.Entries.{first, is_less, second}
use Rattle.odd_text.specs.Map.{SetsOnly}
use Rattle.odd_text.specs.Text.{text_cmp}
use Rattle.odd_text.proofs.InList.{nothing_stands}
use Rattle.odd_attributes.specs.declared.att_def.AttDef.{AttDef}
use Rattle.odd_attributes.specs.declared.att_edit.AttEdit.{AttEdit}
use Rattle.odd_offers.specs.Tables.{IsOwnTable, StandsAt, Table, own_at}
use Rattle.odd_offers.specs.declared.table.Offer.{Offer}

-- what an edit makes of the offers that there are; where it makes nothing, none
abbrev made_by : List ℕ → AttEdit → Option (List Offer) → List Offer
made_by class edit there = unwrap_or (own_at class (Some edit) there) []

-- what is there after the edit, if there is one
abbrev pub after : List ℕ → Option AttEdit → Option (List Offer) → Option (List Offer)
after class None there = there
after class (Some edit) there = Some (made_by class edit there)

-- the edits that are left make of the table what all make of the inherited one
abbrev pub AreLeft : List ℕ → List (List ℕ × AttEdit) → Table → List (List ℕ × AttEdit) → Table → Type 0
AreLeft class edits inherited left table = T (is_sorted text_cmp left)
    × ((x : List ℕ) → after class (find text_cmp x left) (find text_cmp x table) ≡ after class (find text_cmp x edits) (find text_cmp x inherited))

-- what tests as equal is Equal
is_equal : (o : Ordering) → is_eq o ≡ true → o ≡ Equal
is_equal Less e = cc
is_equal Equal e = refl
is_equal Greater e = cc

-- nothing is found below all keys
find_below : (x : List ℕ) (es : List (List ℕ × AttEdit)) → T (below_all text_cmp x es) → find text_cmp x es ≡ None
find_below x [] h = refl
find_below x (e ∷ es) h = ap (λ o. cond (is_eq o) (Some e.1) (find text_cmp x es)) (is_less _ (first _ _ h)) ∙ find_below x es (second _ _ h)

module _ (class ident : List ℕ) (edit : AttEdit) (later : List (List ℕ × AttEdit)) (table : Table) (low : T (below_all text_cmp ident later)) where
  -- it is the same whether the first edit is still left, or what it makes is put
  put_or_left : (x : List ℕ) (b : Bool) → eq_by_cmp text_cmp x ident ≡ b
      → after class (find text_cmp x later) (cond b (Some (made_by class edit (find text_cmp ident table))) (find text_cmp x table))
      ≡ after class (cond b (Some edit) (find text_cmp x later)) (find text_cmp x table)
  put_or_left x false e = refl
  put_or_left x true e =
      let same = slice_cmp-IsAntisymmetric nat_cmp-IsAntisymmetric x ident (is_equal _ e) in
      let made = Some (made_by class edit (find text_cmp ident table)) in
      ap (λ k. after class (find text_cmp k later) made) same ∙ ap (λ o. after class o made) (find_below ident later low)
      ∙ ap (λ k. Some (made_by class edit (find text_cmp k table))) (sym same)

-- the first edit that is left is put
pub first_put : (class : List ℕ) (edits left later : List (List ℕ × AttEdit)) (inherited table new : Table) (ident : List ℕ) (edit : AttEdit) (made : List Offer)
    → AreLeft class edits inherited left table → left ≡ (ident, edit) ∷ later → made ≡ unwrap_or (own_at class (Some edit) (find text_cmp ident table)) []
    → SetsOnly text_cmp table new ident made → AreLeft class edits inherited later new
first_put class edits left later inherited table new ident edit made are is e sets =
    let parts = subst (λ es. AreLeft class edits inherited es table) is are in (
      second _ _ parts.0,
      λ x. ap (after class (find text_cmp x later)) (sets x ∙ ap (λ m. cond (eq_by_cmp text_cmp x ident) (Some m) (find text_cmp x table)) e)
          ∙ put_or_left class ident edit later table (first _ _ parts.0) x (eq_by_cmp text_cmp x ident) refl ∙ parts.1 x,
    )

-- that there are no offers is as if there was nothing
none_or_nothing : (o : Option (List Offer)) (def : AttDef) (giver : List ℕ) → StandsAt (Some (unwrap_or o [])) def giver ↔ StandsAt o def giver
none_or_nothing None def giver = (λ h. nothing_stands _ h, λ h. absurd h)
none_or_nothing (Some offers) def giver = (λ h. h, λ h. h)

-- the same offers are there
same_offers : (class : List ℕ) (e : Option AttEdit) (there : Option (List Offer)) (def : AttDef) (giver : List ℕ)
    → StandsAt (after class e there) def giver ↔ StandsAt (own_at class e there) def giver
same_offers class None there def giver = (λ h. h, λ h. h)
same_offers class (Some edit) there def giver = none_or_nothing (own_at class (Some edit) there) def giver

-- where no edit is left the table is made
pub all_put : (class : List ℕ) (edits left : List (List ℕ × AttEdit)) (inherited table : Table) → AreLeft class edits inherited left table → left ≡ []
    → IsOwnTable class edits inherited table
all_put class edits left inherited table are none ident def giver =
    let found = (subst (λ es. AreLeft class edits inherited es table) none are).1 ident in
    let both = same_offers class (find text_cmp ident edits) (find text_cmp ident inherited) def giver in
    (λ h. both.0 (subst (λ o. StandsAt o def giver) found h), λ h. subst (λ o. StandsAt o def giver) (sym found) (both.1 h))
