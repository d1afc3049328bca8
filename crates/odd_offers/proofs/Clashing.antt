-- Whether what is inherited differs.
use Rattle.std.proofs.Common.{◌≡◌, ◌≢◌, ⊎_elim, ℕ, Bool, true, false, not, List, [], ◌∷◌, Option, Some, None, IsTrue, T, refl, sym, ap, subst, ◌∙◌}
use Rattle.std.proofs.lemmas.Cmp.{nat_list_cmp_total}
use Rattle.std.specs.FinMap.{find, is_sorted, slice_cmp-IsAntisymmetric, nat_cmp-IsAntisymmetric}
use Rattle.std.specs.List.{list_any}
use Rattle.odd_text.proofs.Entries.{as_T, found_contained}
use Rattle.odd_text.specs.Text.{text_cmp}
use Rattle.odd_text.specs.Standing.{StandsIn}
use Rattle.odd_text.proofs.InList.{first_or_later, nothing_stands, standing, stands_first, stands_later}
use Rattle.odd_attributes.specs.Attributes.{def_changed}
use Rattle.odd_attributes.specs.declared.att_def.AttDef.{AttDef}
use Rattle.odd_attributes.specs.declared.att_edit.AttEdit.{AttEdit}
use Rattle.odd_attributes.specs.declared.att_edit.AttEdit.TheVariants.{Set, Change, Delete}
use Rattle.odd_attributes.specs.declared.att_edit.AttFields.{AttFields}
use Rattle.odd_meaning.specs.Links.{class_key}
use Rattle.odd_meaning.specs.Offering.{Inherits, Passes}
use Rattle.odd_offers.specs.Same.{both, def_same, def_test, first as first_true, second as second_true}
use Rattle.odd_offers.specs.Tables.{ClashesBy, MakesOne, StandFor, StandsAt, Table, clashes_with, differ, passes_at}
use Rattle.odd_offers.specs.declared.table.Offer.{Offer}
use Rattle.odd_offers.proofs.Lists.{any_stands, not_true, stands_any}
use Rattle.odd_offers.proofs.Named.{found_in}
use Rattle.odd_offers.proofs.TableOf.{giver_is_class}

-- where the definitions differ, two of the offers have different ones
differ_two : (os : List Offer) → differ os ≡ true → (a b : Offer) × StandsIn os a × StandsIn os b × (a.def ≢ b.def)
differ_two [] h = cc
differ_two (o ∷ os) h =
    let r = any_stands (λ (p : Offer). not (def_same o.def p.def)) os h in
    (o, r.0, stands_first o os, stands_later o r.0 os r.1, λ e. let no : true ≡ false = sym (def_test.itself o.def) ∙ ap (def_same o.def) e ∙ not_true (def_same o.def r.0.def) r.2 in cc)

-- where none differs from a definition, each is that
same_unless : (d : AttDef) (os : List Offer) (p : Offer) → list_any (λ (p : Offer). not (def_same d p.def)) os ≡ false → StandsIn os p → d ≡ p.def
same_unless d os p h m =
    elim (def_same d p.def) as (λ b. def_same d p.def ≡ b → d ≡ p.def) [
      | true ↦ λ e. def_test.exact d p.def e
      | false ↦ λ e. let no : true ≡ false = sym (stands_any (λ (p : Offer). not (def_same d p.def)) os p m (ap not e)) ∙ h in cc
    ] refl

-- and so is that of each of the offers
all_same : (o : Offer) (os : List Offer) → list_any (λ (p : Offer). not (def_same o.def p.def)) os ≡ false → (a : Offer) → StandsIn (o ∷ os) a → o.def ≡ a.def
all_same o os e a m = ⊎_elim (λ is. ap (λ (x : Offer). x.def) (sym is)) (λ later. same_unless o.def os a e later) (first_or_later o a os m)

-- an own edit that is no Set and no Delete lets each definition pass
passes_some : (e : Option AttEdit) (d : AttDef) → passes_at e ≡ true → (result : AttDef) × Passes e d result
passes_some None d h = (d, Passes.as_it_is)
passes_some (Some (Set x)) d h = cc
passes_some (Some Delete) d h = cc
passes_some (Some (Change f)) d h = (def_changed f d, Passes.changed f)

-- and only such an edit does
some_passes : (e : Option AttEdit) (d r : AttDef) → Passes e d r → passes_at e ≡ true
some_passes None d r p = refl
some_passes (Some (Set x)) d r p = elim p [ ]
some_passes (Some Delete) d r p = elim p [ ]
some_passes (Some (Change f)) d r p = refl

-- an entry of a table is what is found at its ident
entry_found : (table : Table) (entry : List ℕ × List Offer) → IsTrue (is_sorted text_cmp table) → StandsIn table entry → find text_cmp entry.0 table ≡ Some entry.1
entry_found table entry up s =
    subst (λ es. find text_cmp entry.0 es ≡ Some entry.1) (sym s.2) (found_in s.0 s.1 entry (subst (λ es. T (is_sorted text_cmp es)) s.2 (as_T _ up)))

-- and what is found at an ident is an entry
found_entry : (table : Table) (ident : List ℕ) (offers : List Offer) → find text_cmp ident table ≡ Some offers → StandsIn table (ident, offers)
found_entry table ident offers h = standing table (ident, offers) (found_contained text_cmp nat_list_cmp_total (slice_cmp-IsAntisymmetric nat_cmp-IsAntisymmetric) ident offers table h)

-- where an offer stands there are offers
some_of : (o : Option (List Offer)) (d : AttDef) (g : List ℕ) → StandsAt o d g → (os : List Offer) × (o ≡ Some os)
some_of None d g m = absurd m
some_of (Some os) d g m = (os, refl)

-- a change that gives nothing anew
abbrev no_fields : AttFields
no_fields = record { alt = None; ns = None; needed = None; datatype = None; vals = None }

-- where no definitions differ, those for which they stand don't either
one_for_all : (IsOne : AttDef → List ℕ → Type 0) (os : List Offer) → StandFor IsOne (Some os) → differ os ≡ false → (one other : AttDef) (giver other_giver : List ℕ) → IsOne one giver → IsOne other other_giver → one ≡ other
one_for_all IsOne [] stand e one other giver other_giver h k = absurd (nothing_stands _ (stand.least one giver h).1)
one_for_all IsOne (o ∷ os) stand e one other giver other_giver h k =
    let makes_one : MakesOne no_fields (Some (o ∷ os)) = λ a b g h m n. sym (all_same o os e (record { def = a; giver = g }) m) ∙ all_same o os e (record { def = b; giver = h }) n in
    stand.apart no_fields makes_one one giver h o.def o.giver (stands_first o os) ∙ sym (stand.apart no_fields makes_one other other_giver k o.def o.giver (stands_first o os))

-- where they stand for two that differ, they differ
two_for : (IsOne : AttDef → List ℕ → Type 0) (os : List Offer) → StandFor IsOne (Some os) → (one other : AttDef) (giver other_giver : List ℕ) → IsOne one giver → IsOne other other_giver → one ≢ other → differ os ≡ true
two_for IsOne os stand one other giver other_giver h k apart =
    elim (differ os) as (λ b. differ os ≡ b → b ≡ true) [
      | true ↦ λ e. refl
      | false ↦ λ e. absurd (apart (one_for_all IsOne os stand e one other giver other_giver h k))
    ] refl

-- the answer tells whether some attribute clashes
pub clash_told : (edits : List (List ℕ × AttEdit)) (inherited : Table) (b : Bool) → IsTrue (is_sorted text_cmp inherited) → b ≡ list_any (λ entry. clashes_with edits entry) inherited
    → ClashesBy edits inherited b
clash_told edits inherited b up e library part same all = (
  λ h.
      let r = any_stands (λ (entry : List ℕ × List Offer). clashes_with edits entry) inherited (sym e ∙ h) in
      let ident = r.0.0 in
      let p = differ r.0.1 in
      let q = passes_at (find text_cmp ident edits) in
      let found = entry_found inherited r.0 up r.1 in
      let d = differ_two r.0.1 (first_true p q r.2) in
      let passed = passes_some (find text_cmp ident edits) d.0.def (second_true p q r.2) in (
        ident,
        record {
          one = d.0.def;
          other = d.1.def;
          giver = class_key d.0.giver;
          other_giver = class_key d.1.giver;
          passes = subst (λ (es : List (List ℕ × AttEdit)). (result : AttDef) × Passes (find text_cmp ident es) d.0.def result) (sym same) passed;
          first = (all ident).sound d.0.def d.0.giver (subst (λ o. StandsAt o d.0.def d.0.giver) (sym found) d.2);
          second = (all ident).sound d.1.def d.1.giver (subst (λ o. StandsAt o d.1.def d.1.giver) (sym found) d.3);
          differ = d.4;
        },
      ),
  λ c.
      let ident = c.0 in
      let clash = c.1 in
      let IsOne : AttDef → List ℕ → Type 0 = λ def giver. Inherits library part ident def (class_key giver) in
      let one = giver_is_class library (class_key clash.first.class) clash.giver ident clash.one clash.first.class refl clash.first.offered in
      let other = giver_is_class library (class_key clash.second.class) clash.other_giver ident clash.other clash.second.class refl clash.second.offered in
      let first : IsOne clash.one one.0 = subst (λ k. Inherits library part ident clash.one k) one.1 clash.first in
      let second : IsOne clash.other other.0 = subst (λ k. Inherits library part ident clash.other k) other.1 clash.second in
      let kept = (all ident).least clash.one one.0 first in
      let os = some_of (find text_cmp ident inherited) kept.0.def kept.0.giver kept.1 in
      let differs = two_for IsOne os.0 (subst (StandFor IsOne) os.1 (all ident)) clash.one clash.other one.0 other.0 first second clash.differ in
      let passed = subst (λ (es : List (List ℕ × AttEdit)). Passes (find text_cmp ident es) clash.one clash.passes.0) same clash.passes.1 in
      e ∙ stands_any (λ (entry : List ℕ × List Offer). clashes_with edits entry) inherited (ident, os.0) (found_entry inherited ident os.0 os.1)
      (both (differ os.0) (passes_at (find text_cmp ident edits)) differs (some_passes (find text_cmp ident edits) clash.one clash.passes.0 passed)),
)
