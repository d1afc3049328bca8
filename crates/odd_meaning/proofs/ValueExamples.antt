-- Which values lists and attributes admit, and which attributes an element needs: small cases on both sides.
use Rattle.std.proofs.Common.{◌≡◌, ◌≢◌, ⊎_elim, ℕ, Bool, true, false, List, [], ◌∷◌, inl, inr, Option, Some, None, refl, sym, ap, subst, ◌∙◌, codes, arith}
use Rattle.std.specs.FinMap.{find, slice_cmp-IsAntisymmetric, nat_cmp-IsAntisymmetric}
use Rattle.std.specs.Str.{chars}
use Rattle.std.proofs.lemmas.Cmp.{nat_list_cmp_total}
use Rattle.std.proofs.lemmas.List.Elements.{All-nil, All-cons}
use Rattle.std.proofs.lemmas.Option.{same_Some}
use Rattle.odd_text.proofs.Entries.{found_contained}
use Rattle.odd_text.specs.Text.{text_cmp}
use Rattle.odd_text.specs.declared.key.Key.{Key}
use Rattle.odd_text.proofs.InList.{first_or_later, nothing_stands, only_item, standing, stands_first, stands_later}
use Rattle.odd_tree.proofs.PrintedTrees.{apart}
use Rattle.odd_text.specs.Standing.{StandsIn}
use Rattle.odd_tree.specs.declared.tree.Attr.{Attr}
use Rattle.rng_types.specs.declared.bounds.Bounds.{Bounds}
use Rattle.rng_types.specs.declared.data_type.DataType.TheVariants as kind
use Rattle.rng_types.specs.declared.item.Item.TheVariants as item
use Rattle.rng_types.specs.declared.val_list.ListKind.TheVariants as listing
use Rattle.rng_types.specs.declared.val_list.ValList.{ValList}
use Rattle.odd_attributes.specs.declared.att_def.AttDef.{AttDef}
use Rattle.odd_attributes.specs.declared.att_def.Datatype.{Datatype}
use Rattle.odd_attributes.specs.declared.att_edit.AttEdit.TheVariants.{Set}
use Rattle.odd_content.specs.declared.content.Content.TheVariants as content
use Rattle.odd_content.specs.Formed.{once}
use Rattle.odd_forms.specs.Names.{tei_namespace}
use Rattle.odd_library.specs.Odd.{element_key}
use Rattle.odd_library.specs.declared.library.Component.{Component}
use Rattle.odd_library.specs.declared.library.Component.TheVariants as component
use Rattle.odd_library.specs.declared.library.ElementPart.{ElementPart}
use Rattle.odd_library.specs.declared.library.Library.{Library}
use Rattle.odd_meaning.specs.Attributed.{AreAdmittedAttributes, IsAdmittedAttribute}
use Rattle.odd_meaning.specs.Links.{memberships}
use Rattle.odd_meaning.specs.Naming.{attribute_name}
use Rattle.odd_meaning.specs.Offering.{Offers, edits_of, inherited, own}
use Rattle.odd_meaning.specs.Values.{IsAdmittedValue, IsListed, IsOneOf, IsPiece, bounds_of, whole, words}
use Rattle.odd_meaning.proofs.ExampleTrees.{attribute}
use Rattle.odd_meaning.proofs.ValidityExamples.{holding_part}

-- lists

abbrev closed : List (List ℕ) → ValList
closed values = record { kind = listing.Closed; values = values }

abbrev letter_or_note : ValList
letter_or_note = closed (codes "letter" ∷ codes "note" ∷ [])

-- a value may have white space around it
note_is_one : IsOneOf letter_or_note.values (chars (codes " note "))
unfolding chars
note_is_one = (codes "note", stands_later _ _ _ (stands_first _ []), refl)

-- another word is none
poem_is_none : IsOneOf letter_or_note.values (chars (codes "poem")) → ⊥
unfolding chars
poem_is_none (value, among, e) =
    ⊎_elim (λ first. apart (codes "letter") (codes "poem") refl (ap chars (sym first) ∙ e))
    (λ later. apart (codes "note") (codes "poem") refl (ap chars (sym (only_item _ _ later)) ∙ e)) (first_or_later _ _ _ among)

-- so as content a closed list admits the one and not the other
note_listed : IsListed letter_or_note (chars (codes " note "))
note_listed = inr note_is_one

poem_not_listed : IsListed letter_or_note (chars (codes "poem")) → ⊥
poem_not_listed (inl other) = other refl
poem_not_listed (inr one) = poem_is_none one

-- and so does that of an attribute, whatever its datatype
note_piece : (library : Library) (datatype : Option Datatype) → IsPiece library datatype (Some letter_or_note) (chars (codes " note "))
note_piece library datatype = inl (refl, note_is_one)

poem_no_piece : (library : Library) (datatype : Option Datatype) → IsPiece library datatype (Some letter_or_note) (chars (codes "poem")) → ⊥
poem_no_piece library datatype (inl one) = poem_is_none one.1
poem_no_piece library datatype (inr other) = other.0 refl

-- attributes

-- without datatype and list an attribute admits any text
abbrev plain : Bool → AttDef
plain needed = record { alt = None; ns = None; needed = needed; datatype = None; vals = None }

any_text : (library : Library) (needed : Bool) (text : List ℕ) → IsAdmittedValue library (plain needed) text
any_text library needed text = whole refl tt

-- the values `a` and `b` alone
abbrev a_or_b : ValList
a_or_b = closed (codes "a" ∷ codes "b" ∷ [])

-- one word or more
abbrev some_words : Option Datatype
some_words = Some (record { item = item.Typed kind.Token []; bounds = record { min = 1; max = None } })

-- an attribute of one or more words, each `a` or `b`
abbrev letters : AttDef
letters = record { alt = None; ns = None; needed = false; datatype = some_words; vals = Some a_or_b }

unbounded : bounds_of some_words ≢ once
unbounded e = let m : ◌≡◌ {A = Option ℕ} None (Some 1) = ap (λ (b : Bounds). b.max) e in cc

a_piece : (library : Library) → IsPiece library some_words (Some a_or_b) (codes "a")
unfolding chars
a_piece library = inl (refl, (codes "a", stands_first _ _, refl))

b_piece : (library : Library) → IsPiece library some_words (Some a_or_b) (codes "b")
unfolding chars
b_piece library = inl (refl, (codes "b", stands_later _ _ _ (stands_first _ []), refl))

-- it admits two of these words
two_words : (library : Library) → IsAdmittedValue library letters (codes "b a")
unfolding chars
two_words library =
    let piece = IsPiece library some_words (Some a_or_b) in
    words unbounded (omega arith, tt) (All-cons piece (codes "b") (codes "a" ∷ []) (b_piece library) (All-cons piece (codes "a") [] (a_piece library) (All-nil piece)))

-- and not the empty text
no_words : (library : Library) → IsAdmittedValue library letters [] → ⊥
unfolding chars
no_words library (whole alone piece) = unbounded alone
no_words library (words many within each) = omega (arith, within.0)

-- elements

-- an element `a` that has to have an attribute `n`
abbrev needing : ElementPart
needing = record { «module» = []; ns = tei_namespace; alt = None; classes = []; content = content.Empty; atts = (codes "n", Set (plain true)) ∷ [] }

abbrev needing_library : Library
needing_library = holding_part (codes "a") needing

-- one Set is of one definition
one_set : (d e : AttDef) → Set d ≡ Set e → d ≡ e
one_set d e same = cc

-- it offers this one
n_offered : Offers needing_library (element_key (codes "a")) (codes "n") (plain true) (element_key (codes "a"))
n_offered = own (component.Element needing) refl refl

-- and no other
offered_n : (ident : List ℕ) (def : AttDef) (giver : Key) → Offers needing_library (element_key (codes "a")) ident def giver → (ident ≡ codes "n") × (def ≡ plain true)
offered_n ident def giver (own part held set) =
    let found = subst (λ (p : Component). find text_cmp ident (edits_of p) ≡ Some (Set def)) (same_Some _ _ (sym held)) set in
    let contains = found_contained text_cmp nat_list_cmp_total (slice_cmp-IsAntisymmetric nat_cmp-IsAntisymmetric) ident (Set def) needing.atts found in
    let entry = only_item (codes "n", Set (plain true)) (ident, Set def) (standing needing.atts (ident, Set def) contains) in
    (ap (λ x. x.0) entry, one_set def (plain true) (ap (λ x. x.1) entry))
offered_n ident def giver (inherited part class before held among offered passes) =
    absurd (nothing_stands class (subst (λ (p : Component). StandsIn (memberships p) class) (same_Some _ _ (sym held)) among))

-- with the attribute it has those that it needs
abbrev an_n : Attr
an_n = attribute (codes "n") []

n_admitted : IsAdmittedAttribute needing_library (codes "a") an_n
n_admitted = record { ident = codes "n"; def = plain true; giver = element_key (codes "a"); offered = n_offered; named = refl; value = any_text _ true [] }

n_there : AreAdmittedAttributes needing_library (codes "a") (an_n ∷ [])
n_there = record {
  admitted = All-cons (IsAdmittedAttribute _ _) an_n [] n_admitted (All-nil _);
  complete = λ ident def giver o needed. let is = offered_n ident def giver o in (an_n, stands_first _ [], λ i. attribute_name (sym is.0 i) (sym is.1 i));
}

-- without it, it has not
n_lacking : AreAdmittedAttributes needing_library (codes "a") [] → ⊥
n_lacking m = let h = m.complete (codes "n") (plain true) _ n_offered refl in nothing_stands h.0 h.1
