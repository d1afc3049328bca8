-- What a text of a datatype is to a facet.
use Rattle.std.proofs.Common.{◌≡◌, ℕ, ◌<◌, Bool, true, List, ◌↔◌, [], ◌∷◌, Result, Ok, refl, sym, ap, ◌∙◌, subst, arith, rules, IsUtf8, length}
use Rattle.std.proofs.lemmas.Str.Parse.{IsNumeralModel, digits_value_short, numerals_by_value, parse_gives}
use Rattle.std.specs.Char.{is_ascii_digit}
use Rattle.std.specs.List.{list_all}
use Rattle.std.specs.Prelude.{IsTrue}
use Rattle.std.specs.Str.{chars}
use Rattle.std.specs.Str.Parse.{ParsesUnsigned, digits_value}
use Rattle.rng_types.specs.declared.data_type.DataType.{DataType}
use Rattle.rng_types.specs.declared.data_type.DataType.TheVariants as kind
use Rattle.rng_types.specs.declared.facet.Facet.{Facet}
use Rattle.rng_types.specs.declared.facet.FacetName.{FacetName}
use Rattle.rng_types.specs.declared.facet.FacetName.TheVariants as facet
use Rattle.rng_values.specs.Facets.{AreFewDigits, AreInOrder, Meets, MeetsBy, has_order}
use Rattle.rng_values.specs.Lexical.{Fits, IsInteger}
use Rattle.rng_values.specs.Treated.{collapsed, treated}
use Rattle.rng_values.specs.Trimmed.{IsTrimmed}
use Rattle.rng_values.proofs.Digits.{digit_bytes}
use Rattle.rng_values.proofs.Spaceless.{integers, trimmed_form}
use Rattle.rng_values.proofs.Trimming.{trimmed_fits}

-- the number that 1 to 9 digits tell

own : IsNumeralModel (λ ds. list_all is_ascii_digit ds ≡ true) (digits_value 10)
own = numerals_by_value _ (search rules)

some_length : {A : Type 0} (xs : List A) → (xs ≡ [] → ⊥) → 0 < length xs
some_length [] some = absurd (some refl)
some_length (x ∷ xs) some = omega arith

pub number_read : {E : Type 0} (bs : List ℕ) (r : Result ℕ E) → IsUtf8 bs → AreFewDigits 9 (chars bs) → ParsesUnsigned 64 10 bs r → r ≡ Ok (digits_value 10 (chars bs))
number_read bs r u h p =
    let same = digit_bytes bs u h.digits in
    let few = subst (AreFewDigits 9) same h in
    let small = digits_value_short own bs 9 few.digits few.few in
    parse_gives own 64 bs r p few.digits (some_length bs few.some) (omega arith) ∙ ap (λ ds. Ok (digits_value 10 ds)) (sym same)

-- texts of whole numbers

pub whole_text : (k : DataType) (cs trimmed : List ℕ) → has_order k ≡ true → Fits k cs → IsTrimmed cs trimmed → IsInteger trimmed
whole_text kind.Integer cs trimmed o h t = (trimmed_form kind.Integer cs trimmed t).1 h
whole_text kind.NonNegativeInteger cs trimmed o h t = ((trimmed_form kind.NonNegativeInteger cs trimmed t).1 h).is_integer
whole_text kind.PositiveInteger cs trimmed o h t = ((trimmed_form kind.PositiveInteger cs trimmed t).1 h).is_integer
whole_text k cs trimmed o h t = cc

whole_treated : (k : DataType) (cs : List ℕ) → has_order k ≡ true → treated k cs ≡ collapsed cs
whole_treated kind.Integer cs o = refl
whole_treated kind.NonNegativeInteger cs o = refl
whole_treated kind.PositiveInteger cs o = refl
whole_treated k cs o = cc

pub least_met : (k : DataType) (f : Facet) (cs trimmed : List ℕ) (r : Bool) → f.name ≡ facet.MinInclusive → has_order k ≡ true → IsTrimmed cs trimmed
    → IsTrue r ↔ AreInOrder (chars f.value) trimmed → IsTrue r ↔ Meets f (treated k cs)
least_met k f cs trimmed r e o t h =
    let other : (xs : List ℕ) → AreInOrder (chars f.value) xs → IsInteger xs = λ xs a. record { negative = a.others; digits = a.other_digits; signed = a.other_signed; are_digits = a.other_are_digits } in
    let met = trimmed_fits (AreInOrder (chars f.value)) cs trimmed (λ xs a. integers xs (other xs a)) t in
    subst (λ (n : FacetName). IsTrue r ↔ MeetsBy n (chars f.value) (treated k cs)) (sym e)
    (subst (λ (xs : List ℕ). IsTrue r ↔ AreInOrder (chars f.value) xs) (sym (whole_treated k cs o)) (λ x. met.0 (h.0 x), λ y. h.1 (met.1 y)))

pub greatest_met : (k : DataType) (f : Facet) (cs trimmed : List ℕ) (r : Bool) → f.name ≡ facet.MaxInclusive → has_order k ≡ true → IsTrimmed cs trimmed
    → IsTrue r ↔ AreInOrder trimmed (chars f.value) → IsTrue r ↔ Meets f (treated k cs)
greatest_met k f cs trimmed r e o t h =
    let one : (xs : List ℕ) → AreInOrder xs (chars f.value) → IsInteger xs = λ xs a. record { negative = a.negative; digits = a.digits; signed = a.signed; are_digits = a.are_digits } in
    let met = trimmed_fits (λ xs. AreInOrder xs (chars f.value)) cs trimmed (λ xs a. integers xs (one xs a)) t in
    subst (λ (n : FacetName). IsTrue r ↔ MeetsBy n (chars f.value) (treated k cs)) (sym e)
    (subst (λ (xs : List ℕ). IsTrue r ↔ AreInOrder xs (chars f.value)) (sym (whole_treated k cs o)) (λ x. met.0 (h.0 x), λ y. h.1 (met.1 y)))
