-- The numbers that digits tell, in order by how many digits there are and by the first that differ.
use Rattle.std.proofs.Common.{◌≡◌, ◌≢◌, ◌↔◌, ◌<◌, ◌≤◌, ◌+◌, ◌*◌, ℕ, Bool, true, ◌==◌, List, [], ◌∷◌, length, IsTrue, refl, sym, ◌∙◌, ap, subst, arith, ⊎_elim}
use Rattle.std.proofs.lemmas.Bool.{and_parts, both_ways, cases_Bool, eqb-true, false≢true, ltb-false, ltb-true}
use Rattle.std.proofs.lemmas.Bool.Decides.{nat_tests}
use Rattle.std.specs.Char.{digit_value, is_ascii_digit}
use Rattle.std.specs.Cmp.{ranked}
use Rattle.std.specs.Cmp.Lexicographic.{slice_cmp}
use Rattle.std.specs.List.{list_all}
use Rattle.std.specs.Ordering.{is_le, nat_cmp, ordering_then}
use Rattle.std.specs.declared.cmp.Ordering.{Ordering}
use Rattle.std.specs.declared.cmp.Ordering.TheVariants.{Less, Equal, Greater}
use Rattle.std.specs.Prelude.{nat_lt}
use Rattle.std.specs.Str.Parse.{digits_value, digits_value_after, starts_with_minus, without_leading_sign}
use Rattle.rng_values.specs.Facets.{AreInOrder, IsUpTo}
use Rattle.rng_values.specs.Lexical.{IsInteger}
use Rattle.rng_values.specs.Signs.{AreTrimmed}
use Rattle.rng_values.proofs.Numerals.{integer_digits, sign_read, signed_by}

-- each is a digit
abbrev AreAllDigits : List ℕ → Type 0
AreAllDigits ds = list_all is_ascii_digit ds ≡ true

-- what a digit tells
digit_is : (c : ℕ) → is_ascii_digit c ≡ true → (digit_value c < 10) × (digit_value c + 0x30 ≡ c)
digit_is c h = (grind (arith, nat_tests), grind (arith, nat_tests))

-- further digits make no number less
grows : (n : ℕ) (ds : List ℕ) → n ≤ digits_value_after 10 n ds
grows n [] = omega arith
grows n (d ∷ ds) = let h = grows (n * 10 + digit_value d) ds in omega arith

-- a number that is less stays less with no more digits behind it
stays_less : (n m : ℕ) (ds es : List ℕ) → n < m → length ds ≤ length es → AreAllDigits ds → digits_value_after 10 n ds < digits_value_after 10 m es
stays_less n m [] es h few a = let g = grows m es in omega arith
stays_less n m (d ∷ ds) [] h few a = absurd (omega arith)
stays_less n m (d ∷ ds) (e ∷ es) h few a =
    let p = and_parts (is_ascii_digit d) (list_all is_ascii_digit ds) a in
    let low = (digit_is d p.0).0 in
    stays_less (n * 10 + digit_value d) (m * 10 + digit_value e) ds es (omega arith) (omega arith) p.1

-- what the order of two lists of digits tells of their numbers
abbrev IsOrder : Ordering → ℕ → ℕ → Type 0
IsOrder Less n m = n < m
IsOrder Equal n m = n ≡ m
IsOrder Greater n m = m < n

-- of as many digits the first that differ decide
compared : (n : ℕ) (ds es : List ℕ) → length ds ≡ length es → AreAllDigits ds → AreAllDigits es → IsOrder (slice_cmp nat_cmp ds es) (digits_value_after 10 n ds) (digits_value_after 10 n es)
compared n [] [] same a b = refl
compared n [] (e ∷ es) same a b = absurd (omega arith)
compared n (d ∷ ds) [] same a b = absurd (omega arith)
compared n (d ∷ ds) (e ∷ es) same a b =
    let p = and_parts (is_ascii_digit d) (list_all is_ascii_digit ds) a in
    let q = and_parts (is_ascii_digit e) (list_all is_ascii_digit es) b in
    let one = (digit_is d p.0).1 in
    let other = (digit_is e q.0).1 in
    let next = n * 10 + digit_value d in
    let other_next = n * 10 + digit_value e in
    elim (nat_cmp d e) as (λ r. r ≡ nat_cmp d e → IsOrder (ordering_then r (slice_cmp nat_cmp ds es)) (digits_value_after 10 next ds) (digits_value_after 10 other_next es)) [
      | Less ↦ λ h. let less : d < e = ranked d e Less h in stays_less next other_next ds es (omega arith) (omega arith) p.1
      | Equal ↦ λ h.
          let is : d ≡ e = ranked d e Equal h in
          subst (λ c. IsOrder (slice_cmp nat_cmp ds es) (digits_value_after 10 next ds) (digits_value_after 10 (n * 10 + digit_value c) es)) is (compared next ds es (omega arith) p.1 q.1)
      | Greater ↦ λ h. let less : e < d = ranked d e Greater h in stays_less other_next next es ds (omega arith) (omega arith) q.1
    ] refl

-- digits that begin with no zero tell more than zero
more_than_zero : (e : ℕ) (es : List ℕ) → AreTrimmed (e ∷ es) → 0 < digit_value e
more_than_zero e es t =
    let is = (digit_is e (and_parts (is_ascii_digit e) (list_all is_ascii_digit es) t.digits).0).1 in
    let zero : e ≢ 0x30 = λ h. t.trimmed es (ap (λ d. d ∷ es) h) in
    omega arith

-- and more than fewer digits
more_digits : (ds es : List ℕ) → AreTrimmed ds → AreTrimmed es → length ds < length es → digits_value 10 ds < digits_value 10 es
more_digits ds [] t s h = absurd (omega arith)
more_digits ds (e ∷ es) t s h = let up = more_than_zero e es s in stays_less 0 (0 * 10 + digit_value e) ds es (omega arith) (omega arith) t.digits

-- only no digits tell zero
pub zero_told : (ds : List ℕ) (r : Bool) → r ≡ (length ds == 0) → AreTrimmed ds → IsTrue r ↔ (digits_value 10 ds ≡ 0)
zero_told [] r e t = (λ h. refl, λ h. e)
zero_told (d ∷ ds) r e t =
    let up = more_than_zero d ds t in
    let g = grows (0 * 10 + digit_value d) ds in
    (λ h. absurd (omega (arith, eqb-true (length (d ∷ ds)) 0 (sym e ∙ h))), λ h. absurd (omega arith))

-- digits in order by how many there are
pub by_count : (ds es : List ℕ) → AreTrimmed ds → AreTrimmed es → length ds ≢ length es → IsTrue (nat_lt (length ds) (length es)) ↔ (digits_value 10 ds ≤ digits_value 10 es)
by_count ds es t s apart =
    ⊎_elim (λ h. let less = more_digits ds es t s (ltb-true (length ds) (length es) h) in (λ k. omega arith, λ k. h))
    (λ h.
    let low = ltb-false (length ds) (length es) h in
    let less = more_digits es ds s t (omega arith) in
    (λ k. absurd (both_ways (nat_lt (length ds) (length es)) h k), λ k. absurd (omega arith)))
    (cases_Bool (nat_lt (length ds) (length es)))

-- and of as many
pub by_digits : (ds es : List ℕ) → AreTrimmed ds → AreTrimmed es → length ds ≡ length es → IsTrue (is_le (slice_cmp nat_cmp ds es)) ↔ (digits_value 10 ds ≤ digits_value 10 es)
by_digits ds es t s same =
    elim (slice_cmp nat_cmp ds es) as (λ r. IsOrder r (digits_value 10 ds) (digits_value 10 es) → IsTrue (is_le r) ↔ (digits_value 10 ds ≤ digits_value 10 es)) [
      | Less ↦ λ h. (λ k. omega arith, λ k. refl)
      | Equal ↦ λ h. (λ k. omega arith, λ k. refl)
      | Greater ↦ λ h. (λ k. absurd (false≢true k), λ k. absurd (omega arith))
    ] (compared 0 ds es same t.digits s.digits)

-- a whole number and what is read of it
pub record IsRead (text : List ℕ) (negative : Bool) (digits : List ℕ) : Type 0 where
  pub integer : IsInteger text
  pub sign : negative ≡ starts_with_minus text
  pub value : digits_value 10 digits ≡ digits_value 10 (without_leading_sign text)

-- what tells of what is read that two whole numbers are in order
pub read_told : (one other : List ℕ) (negative others : Bool) (ds es : List ℕ) (r : Bool) → IsRead one negative ds → IsRead other others es
    → (IsTrue r ↔ IsUpTo negative (digits_value 10 ds) others (digits_value 10 es)) → IsTrue r ↔ AreInOrder one other
read_told one other negative others ds es r o p tells = (λ h. into (tells.0 h), λ h. tells.1 (back h))
  where
    into : IsUpTo negative (digits_value 10 ds) others (digits_value 10 es) → AreInOrder one other
    into h = record {
      negative = starts_with_minus one;
      others = starts_with_minus other;
      digits = without_leading_sign one;
      other_digits = without_leading_sign other;
      signed = sign_read one;
      other_signed = sign_read other;
      are_digits = integer_digits one o.integer;
      other_are_digits = integer_digits other p.integer;
      in_order = rw (o.sign, o.value, p.sign, p.value) at h;
    }

    back : AreInOrder one other → IsUpTo negative (digits_value 10 ds) others (digits_value 10 es)
    back h =
        let first = signed_by is_ascii_digit refl refl one h.negative h.digits h.signed h.are_digits.1 in
        let second = signed_by is_ascii_digit refl refl other h.others h.other_digits h.other_signed h.other_are_digits.1 in
        rw (o.sign, o.value, p.sign, p.value, ← first.1, ← first.0, ← second.1, ← second.0) h.in_order
