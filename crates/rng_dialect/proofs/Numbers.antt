-- The digits of a quantifier: a number, and how more of them tell a greater one.
use Rattle.std.proofs.Common.{◌≡◌, ◌≢◌, ℕ, zero, suc, ◌+◌, ◌-◌, ◌*◌, ◌^◌, ◌<◌, ◌≤◌, List, [], ◌∷◌, ◌++◌, length, IsTrue, refl, sym, ap, ◌∙◌, subst, append_assoc, append-nil, length-append, arith}
use Rattle.std.proofs.lemmas.Bool.{and_from, ltb-true}
use Rattle.std.proofs.lemmas.Int.Digits.{digits_value_push}
use Rattle.std.proofs.lemmas.List.Folds.{list_all-append}
use Rattle.std.specs.Char.{is_ascii_digit}
use Rattle.std.specs.List.{list_all}
use Rattle.rng_dialect.specs.Dialect.{IsNumber}
use Rattle.rng_dialect.specs.Reading.{has_room, may_reach, value_of}

-- at most 4 digits, or none
pub record AreDigits (ds : List ℕ) : Type 0 where
  pub few : length ds ≤ 4
  pub are_digits : IsTrue (list_all is_ascii_digit ds)

-- where none are read
pub no_digits : AreDigits []
no_digits = record { few = omega arith; are_digits = refl }

-- the first
pub first_digit : (c : ℕ) → IsTrue (is_ascii_digit c) → AreDigits (c ∷ [])
first_digit c h = record { few = omega arith; are_digits = and_from _ _ h refl }

-- one digit more
pub digit_more : (ds : List ℕ) (c : ℕ) → AreDigits ds → IsTrue (is_ascii_digit c) → length ds < 4 → AreDigits (ds ++ c ∷ [])
digit_more ds c d h room = record {
  few = omega (arith, length-append ds (c ∷ []));
  are_digits = list_all-append is_ascii_digit ds (c ∷ []) ∙ and_from _ _ d.are_digits (and_from _ _ h refl);
}

-- where the machine finds room
pub room_from : (ds : List ℕ) → IsTrue (has_room ds) → length ds < 4
room_from ds h = ltb-true (length ds) 4 h

-- they are a number where there are any
pub number_from : (ds : List ℕ) → ds ≢ [] → AreDigits ds → IsNumber ds (value_of ds)
number_from ds some d = record { some = some; few = d.few; are_digits = d.are_digits; value = refl }

-- a list with a first element
pub not_empty : (d : ℕ) (ds : List ℕ) → d ∷ ds ≢ []
not_empty d ds e = cc

-- with a character behind them there are some
pub not_empty_behind : (ds : List ℕ) (c : ℕ) → ds ++ c ∷ [] ≢ []
not_empty_behind [] c e = cc
not_empty_behind (d ∷ ds) c e = cc

-- the characters go on to a number that is not less
pub record Reaches (min : ℕ) (ds : List ℕ) : Type 0 where
  pub others : List ℕ
  pub number : ℕ
  pub is_number : IsNumber (ds ++ others) number
  pub within : min ≤ number

-- a nine more keeps the bound on what the digits can tell
nine : (v p : ℕ) → (v + 1) * (10 * p) ≡ ((v * 10 + 9) + 1) * p
nine v p = omega arith

-- by so many nines
reaches_by : (n min : ℕ) (ds : List ℕ) → length ds + n ≡ 4 → ds ≢ [] → AreDigits ds → min < (value_of ds + 1) * 10 ^ n → Reaches min ds
reaches_by zero min ds e some d less = record { others = []; number = value_of ds; is_number = subst (λ l. IsNumber l (value_of ds)) (sym (append-nil ds)) (number_from ds some d); within = omega arith }
reaches_by (suc n) min ds e some d less =
    let value : value_of (ds ++ 0x39 ∷ []) ≡ value_of ds * 10 + 9 = digits_value_push 10 ds 0x39 in
    let power : 10 ^ (suc n) ≡ 10 * 10 ^ n = omega arith in
    let same : (value_of ds + 1) * 10 ^ (suc n) ≡ (value_of (ds ++ 0x39 ∷ []) + 1) * 10 ^ n =
    ap (λ x. (value_of ds + 1) * x) power ∙ nine (value_of ds) (10 ^ n) ∙ ap (λ x. (x + 1) * 10 ^ n) (sym value) in
    let more = reaches_by n min (ds ++ 0x39 ∷ []) (omega (arith, length-append ds (0x39 ∷ []))) (not_empty_behind ds 0x39) (digit_more ds 0x39 d refl (omega arith)) (subst (λ v. min < v) same less) in
    record { others = 0x39 ∷ more.others; number = more.number; is_number = subst (λ l. IsNumber l more.number) (append_assoc ds (0x39 ∷ []) more.others) more.is_number; within = more.within }

-- where the machine finds that they may
pub reaches : (min : ℕ) (ds : List ℕ) → ds ≢ [] → AreDigits ds → IsTrue (may_reach min ds) → Reaches min ds
reaches min ds some d h = reaches_by (4 - length ds) min ds (omega (arith, d.few)) some d (ltb-true min _ h)
