-- How far digits that are still to come may raise a number.
use Rattle.std.proofs.Common.{◌≡◌, ℕ, ◌+◌, ◌*◌, ◌-◌, ◌^◌, ◌<◌, ◌≤◌, true, List, [], ◌∷◌, ◌++◌, length, refl, ap, arith, length-append}
use Rattle.std.proofs.lemmas.Bool.Decides.{nat_tests}
use Rattle.std.specs.Char.{digit_value, is_ascii_digit}
use Rattle.std.specs.List.{list_all}
use Rattle.std.specs.Str.Parse.{digits_value_after}
use Rattle.std.proofs.lemmas.Bool.{lt-ltb, and_parts}
use Rattle.std.proofs.Math.Nat.{mul-le-mul_left, mul-le-mul_right, pow-le-pow_right, pow-suc}
use Rattle.rng_dialect.specs.Reading.{value_of, has_room, may_reach}

-- a digit has a value below 10
digit_below : (c : ℕ) → is_ascii_digit c ≡ true → digit_value c < 10
digit_below c h = grind (arith, nat_tests)

-- digits behind a number raise it by less than 1 at the place before them
value_below : (n : ℕ) (ds : List ℕ) → list_all is_ascii_digit ds ≡ true → digits_value_after 10 n ds < (n + 1) * 10 ^ length ds
value_below n [] h = omega arith
value_below n (d ∷ ds) h =
    let p = and_parts (is_ascii_digit d) (list_all is_ascii_digit ds) h in
    let m = n * 10 + digit_value d in
    let below : m + 1 ≤ (n + 1) * 10 = omega (arith, digit_below d p.0) in
    let more : (m + 1) * 10 ^ length ds ≤ (n + 1) * 10 * 10 ^ length ds = mul-le-mul_right (10 ^ length ds) below in
    let value : digits_value_after 10 n (d ∷ ds) < (m + 1) * 10 ^ length ds = value_below m ds p.1 in
    let power : (n + 1) * 10 ^ length (d ∷ ds) ≡ (n + 1) * (10 ^ length ds * 10) = ap (λ x. (n + 1) * x) (pow-suc 10 (length ds)) in
    omega arith

-- the value of joined digits
value_append : (n : ℕ) (ds es : List ℕ) → digits_value_after 10 n (ds ++ es) ≡ digits_value_after 10 (digits_value_after 10 n ds) es
value_append n [] es = refl
value_append n (d ∷ ds) es = value_append (n * 10 + digit_value d) ds es

-- there is room for one more of 4 digits at most
pub room : (digits : List ℕ) → length digits < 4 → has_room digits ≡ true
room digits h = lt-ltb (length digits) 4 h

-- the digits that come lead to the number
pub reaches : (min : ℕ) (digits more : List ℕ) → length (digits ++ more) ≤ 4 → list_all is_ascii_digit more ≡ true → min ≤ value_of (digits ++ more) → may_reach min digits ≡ true
reaches min digits more h a m =
    let v = value_of digits in
    let below : value_of (digits ++ more) < (v + 1) * 10 ^ length more = rw (value_append 0 digits more) (value_below v more a) in
    let fits : length more ≤ 4 - length digits = omega (arith, length-append digits more) in
    let higher : (v + 1) * 10 ^ length more ≤ (v + 1) * 10 ^ (4 - length digits) = mul-le-mul_left (v + 1) (pow-le-pow_right (omega arith) fits) in
    lt-ltb min ((v + 1) * 10 ^ (4 - length digits)) (omega (arith, m, below, higher))
