-- The number that digits tell.
use Rattle.std.proofs.Common.{◌≡◌, ℕ, true, List, subst, Result, Ok, ◌&&◌, length, rules, arith}
use Rattle.std.proofs.lemmas.Bool.{and_parts, leb-true, ltb-true}
use Rattle.std.proofs.lemmas.Str.Parse.{IsNumeralModel, digits_value_short, numerals_by_value, parse_gives}
use Rattle.std.specs.Char.{is_ascii_digit}
use Rattle.std.specs.List.{list_all}
use Rattle.std.specs.Prelude.{nat_le, nat_lt}
use Rattle.std.specs.Str.Parse.{ParsesUnsigned, digits_value}
use Rattle.odd_forms.specs.Form.{are_digits}

own : IsNumeralModel (λ ds. list_all is_ascii_digit ds ≡ true) (digits_value 10)
own = numerals_by_value _ (search rules)

-- 1 to 9 digits tell a number of 32 bits
pub told_by : {E : Type 0} (v bs : List ℕ) (r : Result ℕ E) → bs ≡ v → ParsesUnsigned 32 10 bs r → are_digits v ≡ true → r ≡ Ok (digits_value 10 v)
told_by v bs r same h p =
    let k = and_parts (nat_lt 0 (length v)) (nat_le (length v) 9 && list_all is_ascii_digit v) p in
    let l = and_parts (nat_le (length v) 9) (list_all is_ascii_digit v) k.1 in
    let small = digits_value_short own v 9 l.1 (leb-true (length v) 9 l.0) in
    parse_gives own 32 v r (subst (λ b. ParsesUnsigned 32 10 b r) same h) l.1 (ltb-true 0 (length v) k.0) (omega arith)
