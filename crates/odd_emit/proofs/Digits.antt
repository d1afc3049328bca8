-- The digits of a prefix are those that a number is formatted with.
use Rattle.std.proofs.Common.{◌≡◌, ◌<◌, ◌≤◌, ◌^◌, ◌+◌, ◌/◌, ◌%◌, ℕ, suc, List, [], ◌∷◌, sym, ap, ◌∙◌, append-nil, arith}
use Rattle.std.specs.Prelude.{decimal, if◌then◌else◌}
use Rattle.std.proofs.lemmas.Bool.{le-ltb, lt-ltb}
use Rattle.std.proofs.lemmas.Fmt.{PrependsLastDigit, decimal_from_prepends, length-decimal-le_succ}
use Rattle.odd_emit.specs.Contents.{digits_before}

one_digit : (k n : ℕ) (behind : List ℕ) → n < 10 → digits_before (suc k) n behind ≡ (48 + n) ∷ behind
one_digit k n behind low = ap (λ b. if b then (48 + n) ∷ behind else digits_before k (n / 10) ((48 + n % 10) ∷ behind)) (lt-ltb n 10 low)

more_digits : (k n : ℕ) (behind : List ℕ) → 10 ≤ n → digits_before (suc k) n behind ≡ digits_before k (n / 10) ((48 + n % 10) ∷ behind)
more_digits k n behind high = ap (λ b. if b then (48 + n) ∷ behind else digits_before k (n / 10) ((48 + n % 10) ∷ behind)) (le-ltb n 10 high)

prepends : PrependsLastDigit digits_before
prepends = record { one = one_digit; more = more_digits }

pub in_digits : (n : ℕ) → n < 2 ^ 64 → decimal n ≡ digits_before (suc n) n []
in_digits n small = sym (decimal_from_prepends digits_before prepends (suc n) n [] small (omega (arith, length-decimal-le_succ n small)) ∙ append-nil (decimal n))
