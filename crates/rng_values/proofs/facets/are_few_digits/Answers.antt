use Rattle.std.proofs.lemmas.Bool.{le-leb, leb-true}
use Rattle.rng_values.proofs.Digits.{digit_bytes}
use Rattle.rng_values.proofs.facets.are_few_digits.Goals as goal

pub returns-then-are_digits : goal.returns-then-are_digits
returns-then-are_digits c =
    let digits = c.are_digits.ensures.0 c.if-are_digits.true in
    let bytes = digit_bytes c.args.text.now c.utf8.text digits.1 in
    (λ h. record { some = digits.0; few = rw bytes (leb-true _ _ h); digits = digits.1 }, λ f. le-leb _ _ (rw bytes at f.few))
