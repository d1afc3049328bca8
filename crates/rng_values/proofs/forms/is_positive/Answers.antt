use Rattle.std.proofs.Common.{◌≡◌, ◌∙◌, subst, sym, false}
use Rattle.std.proofs.lemmas.Bool.{both_ways, not-true, not_from_false, not_from_true}
use Rattle.std.specs.Str.{chars}
use Rattle.std.specs.Str.Parse.{without_leading_sign}
use Rattle.rng_values.specs.Lexical.{AreDigits}
use Rattle.rng_values.proofs.Numerals.{are_zeros, positive_tested}
use Rattle.rng_values.proofs.forms.is_positive.Goals as goal
use Rattle.rng_values.proofs.forms.is_positive.Goals.{then-not-negative, else-not-negative}

pub returns-then-are_digits : goal.returns-then-are_digits
returns-then-are_digits c =
    let cs = chars c.args.text.now in
    let sign = c.split_sign-negative in
    let facts : (sign.result.0 ≡ false) × AreDigits (chars sign.result.1.now) = elim c.if-not-negative.branch [
      | then-not-negative w ↦ (w.if-not-negative.true, w.are_digits.ensures.0 (sym w.value-is ∙ c.if-are_digits.true))
      | else-not-negative w ↦ absurd (both_ways _ (w.value-is ∙ not_from_true _ w.if-not-negative.false) c.if-are_digits.true)
    ] in
    let zeros : c.has_only_zeros.result ≡ are_zeros (without_leading_sign cs) = subst (λ ds. c.has_only_zeros.result ≡ are_zeros ds) sign.ensures.rest c.has_only_zeros.ensures in (
      λ h. (positive_tested cs).0 (sym sign.ensures.negative ∙ facts.0, subst AreDigits sign.ensures.rest facts.1, sym zeros ∙ not-true _ h),
      λ p. not_from_false _ (zeros ∙ ((positive_tested cs).1 p).2),
    )

pub returns-else-are_digits : goal.returns-else-are_digits
returns-else-are_digits c =
    let sign = c.split_sign-negative in
    let positive = (positive_tested (chars c.args.text.now)).1 in (
      λ h. absurd (both_ways _ c.if-are_digits.false h),
      λ p. elim c.if-not-negative.branch [
        | then-not-negative w ↦ w.value-is ∙ w.are_digits.ensures.1 (subst AreDigits (sym sign.ensures.rest) (positive p).1)
        | else-not-negative w ↦ absurd (both_ways _ (sign.ensures.negative ∙ (positive p).0) w.if-not-negative.false)
      ],
    )
