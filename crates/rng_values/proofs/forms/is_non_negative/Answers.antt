use Rattle.std.proofs.Common.{◌≡◌, ◌∙◌, inl, inr, subst, sym, ⊎_elim}
use Rattle.std.proofs.lemmas.Bool.{both_ways, not_from_false}
use Rattle.std.specs.Str.{chars}
use Rattle.std.specs.Str.Parse.{without_leading_sign}
use Rattle.rng_values.specs.Lexical.{AreDigits}
use Rattle.rng_values.proofs.Numerals.{are_zeros, non_negative_tested}
use Rattle.rng_values.proofs.forms.is_non_negative.Goals as goal

pub returns-then-not-negative : goal.returns-then-not-negative
returns-then-not-negative c =
    let cs = chars c.args.text.now in
    let sign = c.split_sign-negative in
    let digits = subst AreDigits sign.ensures.rest (c.are_digits.ensures.0 c.if-are_digits.true) in
    (λ _. (non_negative_tested cs).0 (digits, inl (sym sign.ensures.negative ∙ c.if-not-negative.true)), λ _. not_from_false _ c.if-not-negative.true)

pub returns-else-not-negative : goal.returns-else-not-negative
returns-else-not-negative c =
    let cs = chars c.args.text.now in
    let sign = c.split_sign-negative in
    let digits = subst AreDigits sign.ensures.rest (c.are_digits.ensures.0 c.if-are_digits.true) in
    let zeros : c.has_only_zeros.result ≡ are_zeros (without_leading_sign cs) = subst (λ ds. c.has_only_zeros.result ≡ are_zeros ds) sign.ensures.rest c.has_only_zeros.ensures in (
      λ h. (non_negative_tested cs).0 (digits, inr (sym zeros ∙ h)),
      λ n. ⊎_elim (λ e. absurd (both_ways _ (sign.ensures.negative ∙ e) c.if-not-negative.false)) (λ z. zeros ∙ z) ((non_negative_tested cs).1 n).1,
    )

pub returns-else-are_digits : goal.returns-else-are_digits
returns-else-are_digits c =
    let digits = λ (d : AreDigits (without_leading_sign (chars c.args.text.now))). c.are_digits.ensures.1 (subst AreDigits (sym c.split_sign-negative.ensures.rest) d) in
    (λ h. absurd (both_ways _ c.if-are_digits.false h), λ n. digits ((non_negative_tested (chars c.args.text.now)).1 n).0)
