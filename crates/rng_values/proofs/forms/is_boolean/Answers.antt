use Rattle.std.proofs.Common.{refl}
use Rattle.rng_values.proofs.Booleans.{is_false, is_one, is_true, is_zero, no_boolean}
use Rattle.rng_values.proofs.forms.is_boolean.Goals as goal

pub returns-in_default : goal.returns-in_default
returns-in_default c =
    (λ h. cc, λ b. absurd (no_boolean c.args.text.now c.utf8.text c.in_default.not-true c.in_default.not-false c.in_default.not-text c.in_default.not-text-2 b))

pub returns-in-true : goal.returns-in-true
returns-in-true c = (λ _. is_true c.args.text.now c.in-true.is-true, λ _. refl)

pub returns-in-true-2 : goal.returns-in-true-2
returns-in-true-2 c = (λ _. is_false c.args.text.now c.in-true.is-false, λ _. refl)

pub returns-in-true-3 : goal.returns-in-true-3
returns-in-true-3 c = (λ _. is_one c.args.text.now c.in-true.is-text, λ _. refl)

pub returns-in-true-4 : goal.returns-in-true-4
returns-in-true-4 c = (λ _. is_zero c.args.text.now c.in-true.is-text-2, λ _. refl)
