use Rattle.std.proofs.Common.{◌++◌, ◌∙◌, ℕ, List, ap₂}
use Rattle.odd_emit.proofs.Digits.{in_digits}
use Rattle.odd_emit.proofs.conditions.prefix_of.Goals as goal

pub returns : goal.returns
returns c = c.in_ok-push_str.ensures.ok ∙ ap₂ (λ (x y : List ℕ). x ++ y) c.in_ok-made.ensures (c.format.ensures.text ∙ in_digits c.args.number c.ranges.number.fits)
