use Rattle.std.proofs.Common.{ℕ, ◌<◌}
use Rattle.odd_classes.specs.Offered.{HasAnswer}
use Rattle.odd_classes.specs.declared.answers.Answer.TheVariants as answer
use Rattle.odd_classes.proofs.answers.first_breaking.Given as goal

abbrev pub invariant-loop-place : goal.invariant-loop-place
invariant-loop-place l = (place : ℕ) → place < l.place → HasAnswer l.answers place (answer.Breaks l.rule) → ⊥
