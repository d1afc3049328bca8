use Rattle.std.proofs.Common.{nat_eq, refl, sym, ap, ◌∙◌, arith}
use Rattle.std.specs.List.{starts_with}
use Rattle.odd_cases.specs.Comparing.{StandsIn}
use Rattle.odd_cases.proofs.Standing.{take-drop-all}
use Rattle.odd_cases.proofs.comparing.stands_in.Goals as goal

-- The part begins here.
pub returns-then-starts_with : goal.returns-then-starts_with
unfolding StandsIn
returns-then-starts_with c = (
  (λ _. (c.loop-at.at, c.loop-at-test.true, ap (λ rest. starts_with nat_eq rest c.args.part.now) (sym (take-drop-all c.args.bytes.now c.loop-at.at)) ∙ sym c.starts_with.ensures.value ∙ c.if-starts_with.true)),
  λ _. refl,
)

-- The part begins at no place.
pub returns : goal.returns
unfolding StandsIn
returns c = (
  (λ wrong. absurd cc),
  λ stands. sym (c.loop-at.invariant stands.0 (omega (arith, stands.1, c.loop-at-test.false))) ∙ stands.2,
)
