use Rattle.std.proofs.Common.{length, ap, subst, arith, ◌∙◌}
use Rattle.odd_classes.proofs.OfferTables.{all_answers, filled_over, filled_with, step_within}
use Rattle.odd_classes.specs.Inheriting.{IsStep}
use Rattle.odd_classes.proofs.answers.answers.Goals.{in-Some+in_ok-answer_at+in-Some+in-Offers-1, in-Some+in_ok-answer_at+in-Some+in-Breaks-1, in-Some+in_ok-answer_at+in-None-1, in_default}
use Rattle.odd_classes.proofs.answers.answers.Goals as goal

pub index_mut-requires : goal.index_mut-requires
index_mut-requires c =
    let library = c.args.library.now in
    let before = c.loop-at.invariant in
    let order = c.loop-at.holders.order.items in
    let step = subst (IsStep library order c.loop-at.at) c.in-Some.is (c.in_ok-inherited.ensures.told library before.0) in
    let within = step_within library order c.loop-at.at c.loop-at.answers.items before.1 c.in-Some.inherited step in
    omega (arith, within)

pub loop-at-preserved : goal.loop-at-preserved
loop-at-preserved c =
    let library = c.args.library.now in
    let before = c.loop-at.invariant in
    let at = c.loop-at.at in
    let order = c.loop-at.holders.order.items in
    let places = c.loop-at.answers.items in
    let same = c.in_ok-inherited.ensures.order in
    let told = c.in_ok-inherited.ensures.told library before.0 in (
      c.in_ok-inherited.ensures.sweeps library before.0,
      elim c.match-branch-4.branch [
        | in-Some+in_ok-answer_at+in-Some+in-Offers-1 w ↦
            let step = subst (IsStep library order at) w.in-Some.is told in
            rw (w.answers-is, same) (filled_with library order at places before.1 w.in-Some.inherited step w.in_ok-answer_at.field-0 w.in_ok-answer_at.ensures)
        | in-Some+in_ok-answer_at+in-Some+in-Breaks-1 w ↦
            let step = subst (IsStep library order at) w.in-Some.is told in
            rw (w.answers-is, same) (filled_with library order at places before.1 w.in-Some.inherited step w.in_ok-answer_at.field-0 w.in_ok-answer_at.ensures)
        | in-Some+in_ok-answer_at+in-None-1 w ↦
            let step = subst (IsStep library order at) w.in-Some.is told in
            rw (w.answers-is, same) (filled_with library order at places before.1 w.in-Some.inherited step w.in_ok-answer_at.field-0 w.in_ok-answer_at.ensures)
        | in_default w ↦ rw (w.answers-is, same) (filled_over library order at places before.1 (subst (IsStep library order at) w.in_default.is told))
      ],
      ap length same ∙ before.2,
    )

pub returns : goal.returns
returns c =
    let end = c.loop-at.invariant in
    all_answers c.args.library.now c.loop-at.holders c.loop-at.at end.0 (omega (arith, end.2, c.loop-at-test.false)) c.loop-at.answers.items end.1
