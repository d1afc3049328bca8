use Rattle.std.proofs.Common.{◌≡◌, sym, ap, ◌∙◌, arith}
use Rattle.rng_values.proofs.Collapsing.{collapsed_short, count_ends, count_starts, other_counted, space_counted, with_gap_length}
use Rattle.rng_values.proofs.white_space.collapsed_length.Goals as goal
use Rattle.rng_values.proofs.white_space.collapsed_length.Goals.{then-gap, else-gap}

pub loop-c-init : goal.loop-c-init
loop-c-init c =
    let text = c.args.text.now in
    let left : c.into_iter-c-iterator.result.rest.now ≡ text = cc (c.chars-c-items.ensures.rest, c.into_iter-c-iterator.ensures.into_iter_gives) in
    rw left (count_starts text c.utf8.text)

pub loop-c-preserved-then-is_space : goal.loop-c-preserved-then-is_space
loop-c-preserved-then-is_space c =
    space_counted _ _ _ _ _ c.in-Some.c c.loop-c.invariant c.in-Some.ensures.steps.0 (sym c.is_space.ensures ∙ c.if-is_space.true)

pub overflow_add-length : goal.overflow_add-length
overflow_add-length c =
    let gapped : c.if-gap.length ≡ with_gap_length c.loop-c.gap = elim c.if-gap.branch [
      | then-gap w ↦ w.length-is ∙ sym (ap with_gap_length w.if-gap.true)
      | else-gap w ↦ w.length-is ∙ sym (ap with_gap_length w.if-gap.false)
    ] in
    let more = other_counted _ _ _ _ _ c.in-Some.c c.loop-c.invariant c.in-Some.ensures.steps.0 (sym c.is_space.ensures ∙ c.if-is_space.false) in
    let short = collapsed_short c.args.text.now c.utf8.text in
    omega (arith, more.whole)

pub loop-c-preserved : goal.loop-c-preserved
loop-c-preserved c =
    let gapped : c.if-gap.length ≡ with_gap_length c.loop-c.gap = elim c.if-gap.branch [
      | then-gap w ↦ w.length-is ∙ sym (ap with_gap_length w.if-gap.true)
      | else-gap w ↦ w.length-is ∙ sym (ap with_gap_length w.if-gap.false)
    ] in
    rw gapped (other_counted _ _ _ _ _ c.in-Some.c c.loop-c.invariant c.in-Some.ensures.steps.0 (sym c.is_space.ensures ∙ c.if-is_space.false))

pub returns : goal.returns
returns c = count_ends _ _ _ _ c.loop-c.invariant c.in-None.ensures.steps.0.0
