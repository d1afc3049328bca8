use Rattle.std.proofs.Common.{◌≡◌, ◌==◌, length, sym, ap, ◌∙◌, subst, IfOk}
use Rattle.std.specs.String.{string_bytes}
use Rattle.rng_values.proofs.Collapsing.{other_taken, space_taken, way_ends, way_starts, with_gap}
use Rattle.rng_values.proofs.white_space.collapse.Goals as goal
use Rattle.rng_values.proofs.white_space.collapse.Goals.{then-gap+in_ok-push, else-gap}

pub loop-c-init : goal.loop-c-init
loop-c-init c =
    let text = c.args.text.now in
    let left : c.into_iter-c-iterator.result.rest.now ≡ text = cc (c.as_str.ensures, c.chars-c-items.ensures.rest, c.into_iter-c-iterator.ensures.into_iter_gives) in
    rw (c.new-collapsed.ensures.bytes, left) (way_starts text (rw c.as_str.ensures at c.as_str.utf8))

pub loop-c-preserved-then-is_space : goal.loop-c-preserved-then-is_space
loop-c-preserved-then-is_space c =
    let begun : c.is_empty-gap.result ≡ (length (string_bytes c.loop-c.collapsed) == 0) = c.is_empty-gap.ensures ∙ ap (λ n. n == 0) c.loop-c.collapsed.bytes.ok.0 in
    rw begun (space_taken _ _ _ _ _ c.in-Some.c c.loop-c.invariant c.in-Some.ensures.steps.0 (sym c.is_space.ensures ∙ c.if-is_space.true))

pub loop-c-preserved : goal.loop-c-preserved
loop-c-preserved c =
    let so_far = string_bytes c.loop-c.collapsed in
    let gapped : string_bytes c.if-gap.collapsed ≡ with_gap c.loop-c.gap so_far =
    elim c.if-gap.branch [
      | then-gap+in_ok-push w ↦ ap string_bytes w.collapsed-is ∙ w.in_ok-push.ensures.bytes ∙ sym (ap (λ gap. with_gap gap so_far) w.if-gap.true)
      | else-gap w ↦ ap string_bytes w.collapsed-is ∙ sym (ap (λ gap. with_gap gap so_far) w.if-gap.false)
    ] in
    rw (c.in_ok-push-2.ensures.bytes, gapped) (other_taken _ _ _ _ _ c.in-Some.c c.loop-c.invariant c.in-Some.ensures.steps.0 (sym c.is_space.ensures ∙ c.if-is_space.false))

pub returns : goal.returns
returns c =
    subst (λ bytes. IfOk c.from_string.result (λ made. made ≡ bytes)) (way_ends _ _ _ _ c.loop-c.invariant c.in-None.ensures.steps.0.0) c.from_string.ensures
