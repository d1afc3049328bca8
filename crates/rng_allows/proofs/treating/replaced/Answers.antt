use Rattle.std.proofs.Common.{◌≡◌, if◌then◌else◌, sym, ap, ◌∙◌}
use Rattle.rng_allows.proofs.Texts.{one_replaced, one_taken, replacing_ends, replacing_starts}
use Rattle.rng_allows.proofs.treating.replaced.Goals as goal
use Rattle.rng_allows.proofs.treating.replaced.Goals.{then-is_space, else-is_space}

pub loop-c-init : goal.loop-c-init
loop-c-init c =
    let left : c.into_iter-c-iterator.result.rest.now ≡ c.args.text.now = cc (c.chars-c-items.ensures.rest, c.into_iter-c-iterator.ensures.into_iter_gives) in
    rw (c.new-made.ensures, left) (replacing_starts c.args.text.now c.utf8.text)

pub loop-c-preserved : goal.loop-c-preserved
loop-c-preserved c =
    let put : c.if-is_space.push ≡ one_replaced c.in-Some.c = elim c.if-is_space.branch [
      | then-is_space w ↦ w.push-is ∙ sym (ap (λ b. if b then 0x20 else c.in-Some.c) (sym c.is_space.ensures ∙ w.if-is_space.true))
      | else-is_space w ↦ w.push-is ∙ sym (ap (λ b. if b then 0x20 else c.in-Some.c) (sym c.is_space.ensures ∙ w.if-is_space.false))
    ] in
    rw (c.in_ok-push.ensures.ok, put) (one_taken _ _ _ _ c.in-Some.c c.loop-c.invariant c.in-Some.ensures.steps.0)

pub returns : goal.returns
returns c = replacing_ends _ _ _ c.utf8.text c.loop-c.invariant c.in-None.ensures.steps.0.0
