use Rattle.std.proofs.Common.{[], subst, ◌∙◌}
use Rattle.std.proofs.lemmas.List.{get_or_past, take_all}
use Rattle.odd_classes.specs.Inheriting.{AreLastUses, IsUsedAt}
use Rattle.odd_classes.proofs.LastUses.{next_uses, no_uses}
use Rattle.odd_classes.proofs.inheriting.last_uses.Goals.{in-Some, in_default}
use Rattle.odd_classes.proofs.inheriting.last_uses.Goals as goal

pub loop-at-preserved : goal.loop-at-preserved
loop-at-preserved c =
    let within = c.loop-at-test.true in
    let so = c.loop-at.invariant in
    elim c.match-get.branch [
      | in-Some w ↦ rw w.last-is (next_uses c.args.arrows.now c.args.order.now c.loop-at.at within c.loop-at.last.items so w.use_at.new.last.items
          (subst (λ ns. IsUsedAt ns c.loop-at.at c.loop-at.last.items w.use_at.new.last.items) (w.as_slice.ensures ∙ w.in-Some.ensures.lookup.3.1 []) w.use_at.ensures))
      | in_default w ↦ rw w.last-is (no_uses c.args.arrows.now c.args.order.now c.loop-at.at within c.loop-at.last.items so (get_or_past c.args.arrows.now _ [] w.in_default.ensures.lookup.3))
    ]

pub returns : goal.returns
returns c = subst (λ xs. AreLastUses c.args.arrows.now xs c.loop-at.last.items) (take_all c.loop-at.at c.args.order.now c.loop-at-test.false) c.loop-at.invariant.0
