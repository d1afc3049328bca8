use Rattle.std.proofs.Common.{refl, arith}
use Rattle.odd_classes.proofs.LastUses.{next_unused, next_used}
use Rattle.std.proofs.lemmas.Bool.{false≢true}
use Rattle.odd_classes.proofs.inheriting.use_at.Goals.{in-Some, in_default}
use Rattle.odd_classes.proofs.inheriting.use_at.Goals as goal

pub loop-node-preserved : goal.loop-node-preserved
loop-node-preserved c =
    let within = c.loop-node-test.true in
    let so = c.loop-node.invariant in
    elim c.match-get_mut.branch [
      | in-Some w ↦ rw w.last-is (next_used c.args.nodes.now c.loop-node.node-index within c.args.at c.args.last.now.items c.loop-node.last.items so (omega (arith, w.in-Some.ensures.variant.0 refl)))
      | in_default w ↦ rw w.last-is (next_unused c.args.nodes.now c.loop-node.node-index within c.args.at c.args.last.now.items c.loop-node.last.items so (λ less. false≢true (w.in_default.ensures.variant.1 (omega (arith, less)))))
    ]
