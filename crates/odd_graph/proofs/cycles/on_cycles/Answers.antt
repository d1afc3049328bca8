use Rattle.std.proofs.Common.{ap, length, arith}
use Rattle.odd_graph.proofs.Taking.{all_found}
use Rattle.odd_graph.proofs.cycles.on_cycles.Goals as goal

pub returns : goal.returns
returns c =
    let many = ap length c.loop-node.invariant.arrows in
    rw c.loop-node.invariant.arrows at (all_found c.loop-node.invariant.keeps (ap length c.loop-node.invariant.stack) (λ node l. c.loop-node.invariant.seen node (omega (arith, l, many))))
