use Rattle.std.proofs.Common.{sym, ◌∙◌}
use Rattle.std.proofs.lemmas.List.{take_all}
use Rattle.odd_graph.proofs.Placed.{held_more}
use Rattle.odd_graph.proofs.ordering.Placing.settle.Goals as goal

pub loop-node-preserved : goal.loop-node-preserved
loop-node-preserved c = record {
  places = c.in_ok-try_next.ensures.places;
  same = c.in_ok-try_next.ensures.arrows ∙ c.loop-node.invariant.same;
  held =
      let found = rw c.deref.ensures.value at c.in-Some.ensures.lookup.3 in
      held_more _ _ c.args.back.now _ _ c.loop-node.invariant.places c.in_ok-try_next.ensures (rw c.loop-node.invariant.same c.requires.turned) found.0 (sym (found.1 0)) c.loop-node.invariant.held;
}

pub returns-clause-held : goal.returns-clause-held
returns-clause-held c = rw (take_all _ c.loop-node.self.order.items (rw c.deref.ensures.value at c.in_default.ensures.lookup.3)) at c.loop-node.invariant.held
