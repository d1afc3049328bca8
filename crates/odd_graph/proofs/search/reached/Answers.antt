use Rattle.std.proofs.Common.{sym, ◌≡◌, get_or, ◌<◌, ◌≤◌, length}
use Rattle.odd_graph.proofs.NodesReached.{all_reached, reached_first, reached_more}
use Rattle.odd_graph.proofs.search.reached.Goals as goal

pub loop-node-init : goal.loop-node-init
loop-node-init c = reached_first _ _ _ _ _ _ c.requires c.new-nodes.ensures.items c.in_ok-mark_next.ensures

pub loop-node-preserved : goal.loop-node-preserved
loop-node-preserved c =
    let within : c.loop-node.place < length c.loop-node.nodes.items = let found = rw c.deref.ensures.value at c.in-Some.ensures.lookup.3 in found.0 in
    let here : get_or c.loop-node.nodes.items c.loop-node.place 0 ≡ c.in-Some.field-0.now = let found = rw c.deref.ensures.value at c.in-Some.ensures.lookup.3 in sym (found.1 0) in
    reached_more _ _ _ _ _ _ _ _ c.loop-node.invariant within here c.in_ok-mark_next-2.ensures

pub returns-clause-nodes : goal.returns-clause-nodes
returns-clause-nodes c =
    let end : length c.loop-node.nodes.items ≤ c.loop-node.place = rw c.deref.ensures.value at c.in_default.ensures.lookup.3 in
    all_reached _ _ _ _ _ c.loop-node.invariant end
