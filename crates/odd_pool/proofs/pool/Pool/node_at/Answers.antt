use Rattle.std.proofs.Common.{◌≡◌, Some, ap, subst, length, slice_get, arith}
use Rattle.odd_pool.specs.declared.node.Node.{Node}
use Rattle.odd_pool.proofs.Kept.{length_patterns, node_right}
use Rattle.odd_pool.proofs.pool.Pool.node_at.Goals as goal

pub item_at-requires : goal.item_at-requires
item_at-requires g c =
    let e = length_patterns c.self.inside.nodes.keys in
    let f = ap length c.self.view_is in
    let k = ap length c.as_slice.ensures.keys in
    let h = c.requires in
    omega arith

pub returns-clause-below : goal.returns-clause-below
returns-clause-below g c =
    let ns = c.self.inside.nodes.keys in
    let there = subst (λ xs. slice_get {X = Node g.row.A-Leaf.Denot} xs c.args.at ≡ Some c.item_at.result) c.as_slice.ensures.keys c.item_at.ensures in
    (node_right ns c.args.self.now c.args.at c.item_at.result c.self.invariant c.self.view_is there).0

pub returns-clause-nullable : goal.returns-clause-nullable
returns-clause-nullable g c =
    let ns = c.self.inside.nodes.keys in
    let there = subst (λ xs. slice_get {X = Node g.row.A-Leaf.Denot} xs c.args.at ≡ Some c.item_at.result) c.as_slice.ensures.keys c.item_at.ensures in
    (node_right ns c.args.self.now c.args.at c.item_at.result c.self.invariant c.self.view_is there).1

pub returns-clause-reads : goal.returns-clause-reads
returns-clause-reads g c =
    let ns = c.self.inside.nodes.keys in
    let there = subst (λ xs. slice_get {X = Node g.row.A-Leaf.Denot} xs c.args.at ≡ Some c.item_at.result) c.as_slice.ensures.keys c.item_at.ensures in
    (node_right ns c.args.self.now c.args.at c.item_at.result c.self.invariant c.self.view_is there).2
