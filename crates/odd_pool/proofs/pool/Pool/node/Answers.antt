use Rattle.std.proofs.Common.{rules, ◌≡◌, Some, subst, slice_get}
use Rattle.std.proofs.lemmas.Result.{IfOk-weaker}
use Rattle.std.specs.Prelude.{IfOk}
use Rattle.odd_pool.specs.Pattern.{Pattern}
use Rattle.odd_pool.specs.Pool.{Grows, kind_pattern, patterns}
use Rattle.odd_pool.proofs.Kept.{patterns_grow, placed_seen, right_seen}
use Rattle.odd_pool.proofs.Unique.{pooled_after, put_grows}
use Rattle.odd_pool.proofs.pool.Pool.node.Goals as goal

pub invariant_of-self : goal.invariant_of-self
invariant_of-self g c =
    let old = c.self.inside.nodes.keys in
    pooled_after old c.insert_once.new.set.keys c.args.node c.insert_once.ensures.put c.self.invariant (right_seen old c.args.self.now c.args.node c.self.view_is c.requires)

pub returns-clause-at : goal.returns-clause-at
returns-clause-at g c =
    let old = c.self.inside.nodes.keys in
    let new = c.insert_once.new.set.keys in
    let n = c.args.node in
    let got : IfOk c.insert_once.result (λ at. slice_get new at ≡ Some n) = search rules in
    IfOk-weaker c.insert_once.result (λ at. slice_get new at ≡ Some n) (λ at. slice_get (patterns new) at ≡ Some (kind_pattern c.args.self.now n.kind))
    (λ at e. placed_seen old new c.args.self.now at n c.self.view_is (put_grows old new n c.insert_once.ensures.put) (invariant_of-self g c).0 e c.requires.0) got

pub returns-clause-kept : goal.returns-clause-kept
returns-clause-kept g c =
    let old = c.self.inside.nodes.keys in
    let new = c.insert_once.new.set.keys in
    subst (λ ps. Grows {X = Pattern g.row.A-Leaf.Denot} ps (patterns new)) c.self.view_is (patterns_grow old new (put_grows old new c.args.node c.insert_once.ensures.put))
