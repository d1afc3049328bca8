use Rattle.std.proofs.Common.{◌≡◌, ◌++◌, drop, map}
use Rattle.odd_tree.specs.Elements.{all_binds}
use Rattle.odd_content.specs.Giving.{parts_in}
use Rattle.odd_content.proofs.reading.+parts.Given as goal

abbrev pub invariant-parts_in_force-loop-node : goal.invariant-parts_in_force-loop-node
invariant-parts_in_force-loop-node l =
    let binds = all_binds (map (λ b. b.now) l.inside) in
    l.parts ++ parts_in binds (drop l.node-index l.node-items) ≡ parts_in binds l.node-items
