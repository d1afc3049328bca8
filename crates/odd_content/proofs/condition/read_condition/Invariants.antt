use Rattle.std.proofs.Common.{◌≡◌, ◌++◌, drop, map}
use Rattle.odd_tree.specs.Elements.{all_binds}
use Rattle.odd_content.specs.Condition.{names_among, spaces_among}
use Rattle.odd_content.proofs.condition.read_condition.Given as goal

abbrev pub invariant-loop-word : goal.invariant-loop-word
invariant-loop-word l =
    let binds = all_binds (map (λ b. b.now) l.inside) in
    let rest = drop l.word-index l.word-items in
    (l.spaces ++ spaces_among binds rest ≡ spaces_among binds l.word-items) × (l.names ++ names_among binds rest ≡ names_among binds l.word-items)
