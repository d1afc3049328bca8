use Rattle.std.proofs.Common.{◌≡◌, ℕ, List, map, take}
use Rattle.odd_reader.proofs.twice.are_named_twice.Given as goal

abbrev pub invariant-loop-attr : goal.invariant-loop-attr
invariant-loop-attr l =
    map {B = List ℕ × List ℕ} (λ p. (p.0.now, p.1.now)) l.names.items ≡ map (λ a. (a.name.ns, a.name.local)) (take l.attr-index l.attr-items)
