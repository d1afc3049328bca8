use Rattle.std.proofs.Common.{◌≡◌, not, drop}
use Rattle.std.specs.List.{list_any}
use Rattle.odd_offers.specs.Same.{def_same}
use Rattle.odd_offers.proofs.clash.any_other.Given as goal

abbrev pub invariant-loop-other : goal.invariant-loop-other
invariant-loop-other l = list_any (λ other. not (def_same l.first.def other.def)) (drop l.other-index l.others) ≡ list_any (λ other. not (def_same l.first.def other.def)) l.others
