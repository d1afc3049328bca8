use Rattle.std.proofs.Common.{◌≡◌, ◌<◌, ℕ, false, drop, nat_eq}
use Rattle.std.specs.List.{starts_with}
use Rattle.odd_cases.proofs.comparing.stands_in.Given as goal

-- The part begins at no place before this one.
abbrev pub invariant-loop-at : goal.invariant-loop-at
invariant-loop-at l =
    (k : ℕ) → k < l.at → starts_with nat_eq (drop k l.bytes) l.part ≡ false
