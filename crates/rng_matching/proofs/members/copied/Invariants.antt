use Rattle.std.proofs.Common.{◌≡◌, take}
use Rattle.rng_matching.proofs.members.copied.Given as goal

abbrev pub invariant-loop-member : goal.invariant-loop-member
invariant-loop-member l = l.made ≡ take l.member-index l.members
