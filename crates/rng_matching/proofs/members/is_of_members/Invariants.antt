use Rattle.std.proofs.Common.{◌≡◌, drop}
use Rattle.std.specs.List.{list_any}
use Rattle.rng_matching.specs.Chars.{is_of_member}
use Rattle.rng_matching.proofs.members.is_of_members.Given as goal

abbrev pub invariant-loop-member : goal.invariant-loop-member
invariant-loop-member l = list_any (is_of_member l.c) (drop l.member-index l.members) ≡ list_any (is_of_member l.c) l.members
