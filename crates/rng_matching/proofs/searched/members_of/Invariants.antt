use Rattle.std.proofs.Common.{◌≡◌, map, take}
use Rattle.rng_dialect.specs.declared.regex.Member.TheVariants as member
use Rattle.rng_matching.proofs.searched.members_of.Given as goal

abbrev pub invariant-loop-c : goal.invariant-loop-c
invariant-loop-c l = l.made ≡ map member.Char (take l.c-index l.chars)
