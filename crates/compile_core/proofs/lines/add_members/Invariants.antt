use Rattle.std.proofs.Common.{◌≡◌, ◌++◌, take}
use Rattle.std.specs.Prelude.{flat_map}
use Rattle.compile_core.specs.Account.{member_line}
use Rattle.compile_core.proofs.lines.add_members.Given as goal

abbrev pub invariant-loop-class : goal.invariant-loop-class
invariant-loop-class l = l.out ≡ l.fn.out ++ flat_map member_line (take l.class-index l.classes)
