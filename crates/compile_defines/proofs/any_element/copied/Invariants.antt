use Rattle.std.proofs.Common.{◌≡◌, take}
use Rattle.compile_defines.proofs.any_element.copied.Given as goal

abbrev pub invariant-loop-name : goal.invariant-loop-name
invariant-loop-name l = l.made ≡ take l.name-index l.names
