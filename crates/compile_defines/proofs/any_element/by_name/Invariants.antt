use Rattle.std.proofs.Common.{◌≡◌, ◌++◌}
use Rattle.compile_defines.proofs.any_element.by_name.Given as goal

abbrev pub invariant-loop-define : goal.invariant-loop-define
invariant-loop-define l = l.sorted ++ l.define-iterator.rest.items ≡ l.initial.define-iterator.rest.items
