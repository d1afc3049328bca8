use Rattle.odd_pool.specs.Memory.{NoStep}
use Rattle.odd_pool.proofs.memory.Memory.new.Given as goal

abbrev pub invariant-loop : goal.invariant-loop
invariant-loop l = NoStep l.slots.items
