use Rattle.std.proofs.Common.{◌≡◌, take}
use Rattle.odd_modes.specs.Index.{keys_listed}
use Rattle.odd_modes.proofs.selecting.chosen_keys.Given as goal

abbrev pub invariant-loop-key : goal.invariant-loop-key
invariant-loop-key l = l.keys ≡ keys_listed l.references (take l.key-index l.key-items)
