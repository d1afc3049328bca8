use Rattle.std.proofs.Common.{◌≡◌, take}
use Rattle.odd_text.proofs.map.MapTryCopy.copy.Given as goal

abbrev pub invariant-loop-entry : goal.invariant-loop-entry
invariant-loop-entry g l = l.entries.items ≡ take l.entry-index l.self
