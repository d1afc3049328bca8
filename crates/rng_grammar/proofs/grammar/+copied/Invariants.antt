use Rattle.std.proofs.Common.{◌≡◌, take}
use Rattle.rng_grammar.proofs.grammar.+copied.Given as goal

abbrev pub invariant-copied_parts-loop-part : goal.invariant-copied_parts-loop-part
invariant-copied_parts-loop-part l = l.made ≡ take l.part-index l.parts
