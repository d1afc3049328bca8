use Rattle.std.proofs.Common.{ℕ, ◌↔◌, ◌⊎◌, take}
use Rattle.std.specs.List.{Contains}
use Rattle.odd_text.proofs.InList.{StandsOnce}
use Rattle.rng_grammar.proofs.Counting.{PartLeads}
use Rattle.rng_grammar.proofs.nodes.+add_arrows.Given as goal

abbrev pub invariant-loop-part : goal.invariant-loop-part
invariant-loop-part l = (place : ℕ) → Contains l.arrows place ↔ (Contains l.initial.arrows place ⊎ StandsOnce (PartLeads l.places place) (take l.part-index l.part-items))
