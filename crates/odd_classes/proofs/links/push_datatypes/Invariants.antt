use Rattle.std.proofs.Common.{◌≡◌, ◌++◌, take}
use Rattle.std.specs.Prelude.{flat_map}
use Rattle.odd_meaning.specs.Links.{named_by_edit}
use Rattle.odd_classes.specs.Placing.{those_of}
use Rattle.odd_classes.proofs.links.push_datatypes.Given as goal

abbrev pub invariant-loop-at : goal.invariant-loop-at
invariant-loop-at l = l.keys ≡ l.initial.keys ++ flat_map (λ e. those_of l.wanted (named_by_edit e.1)) (take l.at l.edits)
