use Rattle.std.proofs.Common.{◌≡◌, ◌++◌, take}
use Rattle.std.specs.Prelude.{flat_map}
use Rattle.odd_meaning.specs.Links.{named_in}
use Rattle.odd_classes.specs.Placing.{those_of}
use Rattle.odd_classes.proofs.links.+push_named.Given as goal

abbrev pub invariant-push_named_of-loop-part : goal.invariant-push_named_of-loop-part
invariant-push_named_of-loop-part l = l.keys ≡ l.initial.keys ++ flat_map (λ part. those_of l.wanted (named_in part)) (take l.part-index l.parts)
