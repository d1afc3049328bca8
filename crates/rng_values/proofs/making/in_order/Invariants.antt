use Rattle.std.proofs.Common.{◌≡◌, take}
use Rattle.std.specs.List.{flat_map}
use Rattle.rng_values.specs.Making.{all_names, first_of}
use Rattle.rng_values.proofs.making.in_order.Given as goal

abbrev pub invariant-loop-name : goal.invariant-loop-name
invariant-loop-name l = l.made ≡ flat_map (first_of l.facets) (take l.name-index all_names)
