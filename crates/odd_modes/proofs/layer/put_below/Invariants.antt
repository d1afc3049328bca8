use Rattle.std.proofs.Common.{◌≡◌, vec_len}
use Rattle.odd_modes.specs.Layering.{AreBelow, still_to_put, waiting}
use Rattle.odd_modes.proofs.layer.put_below.Given as goal

abbrev pub invariant-loop-alloc : goal.invariant-loop-alloc
invariant-loop-alloc l = record {
  same : waiting l.layer (still_to_put l.specs.items) ≡ waiting l.fn.layer (still_to_put l.fn.specs.items);
  below : AreBelow l.fn.layer l.key → AreBelow l.layer l.key;
}

abbrev pub decreases-loop-alloc : goal.decreases-loop-alloc
decreases-loop-alloc l = vec_len l.specs
