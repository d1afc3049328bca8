use Rattle.rng_matching.proofs.repeating.+at_most.Given as goal

abbrev pub decreases-at_most : goal.decreases-at_most
decreases-at_most g l = l.count
