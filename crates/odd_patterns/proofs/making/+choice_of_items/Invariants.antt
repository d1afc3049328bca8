use Rattle.std.specs.Prelude.{vec_len}
use Rattle.odd_patterns.proofs.making.+choice_of_items.Given as goal

abbrev pub decreases-choice_of_items : goal.decreases-choice_of_items
decreases-choice_of_items g l = vec_len l.items
