use Rattle.std.specs.Prelude.{vec_len}
use Rattle.odd_patterns.proofs.making.+group_of_items.Given as goal

abbrev pub decreases-group_of_items : goal.decreases-group_of_items
decreases-group_of_items g l = vec_len l.items
