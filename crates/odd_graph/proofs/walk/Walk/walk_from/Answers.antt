use Rattle.odd_graph.proofs.Walking.{awaits_first}
use Rattle.odd_graph.proofs.walk.Walk.walk_from.Goals as goal

pub enter-requires : goal.enter-requires
enter-requires c = awaits_first c.args.self.now c.args.node c.requires.keeps c.requires.stack c.requires.within c.requires.new
