use Rattle.std.proofs.Common.{refl, ◌∙◌}
use Rattle.odd_items.proofs.Added.{new_level}
use Rattle.odd_items.proofs.searching.Search.level_in.Goals as goal

pub returns-clause-inside : goal.returns-clause-inside
returns-clause-inside c = new_level c.args.tree.now _ c.args.self.now.levels.items _ _ (c.len-at.ensures ∙ c.args.self.now.levels.ok.0) refl c.in_ok-push.ensures.items
