use Rattle.std.proofs.Common.{◌≡◌, ◌∷◌, [], ◌++◌}
use Rattle.odd_tree.proofs.LastBound.{seen_more}
use Rattle.odd_tree.proofs.in_force.entered.Goals as goal

pub returns : goal.returns
returns c =
    let all : c.push.new.self.items ≡ c.args.around.now ++ c.args.own ∷ [] = cc (c.in_ok-push.ensures.items, c.in_ok-levels.ensures.items) in
    seen_more c.args.around.now c.push.new.self.items c.args.own all
