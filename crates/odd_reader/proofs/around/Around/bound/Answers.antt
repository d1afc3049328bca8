use Rattle.std.proofs.Common.{sym, ◌∙◌}
use Rattle.std.specs.Prelude.{reverse}
use Rattle.odd_reader.specs.Resolving.{around}
use Rattle.odd_tree.proofs.LastBound.{last_bound_some, last_bound_none}
use Rattle.odd_reader.proofs.around.Around.bound.Goals as goal

pub returns-in-Some : goal.returns-in-Some
returns-in-Some c =
    sym (last_bound_some (around (reverse c.args.self.now.open.now)) c.args.own.now c.args.prefix.now c.in-Some.ns.now (sym c.in-Some.ensures))

pub returns-in-None : goal.returns-in-None
returns-in-None c =
    c.bound_around.ensures ∙ sym (last_bound_none (around (reverse c.args.self.now.open.now)) c.args.own.now c.args.prefix.now (sym c.in-None.ensures))
