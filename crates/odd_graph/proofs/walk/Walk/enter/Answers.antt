use Rattle.std.proofs.Common.{[], ◌∙◌}
use Rattle.std.proofs.lemmas.List.{get_or_default}
use Rattle.odd_graph.proofs.Entering.{entered_all}
use Rattle.odd_graph.proofs.walk.Walk.enter.Goals as goal

pub returns-clause-keeps : goal.returns-clause-keeps
returns-clause-keeps c =
    entered_all (record { start = c.len-start.result; work = c.len-work.result }) _ c.requires.keeps c.requires.led c.requires.within c.requires.new
    (c.len-start.ensures ∙ c.args.self.now.stack.ok.0) (c.len-work.ensures ∙ c.args.self.now.work.ok.0) (c.as_slice-nexts.ensures ∙ get_or_default c.args.self.now.arrows.now c.args.node _ [] c.requires.within)
    (c.len-start.ensures ∙ c.args.self.now.stack.ok.0) c.in_ok-push.ensures.items c.in_ok-push-2.ensures.items c.in_ok-extend_from_slice.ensures.items
