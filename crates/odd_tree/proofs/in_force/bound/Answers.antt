use Rattle.std.proofs.Common.{sym, ap, map, ◌∙◌}
use Rattle.std.proofs.lemmas.List.{nil_from_length}
use Rattle.odd_tree.specs.Elements.{all_binds}
use Rattle.odd_tree.specs.Names.{last_bound}
use Rattle.odd_tree.proofs.LastBound.{bound_before, bound_last}
use Rattle.odd_tree.proofs.in_force.bound.Goals as goal

pub loop-level-preserved : goal.loop-level-preserved
loop-level-preserved c =
    c.loop-level.invariant
    ∙ bound_before c.next.new.self.iter.rest.now c.loop-level.level-iterator.iter.rest.now c.in-Some.level.now c.args.prefix.now c.in-Some.ensures.steps (sym c.in_default.ensures)

pub returns-in-Some-find : goal.returns-in-Some-find
returns-in-Some-find c =
    sym (c.loop-level.invariant
    ∙ bound_last c.next.new.self.iter.rest.now c.loop-level.level-iterator.iter.rest.now c.in-Some.level.now c.args.prefix.now c.in-Some-find.ns.now c.in-Some.ensures.steps (sym c.in-Some-find.ensures))

pub returns : goal.returns
returns c =
    sym (c.loop-level.invariant ∙ ap (λ l. last_bound (all_binds (map (λ b. b.now) l)) c.args.prefix.now) (nil_from_length c.loop-level.level-iterator.iter.rest.now c.in-None.ensures.steps.0))
