use Rattle.std.proofs.Common.{sym, ap, ◌∙◌}
use Rattle.std.specs.Prelude.{reverse}
use Rattle.std.proofs.lemmas.List.{nil_from_length}
use Rattle.odd_reader.specs.Resolving.{around}
use Rattle.odd_tree.specs.Names.{last_bound}
use Rattle.odd_reader.proofs.Tags.{bound_innermost, bound_further_out}
use Rattle.odd_reader.proofs.around.Around.bound_around.Goals as goal

pub loop-element-preserved : goal.loop-element-preserved
loop-element-preserved c =
    let left = c.next.new.self.iter.rest.now in
    let all = c.loop-element.element-iterator.iter.rest.now in
    c.loop-element.invariant ∙ bound_further_out left all c.in-Some.element.now c.args.prefix.now c.in-Some.ensures.steps (sym c.in_default.ensures)

pub returns-in-Some-find : goal.returns-in-Some-find
returns-in-Some-find c =
    let left = c.next.new.self.iter.rest.now in
    let all = c.loop-element.element-iterator.iter.rest.now in
    sym (c.loop-element.invariant ∙ bound_innermost left all c.in-Some.element.now c.args.prefix.now c.in-Some-find.ns.now c.in-Some.ensures.steps (sym c.in-Some-find.ensures))

pub returns : goal.returns
returns c =
    let all = c.loop-element.element-iterator.iter.rest.now in
    sym (c.loop-element.invariant ∙ ap (λ l. last_bound (around (reverse l)) c.args.prefix.now) (nil_from_length all c.in-None.ensures.steps.0))
