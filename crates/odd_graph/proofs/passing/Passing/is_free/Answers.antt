use Rattle.std.proofs.Common.{[], below_more, subst, sym, ◌∙◌}
use Rattle.std.proofs.lemmas.Bool.{both_ways}
use Rattle.odd_graph.specs.Marking.{IsMarked}
use Rattle.odd_graph.proofs.passing.Passing.is_free.Goals as goal

pub loop-next-init : goal.loop-next-init
loop-next-init c =
    rw (c.as_slice-nexts.ensures ∙ c.in-Some-Some.ensures.lookup.3.1 [], c.in-Some-Some.ensures'.item.3.1 0) (c.requires c.args.node)

pub loop-next-preserved : goal.loop-next-preserved
loop-next-preserved c =
    below_more _ _ c.loop-next.invariant
    (λ m. both_ways c.is_marked.result c.if-is_marked.false (c.is_marked.ensures.1 (subst (IsMarked c.args.left.now) (sym (c.in-Some.ensures.lookup.3.1 _)) m)))
