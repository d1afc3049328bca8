use Rattle.std.proofs.Common.{arith}
use Rattle.std.proofs.lemmas.Option.{IfSome_then}
use Rattle.odd_graph.proofs.Closing.{closed_last, taken_last}
use Rattle.odd_graph.proofs.Walking.{all_closed}
use Rattle.odd_graph.proofs.walk.Walk.take.Goals as goal

pub returns-then-part-len-clause-keeps : goal.returns-then-part-len-clause-keeps
returns-then-part-len-clause-keeps c =
    let found = rw c.deref.ensures.value at c.in-Some.ensures.item.3 in
    IfSome_then c.pop.result
    (taken_last c.loop-part.invariant.keeps c.in-Some.field-0.now found.0 (found.1 c.in-Some.field-0.now) _ _ (omega (arith, c.if-part-len.true, c.len.ensures, c.loop-part.self.work.ok.0)) c.pop.ensures.items)
    (λ node taken. taken.0)

pub returns-then-part-len-clause-led : goal.returns-then-part-len-clause-led
returns-then-part-len-clause-led c =
    let found = rw c.deref.ensures.value at c.in-Some.ensures.item.3 in
    IfSome_then c.pop.result
    (taken_last c.loop-part.invariant.keeps c.in-Some.field-0.now found.0 (found.1 c.in-Some.field-0.now) _ _ (omega (arith, c.if-part-len.true, c.len.ensures, c.loop-part.self.work.ok.0)) c.pop.ensures.items)
    (λ node taken. taken.1)

pub loop-part-preserved : goal.loop-part-preserved
loop-part-preserved c =
    let found = rw c.deref.ensures.value at c.in-Some.ensures.item.3 in
    record {
      keeps =
          closed_last c.loop-part.invariant.keeps c.in-Some.field-0.now found.0 (found.1 c.in-Some.field-0.now) c.loop-part.self.parts.ok.0
          (omega (arith, c.if-part-len.false, c.len.ensures, c.loop-part.self.work.ok.0)) c.truncate.ensures.items c.pop-in-Some.ensures.rest;
      arrows = c.loop-part.invariant.arrows;
      seen = c.loop-part.invariant.seen;
      work = c.loop-part.invariant.work;
    }

pub returns-clause-none : goal.returns-clause-none
returns-clause-none c = (c.loop-part.invariant.keeps, all_closed c.loop-part.invariant.keeps (rw c.deref.ensures.value at c.in_default.ensures.item.3))
