use Rattle.std.proofs.Common.{refl, sym, ◌-◌, ◌<◌, length, arith}
use Rattle.std.proofs.lemmas.List.{get_or_read}
use Rattle.odd_graph.proofs.Joining.{united_last}
use Rattle.odd_graph.proofs.Walking.{before_inside, first_inside, first_marked, last_within, marked_still, settled_last, settled_none}
use Rattle.odd_graph.proofs.walk.Walk.join.Goals as goal

pub loop-part-init : goal.loop-part-init
loop-part-init c =
    let first = first_marked c.args.node c.args.place c.requires.keeps c.requires.led c.requires.at in
    record { keeps = first.1; arrows = refl; seen = refl; work = refl; stack = refl; marked = first.2 }

pub returns-then-part-place-clause-keeps : goal.returns-then-part-place-clause-keeps
returns-then-part-place-clause-keeps c =
    let found = rw c.deref.ensures.value at c.in-Some.ensures.item.3 in
    settled_last c.args.node c.args.place c.loop-part.invariant.keeps c.in-Some.field-0.now found.0 (found.1 c.in-Some.field-0.now) (rw c.loop-part.invariant.stack c.requires.at)
    c.if-part-place.true c.loop-part.invariant.marked

pub index-first-requires : goal.index-first-requires
index-first-requires c =
    let found = rw c.deref.ensures.value at c.in-Some.ensures.item.3 in
    omega (arith, last_within c.in-Some.field-0.now c.loop-part.invariant.keeps found.0 (found.1 c.in-Some.field-0.now), c.loop-part.self.stack.ok.0)

pub index-before-requires : goal.index-before-requires
index-before-requires c =
    let found = rw c.deref.ensures.value at c.in-Some.ensures.item.3 in
    omega (arith, last_within c.in-Some.field-0.now c.loop-part.invariant.keeps found.0 (found.1 c.in-Some.field-0.now), c.loop-part.self.stack.ok.0)

pub index_mut-requires-in-Some : goal.index_mut-requires-in-Some
index_mut-requires-in-Some c =
    let found = rw c.deref.ensures.value at c.in-Some.ensures.item.3 in
    omega (arith, first_inside c.in-Some.field-0.now c.loop-part.invariant.keeps found.0 (found.1 c.in-Some.field-0.now) c.index-first.result.now c.index-first.ensures, c.loop-part.self.marks.ok.0)

pub index_mut-requires-in-Some-2 : goal.index_mut-requires-in-Some-2
index_mut-requires-in-Some-2 c =
    let found = rw c.deref.ensures.value at c.in-Some.ensures.item.3 in
    omega (arith, before_inside c.in-Some.field-0.now c.loop-part.invariant.keeps found.0 (found.1 c.in-Some.field-0.now) c.index-before.result.now c.index-before.ensures, c.loop-part.self.marks.ok.0)

pub loop-part-preserved : goal.loop-part-preserved
loop-part-preserved c =
    let found = rw c.deref.ensures.value at c.in-Some.ensures.item.3 in
    let top = c.in-Some.field-0.now in
    let within = last_within top c.loop-part.invariant.keeps found.0 (found.1 top) in
    let within_before : top.start - 1 < length c.loop-part.self.stack.items = omega (arith, within) in
    let first = c.index-first.result.now in
    let before = c.index-before.result.now in
    record {
      keeps =
          united_last top first before c.args.node c.args.place c.loop-part.invariant.keeps c.loop-part.self.parts.ok.0 found.0 (found.1 top)
          (rw (c.loop-part.invariant.stack, c.loop-part.invariant.arrows) c.requires.led) (rw c.loop-part.invariant.stack c.requires.at) c.if-part-place.false
          (sym (get_or_read _ top.start first within c.index-first.ensures 0)) (sym (get_or_read _ (top.start - 1) before within_before c.index-before.ensures 0)) c.pop.ensures.rest;
      arrows = c.loop-part.invariant.arrows;
      seen = c.loop-part.invariant.seen;
      work = c.loop-part.invariant.work;
      stack = c.loop-part.invariant.stack;
      marked =
          marked_still _ first before c.args.node (first_inside top c.loop-part.invariant.keeps found.0 (found.1 top) first c.index-first.ensures)
          (before_inside top c.loop-part.invariant.keeps found.0 (found.1 top) before c.index-before.ensures) c.loop-part.invariant.marked;
    }

pub returns-clause-keeps : goal.returns-clause-keeps
returns-clause-keeps c =
    settled_none c.args.node c.args.place c.loop-part.invariant.keeps (rw c.deref.ensures.value at c.in_default.ensures.item.3) (rw c.loop-part.invariant.stack c.requires.at)
    c.loop-part.invariant.marked
