use Rattle.std.proofs.Common.{get_or, ⊎_elim, refl, sym, subst, arith, ◌∙◌}
use Rattle.std.proofs.lemmas.Bool.{false≢true}
use Rattle.std.proofs.lemmas.List.{get_or_default, take_all}
use Rattle.std.specs.List.{Contains}
use Rattle.odd_graph.proofs.OneMore.{contains_next}
use Rattle.odd_graph.specs.Marking.{IsMarked}
use Rattle.odd_classes.proofs.LoopsReached.{leads_reach, reach_leads}
use Rattle.odd_classes.proofs.offering.reaches_loop.Goals as goal

pub loop-node-init : goal.loop-node-init
loop-node-init c = λ node h. absurd (omega (arith, h.1))

pub returns-then-is_marked : goal.returns-then-is_marked
returns-then-is_marked c = λ key here.
    let library = c.args.library.now in
    let graph = c.requires in
    let arrows = c.args.arrows.now in
    let items = c.as_slice-node-items.result.now in
    let i = c.loop-node.node-index in
    let node = get_or items i 0 in
    let among : Contains items node = (i, c.loop-node-test.true, get_or_default items i node 0 c.loop-node-test.true) in
    let leads = ((c.in_ok-nodes.ensures.nodes node).0 (subst (λ xs. Contains xs node) c.as_slice-node-items.ensures.value among)) in
    let marked = subst (λ ms. IsMarked ms node) c.as_slice.ensures.value (c.is_marked.ensures.0 c.if-is_marked.true) in
    let loops = (c.in_ok-loops.ensures node).0 marked in
    (λ t. leads_reach library c.entries.ensures.rising arrows graph c.args.place key here node leads loops, λ r. refl)

pub loop-node-preserved : goal.loop-node-preserved
loop-node-preserved c = λ n h m.
    let items = c.as_slice-node-items.result.now in
    let i = c.loop-node.node-index in
    ⊎_elim (λ earlier. c.loop-node.invariant n earlier m)
    (λ same. false≢true (sym c.if-is_marked.false ∙ c.is_marked.ensures.1 (subst (λ ms. IsMarked ms (get_or items i 0)) (sym c.as_slice.ensures.value) (subst (IsMarked c.in_ok-loops.loops.items) (sym same) m))))
    ((contains_next items i 0 n c.loop-node-test.true).0 h)

pub returns : goal.returns
returns c = λ key here.
    let library = c.args.library.now in
    let graph = c.requires in
    let arrows = c.args.arrows.now in
    let items = c.as_slice-node-items.result.now in (
      λ t. cc,
      λ r.
          let l = reach_leads library c.entries.ensures.rising arrows graph c.args.place key here r in
          let node = l.0 in
          let there = (c.in_ok-nodes.ensures.nodes node).1 l.1 in
          let among = subst (λ xs. Contains xs node) (sym (take_all c.loop-node.node-index items c.loop-node-test.false)) (subst (λ xs. Contains xs node) (sym c.as_slice-node-items.ensures.value) there) in
          absurd (c.loop-node.invariant node among ((c.in_ok-loops.ensures node).1 l.2)),
    )
