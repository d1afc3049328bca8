use Rattle.std.proofs.Common.{◌<◌, None, Some, get_or, length, refl, sym, ap, subst, arith, ◌∙◌}
use Rattle.std.proofs.lemmas.Bool.{false≢true}
use Rattle.std.proofs.lemmas.List.{get_or_read, take_all}
use Rattle.std.proofs.lemmas.Option.{slice_get-get_or}
use Rattle.odd_classes.specs.Inheriting.{AreTablesAt}
use Rattle.odd_classes.proofs.TablesTaken.{all_taken, empty_made, none_made, table_made}
use Rattle.odd_classes.proofs.inheriting.taken.Goals.{in-Some+in_ok-table+in-Some-2+in_ok-push, in-Some+in_ok-table+in_default-2, in_default}
use Rattle.odd_classes.proofs.inheriting.taken.Goals as goal

pub loop-node-preserved : goal.loop-node-preserved
loop-node-preserved c =
    let within = c.loop-node-test.true in
    let so = c.loop-node.invariant in
    let node = get_or c.args.nodes.now c.loop-node.node-index 0 in
    let tables = c.loop-node.tables.items in
    let made = c.loop-node.made.items in
    let ends = c.is_last_use-is_last.ensures in
    elim c.match-get_mut.branch [
      | in-Some+in_ok-table+in-Some-2+in_ok-push w ↦
          let inside : node < length tables = omega (arith, w.in-Some.ensures.variant.0 refl) in
          let held = sym (get_or_read _ _ _ inside w.in-Some.ensures.value None) in
          let is = sym w.in_ok-table.ensures.made ∙ w.in-Some-2.is in
          rw (w.tables-is, w.made-is, w.in_ok-push.ensures.items, w.in_ok-table.ensures.left, is)
          (table_made c.args.last.now c.args.at c.args.nodes.now c.loop-node.node-index within c.args.tables.now.items tables made so w.in-Some-2.table
          (slice_get-get_or tables node None inside ∙ ap Some (held ∙ is)) c.is_last_use-is_last.result ends)
      | in-Some+in_ok-table+in_default-2 w ↦
          let inside : node < length tables = omega (arith, w.in-Some.ensures.variant.0 refl) in
          let held = sym (get_or_read _ _ _ inside w.in-Some.ensures.value None) in
          let is = sym w.in_ok-table.ensures.made ∙ w.in_default-2.is in
          rw (w.tables-is, w.made-is, w.in_ok-table.ensures.left, is)
          (empty_made c.args.last.now c.args.at c.args.nodes.now c.loop-node.node-index within c.args.tables.now.items tables made so c.is_last_use-is_last.result
          (slice_get-get_or tables node None inside ∙ ap Some (held ∙ is)))
      | in_default w ↦
          rw (w.tables-is, w.made-is)
          (none_made c.args.last.now c.args.at c.args.nodes.now c.loop-node.node-index within c.args.tables.now.items tables made so
          (λ less. false≢true (w.in_default.ensures.variant.1 (omega (arith, less)))))
    ]

pub returns-clause-made : goal.returns-clause-made
returns-clause-made c = subst (λ nodes. AreTablesAt c.args.tables.now.items nodes c.loop-node.made.items) (take_all c.loop-node.node-index c.args.nodes.now c.loop-node-test.false) c.loop-node.invariant.are

pub returns-clause-left : goal.returns-clause-left
returns-clause-left c = all_taken c.args.last.now c.args.at _ c.args.tables.now.items c.loop-node.tables.items c.loop-node.made.items c.loop-node.invariant
