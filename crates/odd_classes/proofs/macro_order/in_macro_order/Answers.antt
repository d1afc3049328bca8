use Rattle.std.proofs.Common.{◌≢◌, arith}
use Rattle.std.proofs.lemmas.Grind.{common_steps}
use Rattle.std.proofs.lemmas.List.{get_or_default}
use Rattle.odd_text.specs.declared.key.Kind.TheVariants as kind
use Rattle.odd_classes.proofs.Linked.{entry_of_key}
use Rattle.odd_classes.proofs.MacrosOrdered.{all_ordered, macro_next, no_macro, other_kind}
use Rattle.odd_classes.proofs.macro_order.in_macro_order.Goals.{in-Some+then-eq+in_ok-copy+in_ok-push, in-Some+else-eq, in_default}
use Rattle.odd_classes.proofs.macro_order.in_macro_order.Goals as goal

pub loop-place-preserved : goal.loop-place-preserved
loop-place-preserved c =
    let library = c.args.library.now in
    let up = c.entries.ensures.rising in
    let graph = c.requires in
    let order = rw (← c.as_slice-place-items.ensures.value) at c.in_ok-order.ensures.order in
    let within = c.loop-place-test.true in
    let at = get_or_default c.as_slice-place-items.result.now c.loop-place.place-index 0 _ within in
    elim c.match-key.branch [
      | in-Some+then-eq+in_ok-copy+in_ok-push w ↦
          let entry = entry_of_key library.parts _ w.in-Some.key.now w.in-Some.ensures.value in
          rw (w.idents-is, w.in_ok-push.ensures.ok, w.in_ok-copy.ensures)
          (macro_next library up _ graph _ order _ _ _ c.loop-place.invariant within at _ entry.0 entry.1 (grind (arith, common_steps)))
      | in-Some+else-eq w ↦
          let entry = entry_of_key library.parts _ w.in-Some.key.now w.in-Some.ensures.value in
          let other : w.in-Some.key.now.kind ≢ kind.Macro = grind (arith, common_steps) in
          rw w.idents-is (no_macro library up _ graph _ order _ _ _ c.loop-place.invariant within at (other_kind library _ _ entry.0 entry.1 other))
      | in_default w ↦ rw w.idents-is (no_macro library up _ graph _ order _ _ _ c.loop-place.invariant within at (λ ident m. let none = rw m.1 at w.in_default.ensures.value in cc))
    ]

pub returns : goal.returns
returns c =
    let graph = c.requires in
    let order = rw (← c.as_slice-place-items.ensures.value) at c.in_ok-order.ensures.order in
    let each = rw (← c.as_slice-place-items.ensures.value) at c.in_ok-order.ensures.each in
    all_ordered c.args.library.now c.entries.ensures.rising _ graph _ order _ _ each c.loop-place-test.false c.loop-place.invariant
