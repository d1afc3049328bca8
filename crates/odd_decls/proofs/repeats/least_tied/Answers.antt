use Rattle.std.proofs.Common.{refl, ◌∙◌}
use Rattle.odd_forms.proofs.Children.{with_none}
use Rattle.odd_decls.proofs.Tied.{all_tied, none_tied, tied_more}
use Rattle.odd_decls.proofs.repeats.least_tied.Goals.{then-eq, else-eq}
use Rattle.odd_decls.proofs.repeats.least_tied.Goals as goal

pub loop-one-init : goal.loop-one-init
loop-one-init c = none_tied c.args.keyed.now

pub loop-one-preserved : goal.loop-one-preserved
loop-one-preserved c =
    tied_more c.args.keyed.now c.loop-one.one-index c.loop-one.before c.loop-one.least _ _ _ c.eq.result c.loop-one.invariant c.loop-one-test.true refl c.eq.ensures
    (elim c.if-eq.branch [
      | then-eq w ↦ rw w.if-eq.true (w.least-is ∙ w.lesser-least.ensures)
      | else-eq w ↦ rw w.if-eq.false (w.least-is ∙ with_none c.loop-one.least)
    ])

pub returns : goal.returns
returns c = all_tied c.args.keyed.now _ _ _ c.loop-one.invariant c.loop-one-test.false
