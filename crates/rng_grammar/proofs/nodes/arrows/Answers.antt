use Rattle.std.proofs.lemmas.List.{take_all}
use Rattle.std.proofs.lemmas.Slice.Zip.{all_zipped_more}
use Rattle.odd_text.proofs.InList.{ends}
use Rattle.rng_grammar.proofs.nodes.arrows.Goals as goal

pub loop-define-preserved : goal.loop-define-preserved
loop-define-preserved c =
    let items = c.as_slice-define-items.ensures in
    rw (ends c.args.defines.now c.loop-define.define-index c.define-item.result (rw items at c.loop-define-test.true) (rw items at c.define-item.is), c.in_ok-push.ensures.items)
    (all_zipped_more _ _ c.loop-define.arrows.items c.define-item.result c.in_ok-body_arrows.field-0 c.loop-define.invariant c.in_ok-body_arrows.ensures)

pub returns : goal.returns
returns c = rw (take_all c.loop-define.define-index c.args.defines.now (rw c.as_slice-define-items.ensures at c.loop-define-test.false)) at c.loop-define.invariant
