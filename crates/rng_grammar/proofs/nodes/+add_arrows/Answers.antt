use Rattle.std.proofs.Common.{take}
use Rattle.std.proofs.lemmas.List.{take_all}
use Rattle.odd_text.proofs.InList.{ends, once_push}
use Rattle.rng_grammar.proofs.Counting.{PartLeads, added_as, added_next, parts_lead, ref_leads}
use Rattle.rng_grammar.proofs.nodes.+add_arrows.Goals as goal

pub returns-in-Ref : goal.returns-in-Ref
returns-in-Ref t c = λ place. rw c.in-Ref.is (added_as (c.in_ok-add_place.ensures place) (ref_leads c.args.places.now c.in-Ref.name place))

pub loop-part-preserved : goal.loop-part-preserved
loop-part-preserved t c = λ place.
    let parts = c.parts-part-items.result.now in
    let i = c.loop-part.part-index in
    rw (ends parts i c.part-item.result c.loop-part-test.true c.part-item.is)
    (added_next (c.loop-part.invariant place) (c.in_ok-add_arrows.ensures place) (once_push (PartLeads c.args.places.now place) (take i parts) c.part-item.result))

pub returns : goal.returns
returns t c = λ place.
    let all = rw (take_all c.loop-part.part-index c.parts-part-items.result.now c.loop-part-test.false, c.parts-part-items.ensures) at (c.loop-part.invariant place) in
    added_as all (parts_lead c.args.places.now c.args.pattern.now c.in_default.not-Ref place)
