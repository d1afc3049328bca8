use Rattle.std.proofs.Common.{sym, ap, ◌∙◌}
use Rattle.std.proofs.lemmas.List.{nil_from_length}
use Rattle.odd_offers.specs.Tables.{added_each}
use Rattle.odd_offers.proofs.StandingFor.{each_before}
use Rattle.odd_offers.proofs.table.added_each.Goals as goal

pub loop-offer-preserved : goal.loop-offer-preserved
loop-offer-preserved c =
    let left = c.next.new.self.iter.rest.now in
    let all = c.loop-offer.offer-iterator.iter.rest.now in
    ap (λ made. added_each made left) c.in_ok-made.ensures ∙ each_before c.loop-offer.made left all c.in-Some.offer.now c.in-Some.ensures.steps ∙ c.loop-offer.invariant

pub returns : goal.returns
returns c = sym (ap (added_each c.loop-offer.made) (nil_from_length c.loop-offer.offer-iterator.iter.rest.now c.in-None.ensures.steps.0)) ∙ c.loop-offer.invariant
