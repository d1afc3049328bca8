use Rattle.std.proofs.Common.{subst}
use Rattle.std.specs.FinMap.{is_sorted}
use Rattle.std.specs.Prelude.{IsTrue}
use Rattle.odd_text.proofs.Rise.{sorted_front}
use Rattle.odd_text.proofs.table.Table.pop_last.Goals as goal

pub invariant_of-self : goal.invariant_of-self
invariant_of-self g c =
    let order = g.K.Ranked.order in
    sorted_front order c.pop.new.self.items _ (subst (λ es. IsTrue (is_sorted order es)) c.pop.ensures.items c.self.invariant)
