use Rattle.std.proofs.Common.{subst, sym}
use Rattle.std.specs.FinMap.{is_sorted}
use Rattle.std.specs.Prelude.{IsTrue}
use Rattle.odd_text.proofs.Rise.{sorted_push}
use Rattle.odd_text.specs.Above.{IsAboveLast}
use Rattle.odd_text.proofs.table.Table.push.Goals as goal

pub invariant_of-self-2 : goal.invariant_of-self-2
invariant_of-self-2 g c =
    let order = g.K.Ranked.order in
    let above = subst (λ es. IsAboveLast order es c.args.key) (sym c.self.view_is) c.requires in
    subst (λ es. IsTrue (is_sorted order es)) (sym c.in_ok-push.ensures.items) (sorted_push order g.met.K.Ranked.total c.self.inside.pairs.items c.args.key c.args.value c.self.invariant above)
