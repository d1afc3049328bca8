use Rattle.std.proofs.Common.{◌+◌, take, sym, subst}
use Rattle.rng_matching.proofs.Alike.{AreAlike, one_more_alike, whole_alike}
use Rattle.rng_matching.proofs.searched.Searched.of.Goals as goal

pub loop-atom-preserved : goal.loop-atom-preserved
loop-atom-preserved c =
    let i = c.loop-atom.atom-index in
    let atoms = c.args.classes.now in
    let sets = c.loop-atom.sets in
    subst (λ made. AreAlike made (take (i + 1) atoms)) (sym c.in_ok-push.ensures.ok)
    (one_more_alike sets atoms _ i c.in_ok-set.set c.atom-item.result c.as_slice-atom-items.ensures c.loop-atom-test.true c.atom-item.is c.loop-atom.invariant c.in_ok-set.ensures)

pub returns : goal.returns
returns c = whole_alike c.loop-atom.sets c.args.classes.now _ c.loop-atom.atom-index c.as_slice-atom-items.ensures c.loop-atom-test.false c.loop-atom.invariant
