-- Each key that is taken is merged, and where none is left all are.
use Rattle.std.proofs.Common.{rules, Some, None, refl}
use Rattle.odd_overlay.proofs.Taking.{more_merged, all_merged}
use Rattle.odd_overlay.proofs.pairing.zipped_maps.Goals as goal

pub loop-key-preserved-in-Continue-branch-3 : goal.loop-key-preserved-in-Continue-branch-3
loop-key-preserved-in-Continue-branch-3 g c =
    more_merged g.K.Ord.cmp g.met.K.Ord.total g.met.K.ExactOrd.exact (g.P.Pairing.pairs c.args.pairing.now) (g.met.P.Pairing.nothing c.args.pairing.now) c.args.one c.args.other c.in-Some.field-0.key c.in-Some.field-0.before c.in-Some.field-0.after (Some c.in-Some-2.value)
    c.loop-key.one c.take_least.new.one c.loop-key.other c.take_least.new.other c.loop-key.made c.put.new.self c.loop-key.invariant c.in-Some.ensures.least (search rules) c.in_ok-put.ensures.ok

pub loop-key-preserved : goal.loop-key-preserved
loop-key-preserved g c =
    more_merged g.K.Ord.cmp g.met.K.Ord.total g.met.K.ExactOrd.exact (g.P.Pairing.pairs c.args.pairing.now) (g.met.P.Pairing.nothing c.args.pairing.now) c.args.one c.args.other c.in-Some.field-0.key c.in-Some.field-0.before c.in-Some.field-0.after None
    c.loop-key.one c.take_least.new.one c.loop-key.other c.take_least.new.other c.loop-key.made c.loop-key.made c.loop-key.invariant c.in-Some.ensures.least (search rules) refl

pub returns : goal.returns
returns g c =
    all_merged g.K.Ord.cmp g.met.K.Ord.total g.met.K.ExactOrd.exact (g.P.Pairing.pairs c.args.pairing.now) (g.met.P.Pairing.nothing c.args.pairing.now) c.args.one c.args.other c.loop-key.one c.loop-key.other c.loop-key.made c.loop-key.invariant (c.in_default.ensures.none (search rules)).0 (c.in_default.ensures.none (search rules)).1
