use Rattle.std.proofs.Common.{map}
use Rattle.odd_tree.specs.Elements.{all_binds}
use Rattle.odd_forms.specs.Faults.{DemandFault}
use Rattle.odd_forms.specs.Seen as seen
use Rattle.odd_text.proofs.Least.{all_passed, begins_seen, none_left, none_passed, one_passed}
use Rattle.odd_forms.proofs.faults.demands_fault.Goals as goal

pub loop-demand-init : goal.loop-demand-init
loop-demand-init c = none_passed _ _

pub loop-demand-preserved : goal.loop-demand-preserved
loop-demand-preserved c =
    one_passed (DemandFault (all_binds (map (λ b. b.now) c.args.inside.now)) c.args.tree.now) _ _ _ _ c.loop-demand.least _ _ c.loop-demand.invariant
    (begins_seen seen.demand c.args.demands.now c.loop-demand.demand-index _ c.loop-demand-test.true) c.in_ok-demand_fault.ensures c.lesser-least.ensures

pub returns : goal.returns
returns c = all_passed _ _ _ _ c.loop-demand.invariant (none_left seen.demand c.args.demands.now c.loop-demand.demand-index c.loop-demand-test.false)
