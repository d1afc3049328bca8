use Rattle.std.proofs.Common.{◌≤◌, ◌+◌, reverse, vec_len, length}
use Rattle.odd_modes.proofs.ActByAct.{Sweeps}
use Rattle.odd_modes.proofs.sweeping.sweep.Given as goal

abbrev pub invariant-sweeping : goal.invariant-sweeping
invariant-sweeping g l =
    record {
      sweeps : Sweeps g.K.Ranked.order g.E.Overlay.laid l.fn.base l.fn.layer l.made (reverse l.held.items) (reverse l.acts.items);
      cost : l.steps + (vec_len l.held + vec_len l.acts) ≤ l.fn.steps + (length l.fn.base + length l.fn.layer);
    }

abbrev pub decreases-sweeping : goal.decreases-sweeping
decreases-sweeping g l = vec_len l.acts
