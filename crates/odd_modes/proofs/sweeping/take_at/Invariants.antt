use Rattle.std.proofs.Common.{◌≡◌, ◌≤◌, ◌+◌, reverse, vec_len}
use Rattle.odd_modes.specs.Swept.{rest_taken, value_taken}
use Rattle.odd_modes.proofs.sweeping.take_at.Given as goal

abbrev pub invariant-taking : goal.invariant-taking
invariant-taking g l =
    let order = g.K.Ranked.order in
    record {
      value : value_taken order l.key (reverse l.pairs.items) ≡ value_taken order l.fn.key (reverse l.fn.pairs.items);
      rest : rest_taken order l.key (reverse l.pairs.items) ≡ rest_taken order l.fn.key (reverse l.fn.pairs.items);
      cost : l.steps + vec_len l.pairs ≤ l.fn.steps + vec_len l.fn.pairs;
    }

abbrev pub decreases-taking : goal.decreases-taking
decreases-taking g l = vec_len l.pairs
