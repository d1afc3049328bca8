use Rattle.std.proofs.Common.{◌<◌, ◌↔◌, ◌++◌, ℕ, List, IsUtf8, length}
use Rattle.std.specs.Str.{chars}
use Rattle.odd_pool.specs.Memory.{Remembers}
use Rattle.odd_pool.specs.Pattern.{Fits}
use Rattle.odd_pool.specs.Pool.{Grows, pattern_at}
use Rattle.rng_matching.specs.Searched.{admits}
use Rattle.rng_matching.specs.Staying.{Stay}
use Rattle.rng_matching.proofs.matcher.after.Given as goal

abbrev pub invariant-text : goal.invariant-text
invariant-text l = record {
  within : l.at < length l.pool;
  kept : Grows l.initial.pool l.pool;
  right : Remembers (admits l.chars.sets) (λ c. c) l.pool l.memory;
  stay : Stay (admits l.chars.sets) l.pool l.staying.known.items;
  legal : IsUtf8 l.rest.rest.now;
  left : (v : List ℕ) → Fits (admits l.chars.sets) (pattern_at l.pool l.at) (chars l.rest.rest.now ++ v) ↔ Fits (admits l.chars.sets) (pattern_at l.initial.pool l.start) (chars l.text ++ v);
}

abbrev pub decreases-text : goal.decreases-text
decreases-text l = length l.rest.rest.now
