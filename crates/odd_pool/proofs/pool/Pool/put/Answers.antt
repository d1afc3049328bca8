use Rattle.std.proofs.Common.{◌≡◌, ◌↔◌, ◌<◌, Bool, List, Some, length, slice_get}
use Rattle.std.proofs.lemmas.Result.{IfOk-weaker}
use Rattle.odd_patterns.specs.Words.{Matches}
use Rattle.odd_pool.specs.Pattern.{Fits, shape}
use Rattle.odd_pool.specs.Pool.{pattern_at}
use Rattle.odd_pool.proofs.Kept.{get_within}
use Rattle.odd_pool.proofs.Shape.{put_fits}
use Rattle.odd_pool.proofs.pool.Pool.put.Goals as goal

pub returns-clause-within : goal.returns-clause-within
returns-clause-within g c =
    let new = c.put_parts.new.self in
    let p = shape c.args.pat.now in
    IfOk-weaker c.put_parts.result (λ at. slice_get new at ≡ Some p) (λ at. at < length new) (λ at e. get_within new at p e) c.put_parts.ensures.at

pub returns-clause-fits : goal.returns-clause-fits
returns-clause-fits g c =
    let new = c.put_parts.new.self in
    let p = c.args.pat.now in
    IfOk-weaker c.put_parts.result (λ at. slice_get new at ≡ Some (shape p))
    (λ at. (takes : g.row.A-Leaf.Denot → g.row.A-Symbol.Denot → Bool) (w : List g.row.A-Symbol.Denot) → Fits takes (pattern_at new at) w ↔ Matches takes p w)
    (λ at e takes w. put_fits takes p new at e w) c.put_parts.ensures.at
