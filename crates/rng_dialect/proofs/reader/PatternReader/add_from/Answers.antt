use Rattle.std.proofs.Common.{◌≤◌, ◌+◌, ◌∙◌, arith}
use Rattle.std.proofs.lemmas.Result.{on_ok_weaker}
use Rattle.rng_dialect.proofs.Capped.{times_kept}
use Rattle.rng_dialect.proofs.reader.PatternReader.add_from.Goals as goal

pub returns : goal.returns
returns c outer l h a k =
    let some : 1 ≤ c.args.least + 1 = omega arith in
    let times = times_kept a.size c.args.atom.size (c.args.least + 1) k.size some in
    on_ok_weaker c.add_piece.result
    (λ added. record { outer = h.outer; level = added; place = h.place })
    (c.add_piece.ensures l a _ h.level k (c.size_times-size.ensures ∙ times.1) times.0)
