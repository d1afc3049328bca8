use Rattle.std.proofs.Common.{◌≤◌, ◌*◌, ◌∙◌, ap, min, max, arith}
use Rattle.std.proofs.lemmas.Result.{on_ok_weaker}
use Rattle.rng_dialect.proofs.Capped.{times_kept}
use Rattle.rng_dialect.proofs.reader.PatternReader.add_times.Goals as goal

pub returns : goal.returns
returns c outer l h a k =
    let some : 1 ≤ max c.args.most 1 = omega arith in
    let times = times_kept a.size c.args.atom.size (max c.args.most 1) k.size some in
    on_ok_weaker c.add_piece.result
    (λ added. record { outer = h.outer; level = added; place = h.place })
    (c.add_piece.ensures l a _ h.level k (c.size_times-size.ensures ∙ ap (λ n. min (c.args.atom.size * n) 20001) c.max.ensures ∙ times.1) times.0)
