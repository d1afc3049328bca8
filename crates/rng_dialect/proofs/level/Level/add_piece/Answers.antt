use Rattle.std.proofs.Common.{refl}
use Rattle.std.proofs.lemmas.Result.{on_ok_weaker}
use Rattle.rng_dialect.proofs.Capped.{piece_kept}
use Rattle.rng_dialect.proofs.level.Level.add_piece.Goals as goal

pub returns : goal.returns
returns c l a n h k s least =
    on_ok_weaker c.push.result
    (λ pushed. piece_kept l a n c.args.size c.args.bounds c.args.self.now _ c.args.read h k s refl pushed c.sum_of_sizes-self.ensures c.max-self.ensures least)
    c.push.ensures.ok
