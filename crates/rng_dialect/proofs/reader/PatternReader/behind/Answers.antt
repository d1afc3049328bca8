use Rattle.std.proofs.Common.{arith}
use Rattle.rng_dialect.specs.Reading.{once}
use Rattle.rng_dialect.proofs.Capped.{behind_other}
use Rattle.rng_dialect.proofs.reader.PatternReader.behind.Goals as goal

pub returns-in_default : goal.returns-in_default
returns-in_default c outer l h a k =
    behind_other outer l a c.args.c c.start.result _ (omega arith) (omega arith) (omega arith) (omega arith)
    (c.start.ensures outer (once l a) (record { outer = h.outer; level = c.in_ok-add_once-in_default.ensures l a h.level k; place = h.place }))
