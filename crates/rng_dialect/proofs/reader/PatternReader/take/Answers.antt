use Rattle.std.proofs.Common.{sym, subst}
use Rattle.rng_dialect.specs.Keeping.{KeepsPlace}
use Rattle.rng_dialect.specs.Reading as reading
use Rattle.rng_dialect.specs.declared.reader.Place.{Place}
use Rattle.rng_dialect.proofs.Capped.{class_kept}
use Rattle.rng_dialect.proofs.reader.PatternReader.take.Goals as goal

pub returns-in-Class : goal.returns-in-Class
returns-in-Class c s h =
    class_kept s _ c.in-Class.class c.args.c c.class.result _ c.in-Class.ensures.value h.place
    (c.class.ensures s.outer s.level (record { outer = h.outer; level = h.level; place = subst (λ (x : Place). KeepsPlace reading.Start x) (sym c.in-Class.ensures.after) tt }))
