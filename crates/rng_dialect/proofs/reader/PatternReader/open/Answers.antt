use Rattle.std.proofs.Common.{sym, subst}
use Rattle.rng_dialect.specs.Kept.{KeepsLevel}
use Rattle.rng_dialect.specs.Reading.{new_level}
use Rattle.rng_dialect.specs.declared.level.Level.{Level}
use Rattle.rng_dialect.proofs.reader.PatternReader.open.Goals as goal

pub returns : goal.returns
returns c outer l h = record {
  outer = (c.args.self.now.outer.items, c.replace-outer.result, c.in_ok-push.ensures.items, subst (λ (x : Level). KeepsLevel l x) (sym c.replace-outer.ensures.value) h.level, h.outer);
  level = subst (λ (x : Level). KeepsLevel new_level x) (sym c.replace-outer.ensures.after) c.new.ensures;
  place = h.place;
}
