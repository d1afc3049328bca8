use Rattle.rng_dialect.proofs.reader.PatternReader.start.Goals as goal

pub returns-in-41 : goal.returns-in-41
returns-in-41 c outer l h = rw c.in-41.is (c.close.ensures outer l h)
