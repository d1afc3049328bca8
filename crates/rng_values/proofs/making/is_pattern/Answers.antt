use Rattle.std.proofs.Common.{Err, ap, refl}
use Rattle.std.proofs.lemmas.Bool.{false≢true}
use Rattle.rng_values.proofs.making.is_pattern.Goals as goal
use Rattle.rng_values.proofs.making.is_pattern.Goals.{in-Ok, in-Err-BadPattern, in-Err-NoMemory}

pub returns : goal.returns
returns c =
    elim c.match-read_pattern.branch [
      | in-Ok w ↦ rw w.result-is (λ h. (w.in-Ok.field-0, w.in-Ok.ensures.ok), λ h. refl)
      | in-Err-BadPattern w ↦
          let bad = w.in-Err-BadPattern in
          rw w.result-is (λ h. absurd (false≢true h), λ p. absurd ((bad.ensures.bad bad.field-0-0 (ap Err bad.field-0-is)).1.none p.0 p.1))
      | in-Err-NoMemory w ↦ rw w.result-is tt
    ]
