use Rattle.std.proofs.Common.{ℕ, List}
use Rattle.rng_matching.specs.Searched.{admits}
use Rattle.rng_matching.proofs.Alike.{searched_same}
use Rattle.rng_matching.proofs.Stays.{stay_none}
use Rattle.rng_matching.proofs.matcher.Matcher.new.Goals as goal

pub returns : goal.returns
returns c = λ (cs : List ℕ).
    let atoms = c.in_ok-made.made.chars.classes in
    let sets = c.in_ok-chars.chars.sets in
    let put = c.in_ok-start.ensures.fits (admits sets) cs in
    let same = searched_same atoms sets c.in_ok-made.made.pat c.in_ok-pat.pat cs c.in_ok-chars.ensures c.in_ok-pat.ensures in
    let made = c.in_ok-made.ensures.matches cs in
    (λ m. made.1 (same.0 (put.0 m)), λ m. put.1 (same.1 (made.0 m)))

pub invariant_of-result : goal.invariant_of-result
invariant_of-result c = (
  c.in_ok-start.ensures.within,
  λ k e there. absurd (c.in_ok-memory.ensures k e there),
  stay_none (admits c.in_ok-chars.chars.sets) c.put.new.self c.in_ok-staying.staying.known.items c.in_ok-staying.ensures,
)
