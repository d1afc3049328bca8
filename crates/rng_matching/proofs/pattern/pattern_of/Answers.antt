use Rattle.rng_matching.proofs.pattern.pattern_of.Goals as goal

pub returns : goal.returns
returns c = record { matches = c.in_ok-pat.ensures.made c.regex_pattern.new.classes (λ n a e. e) }
