use Rattle.odd_classes.proofs.OnCycles.{first_own, none_own}
use Rattle.odd_classes.proofs.cycles.acyclic_classes.Goals as goal

pub returns-clause-none : goal.returns-clause-none
returns-clause-none c = λ ok. none_own _ (c.acyclic_by.ensures.none ok)

pub returns-clause-first : goal.returns-clause-first
returns-clause-first c = λ key rule is. first_own _ key (c.acyclic_by.ensures.first key rule is)
