use Rattle.std.proofs.Common.{IfOk, subst}
use Rattle.odd_patterns.specs.Words.{IsChoiceOf}
use Rattle.odd_patterns.proofs.making.choice_of.Goals as goal

pub returns : goal.returns
returns g c = subst (λ parts. IfOk c.choice_of_items.result (λ made. IsChoiceOf parts made)) c.into_items.ensures c.choice_of_items.ensures
