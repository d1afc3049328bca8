use Rattle.std.proofs.Common.{None, lit<, ◌∙◌}
use Rattle.std.proofs.lemmas.Str.Pattern.{strip_prefix_char}
use Rattle.odd_items.proofs.holding.fragment.Goals as goal

pub returns-in-None : goal.returns-in-None
returns-in-None c = λ id. (λ e. cc, λ e. absurd (strip_prefix_char 0x23 c.as_str.result.now None c.in-None.ensures.cases (lit< tt) id (c.as_str.ensures ∙ e)))
