use Rattle.std.proofs.Common.{ap, ◌∙◌, sym}
use Rattle.std.specs.Str.{encode_utf8_all}
use Rattle.rng_allows.proofs.Texts.{same_collapsed}
use Rattle.rng_allows.proofs.allowing.is_same.Goals as goal

pub returns : goal.returns
returns c = (
  λ h. same_collapsed c.args.one.now c.args.other.now (sym c.in_ok-collapsed.ensures ∙ c.eq.ensures.same.0 h ∙ c.in_ok-others.ensures),
  λ e. c.eq.ensures.same.1 (c.in_ok-collapsed.ensures ∙ ap encode_utf8_all e ∙ sym c.in_ok-others.ensures),
)
