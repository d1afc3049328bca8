use Rattle.std.proofs.Common.{IsUtf8, subst}
use Rattle.std.proofs.lemmas.Result.{IfOk-weaker}
use Rattle.rng_allows.proofs.Texts.{chars_treated}
use Rattle.rng_allows.proofs.treating.treated.Goals as goal

pub returns-in_default : goal.returns-in_default
returns-in_default c =
    let text = c.args.text.now in
    let utf8 : IsUtf8 text = subst IsUtf8 c.as_str-read.ensures c.as_str-read.utf8 in
    IfOk-weaker c.collapse.result _ _ (λ made e. chars_treated c.args.kind text made utf8 c.in_default.not-String c.in_default.not-NormalizedString e) c.collapse.ensures
