use Rattle.std.proofs.Common.{◌↔◌, IfOk, IsTrue, subst}
use Rattle.std.proofs.lemmas.Result.{IfOk-weaker}
use Rattle.std.specs.Str.{chars}
use Rattle.rng_dialect.specs.Dialect.{SpellsRegex}
use Rattle.rng_dialect.specs.Matching.{Matches}
use Rattle.rng_dialect.specs.declared.regex.Regex.{Regex}
use Rattle.rng_matching.specs.Machine.{IsMatchedBy}
use Rattle.rng_allows.proofs.typed.is_spelled_match.Goals as goal

pub returns-in_ok-new-in-Ok : goal.returns-in_ok-new-in-Ok
returns-in_ok-new-in-Ok c =
    let own = chars c.args.pattern.now in
    let cs = chars c.args.text.now in
    let r = c.in-Ok.regex in
    let made = c.in_ok-new-in-Ok.field-0 in
    let spelled = c.in-Ok.ensures.ok in
    let matched = c.in_ok-new-in-Ok.ensures cs in
    let answer = subst (λ bytes. IfOk c.is_match.result (λ yes. IsTrue yes ↔ IsMatchedBy made (chars bytes))) c.as_str.ensures c.is_match.ensures.answer in
    IfOk-weaker c.is_match.result (λ yes. IsTrue yes ↔ IsMatchedBy made cs) (λ yes. IsTrue yes ↔ ((q : Regex) × SpellsRegex own q × Matches q cs))
    (λ yes h. (λ t. (r, (spelled.size, spelled.levels, spelled.spelled), matched.0 (h.0 t)), λ p. h.1 (matched.1 (subst (λ q. Matches q cs) (c.in-Ok.ensures.one p.0 p.1) p.2)))) answer
