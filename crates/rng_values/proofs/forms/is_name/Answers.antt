use Rattle.std.proofs.Common.{◌∙◌, rules, sym}
use borrow.Author.Tests.{tests}
use Rattle.std.proofs.lemmas.Bool.{both_ways}
use Rattle.std.proofs.lemmas.Fn.{always_returns_same}
use Rattle.std.specs.Str.{chars}
use Rattle.rng_values.proofs.Naming.{begins_name, first_tested, name_tested}
use Rattle.rng_values.proofs.forms.is_name.Goals as goal

pub returns-then-starts_with : goal.returns-then-starts_with
returns-then-starts_with c =
    let cs = chars c.args.text.now in
    let first = first_tested begins_name c.args.text.now c.starts_with.result c.utf8.text c.starts_with.ensures.cases (always_returns_same _ _ _ (λ a r g h. search (rules, tests))) in
    (λ h. (name_tested cs).0 (sym first ∙ c.if-starts_with.true, c.is_nmtoken.ensures.0 h), λ n. c.is_nmtoken.ensures.1 ((name_tested cs).1 n).1)

pub returns-else-starts_with : goal.returns-else-starts_with
returns-else-starts_with c =
    let first = first_tested begins_name c.args.text.now c.starts_with.result c.utf8.text c.starts_with.ensures.cases (always_returns_same _ _ _ (λ a r g h. search (rules, tests))) in
    (λ h. absurd (both_ways _ c.if-starts_with.false h), λ n. first ∙ ((name_tested (chars c.args.text.now)).1 n).0)
