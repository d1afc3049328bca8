use Rattle.std.proofs.Common.{◌≡◌, ◌&&◌, ◌∙◌, ap, rules, sym}
use borrow.Author.Tests.{tests}
use Rattle.std.proofs.lemmas.Fn.{always_returns_same}
use Rattle.std.proofs.lemmas.Iterator.{YieldsList-from_chars}
use Rattle.std.proofs.lemmas.Iterator.Search.{all_from_yields_List}
use Rattle.std.specs.List.{list_all}
use Rattle.std.specs.Str.{chars}
use Rattle.odd_tokens.specs.Characters.{is_name_char, is_name_start}
use Rattle.rng_values.proofs.Naming.{first_tested, ncname_tested, same_test}
use Rattle.rng_values.proofs.forms.is_ncname.Goals as goal

pub returns-then-starts_with : goal.returns-then-starts_with
returns-then-starts_with c =
    let text = c.args.text.now in
    let first = first_tested is_name_start text c.starts_with.result c.utf8.text c.starts_with.ensures.cases (always_returns_same _ _ _ (λ a r g h. search (rules, tests))) in
    let tested : c.all.result ≡ list_all is_name_char (chars text) = all_from_yields_List is_name_char _ _ c.all.result c.all.ensures.ran (YieldsList-from_chars text c.utf8.text c.chars.ensures.rest) (λ x b q k. search (rules, tests)) in
    same_test (tested ∙ sym (ap (λ b. b && list_all is_name_char (chars text)) (sym first ∙ c.if-starts_with.true)) ∙ ncname_tested (chars text))

pub returns-else-starts_with : goal.returns-else-starts_with
returns-else-starts_with c =
    let text = c.args.text.now in
    let first = first_tested is_name_start text c.starts_with.result c.utf8.text c.starts_with.ensures.cases (always_returns_same _ _ _ (λ a r g h. search (rules, tests))) in
    same_test (c.if-starts_with.false ∙ sym (ap (λ b. b && list_all is_name_char (chars text)) (sym first ∙ c.if-starts_with.false)) ∙ ncname_tested (chars text))
