use Rattle.std.proofs.Common.{◌≡◌, ◌==◌, ◌&&◌, ◌∙◌, ap, lit<, rules, sym}
use borrow.Author.Tests.{tests}
use Rattle.std.proofs.lemmas.Iterator.Search.{all_from_yields_List}
use Rattle.std.proofs.lemmas.Iterator.Splits.{YieldsList-from_str_split}
use Rattle.std.specs.Char.{is_ascii_alphanumeric}
use Rattle.std.specs.List.{list_all, slice_split}
use Rattle.rng_values.specs.Tags.{is_tag}
use Rattle.rng_values.proofs.Naming.{same_test, through}
use Rattle.rng_values.proofs.Splitting.{cut_at, none_cut}
use Rattle.rng_values.proofs.Tags.{language_cut, language_whole}
use Rattle.rng_values.proofs.forms.is_language.Goals as goal

pub returns-then-is_first_tag : goal.returns-then-is_first_tag
returns-then-is_first_tag c =
    let rest = c.in-Some.rest.now in
    let cut = cut_at 0x2D c.args.text.now c.in-Some.first.now rest c.utf8.text (lit< tt) c.in-Some.ensures.cases in
    let tested : c.all.result ≡ list_all (is_tag is_ascii_alphanumeric) (slice_split (λ b. b == 0x2D) rest) =
    all_from_yields_List (is_tag is_ascii_alphanumeric) _ _ c.all.result c.all.ensures.ran
    (YieldsList-from_str_split 0x2D rest (lit< tt) c.split.ensures.text c.split.ensures.has_more c.split.ensures.pattern) (λ x b q k. search (rules, tests)) in
    through (same_test (tested ∙ sym (ap (λ b. b && list_all (is_tag is_ascii_alphanumeric) (slice_split (λ b. b == 0x2D) rest)) (sym c.is_first_tag.ensures ∙ c.if-is_first_tag.true))))
    (language_cut c.args.text.now c.in-Some.first.now rest cut)

pub returns-else-is_first_tag : goal.returns-else-is_first_tag
returns-else-is_first_tag c =
    let rest = c.in-Some.rest.now in
    let cut = cut_at 0x2D c.args.text.now c.in-Some.first.now rest c.utf8.text (lit< tt) c.in-Some.ensures.cases in
    through (same_test (c.if-is_first_tag.false ∙ sym (ap (λ b. b && list_all (is_tag is_ascii_alphanumeric) (slice_split (λ b. b == 0x2D) rest)) (sym c.is_first_tag.ensures ∙ c.if-is_first_tag.false))))
    (language_cut c.args.text.now c.in-Some.first.now rest cut)

pub returns-in-None : goal.returns-in-None
returns-in-None c =
    through (same_test c.is_first_tag-in-None.ensures) (language_whole c.args.text.now c.utf8.text (none_cut 0x2D c.args.text.now c.utf8.text c.in-None.ensures.cases))
