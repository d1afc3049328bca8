use Rattle.std.proofs.Common.{◌≡◌, rules}
use borrow.Author.Tests.{tests}
use Rattle.std.proofs.lemmas.Iterator.{YieldsList-from_chars}
use Rattle.std.proofs.lemmas.Iterator.Search.{all_from_yields_List}
use Rattle.std.specs.Char.{is_ascii_alphabetic}
use Rattle.std.specs.List.{list_all}
use Rattle.std.specs.Str.{chars}
use Rattle.rng_values.proofs.Tags.{letter_low, tag_tested}
use Rattle.rng_values.proofs.forms.is_first_tag.Goals as goal

pub returns-then-has_tag_length : goal.returns-then-has_tag_length
returns-then-has_tag_length c =
    let tag = c.args.tag.now in
    let tested : c.all.result ≡ list_all is_ascii_alphabetic (chars tag) = all_from_yields_List is_ascii_alphabetic _ _ c.all.result c.all.ensures.ran (YieldsList-from_chars tag c.utf8.tag c.chars.ensures.rest) (λ x b q k. search (rules, tests)) in
    tag_tested is_ascii_alphabetic letter_low tag c.utf8.tag c.has_tag_length.result c.all.result c.has_tag_length.ensures c.if-has_tag_length.true tested
