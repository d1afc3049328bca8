use Rattle.std.proofs.Common.{◌≡◌, rules}
use borrow.Author.Tests.{tests}
use Rattle.std.proofs.lemmas.Iterator.{YieldsList-from_chars}
use Rattle.std.proofs.lemmas.Iterator.Search.{all_from_yields_List}
use Rattle.std.specs.List.{list_all}
use Rattle.std.specs.Str.{chars}
use Rattle.rng_values.specs.Lexical.{is_nmtoken_char}
use Rattle.rng_values.proofs.Naming.{none_passes, some_pass}
use Rattle.rng_values.proofs.forms.is_nmtoken.Goals as goal

pub returns-then-not-is_empty : goal.returns-then-not-is_empty
returns-then-not-is_empty c =
    let text = c.args.text.now in
    let tested : c.all.result ≡ list_all is_nmtoken_char (chars text) = all_from_yields_List is_nmtoken_char _ _ c.all.result c.all.ensures.ran (YieldsList-from_chars text c.utf8.text c.chars.ensures.rest) (λ x b q k. search (rules, tests)) in
    some_pass is_nmtoken_char text c.is_empty.result c.all.result c.utf8.text c.is_empty.ensures c.if-not-is_empty.true tested

pub returns-else-not-is_empty : goal.returns-else-not-is_empty
returns-else-not-is_empty c = none_passes is_nmtoken_char c.args.text.now c.is_empty.result c.is_empty.ensures c.if-not-is_empty.false
