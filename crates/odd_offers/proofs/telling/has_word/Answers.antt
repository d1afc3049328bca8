use Rattle.std.proofs.Common.{◌≡◌, true, ap, ◌∙◌}
use Rattle.std.specs.List.{list_any}
use Rattle.odd_offers.specs.Same.{text_test}
use Rattle.odd_offers.specs.Telling.{in_order}
use Rattle.odd_offers.proofs.TestsTold.{search_told}
use Rattle.odd_offers.proofs.telling.has_word.Goals as goal

pub returns : goal.returns
returns c =
    let word = c.args.word.now in
    let words = c.words_of.result.now in
    let ordered : in_order words ≡ true = ap in_order c.words_of.ensures ∙ c.requires in
    c.is_ok.ensures.value ∙ search_told words word ordered c.binary_search.result c.binary_search.ensures.bound c.binary_search.ensures.position
    ∙ ap (list_any (text_test.same word)) c.words_of.ensures
