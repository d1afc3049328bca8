use Rattle.std.proofs.Common.{◌≡◌, ◌∙◌, rules, tests}
use Rattle.std.specs.List.{list_any}
use Rattle.std.proofs.lemmas.Iterator.{YieldsList-from_slice}
use Rattle.std.proofs.lemmas.Iterator.Search.{any_from_yields_List}
use Rattle.odd_text.specs.Same.{is_same}
use Rattle.odd_text.proofs.Least.{any_map}
use Rattle.odd_text.proofs.among.is_among.Goals as goal

pub returns : goal.returns
returns c =
    let text = c.args.text.now in
    let words = c.args.words.now in
    let some : c.any.result ≡ list_any (λ w. is_same text w.now) words =
    any_from_yields_List (λ w. is_same text w.now) _ _ c.any.result c.any.ensures.ran (YieldsList-from_slice words c.iter.ensures.rest) (λ x b q k. search (rules, tests)) in
    some ∙ any_map (is_same text) (λ w. w.now) words
