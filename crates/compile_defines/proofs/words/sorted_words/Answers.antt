use Rattle.std.proofs.Common.{sym, ap, ◌∙◌}
use Rattle.std.proofs.lemmas.List.Sorted.{list_any-IsPermutation}
use Rattle.std.specs.List.{list_any}
use Rattle.odd_text.specs.Same.{is_same}
use Rattle.compile_defines.proofs.words.sorted_words.Goals as goal

pub returns-clause-same : goal.returns-clause-same
returns-clause-same c = λ word.
    sym (list_any-IsPermutation (is_same word) c.into_items-sorted.result.items c.sort_unstable.new.self.items c.sort_unstable.ensures.permutation)
    ∙ ap (list_any (is_same word)) (c.into_items-sorted.ensures ∙ c.in_ok-copy.ensures)
