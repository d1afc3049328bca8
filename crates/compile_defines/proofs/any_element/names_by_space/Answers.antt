use Rattle.std.proofs.Common.{rules, ap, ◌∙◌}
use Rattle.std.proofs.lemmas.List.Sorted.{answers_always}
use Rattle.std.specs.List.{filter}
use Rattle.odd_text.specs.Same.{is_same}
use Rattle.compile_defines.proofs.BySpace.{is_below, below_ranks, same_names}
use Rattle.compile_defines.proofs.any_element.names_by_space.Goals as goal

pub returns-clause-rising : goal.returns-clause-rising
returns-clause-rising c = c.in_ok-sort_by.ensures.sorted is_below below_ranks (answers_always _ _ _ (λ f a r g h. search rules))

pub returns-clause-same : goal.returns-clause-same
returns-clause-same c = λ space.
    same_names c.into_items-by_space.result.items c.sort_by.new.self.items (c.in_ok-sort_by.ensures.stable is_below below_ranks (answers_always _ _ _ (λ f a r g h. search rules))) space
    ∙ ap (filter (λ n. is_same n.ns space)) (c.into_items-by_space.ensures ∙ c.in_ok-copy.ensures)
