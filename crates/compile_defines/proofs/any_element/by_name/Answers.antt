use Rattle.std.proofs.Common.{◌≡◌, [], ◌++◌, rules, sym, ap, subst, ◌∙◌}
use Rattle.std.proofs.lemmas.List.{append-nil, nil_from_length}
use Rattle.std.proofs.lemmas.List.Sorted.{answers_always}
use Rattle.std.specs.List.Sorted.{IsPermutation, IsSorted}
use Rattle.compile_defines.specs.Compiled.{define_cmp}
use Rattle.compile_defines.proofs.NamedDefines.{is_lower, lower_ranks}
use Rattle.compile_defines.proofs.any_element.by_name.Goals as goal

pub returns : goal.returns
returns c =
    let items = c.sort_unstable_by.new.self.items in
    let rest = c.loop-define.define-iterator.rest in
    let none_left : rest.items ≡ [] = nil_from_length rest.items (sym rest.ok.0 ∙ c.in-None.ensures.steps.0) in
    let all = sym (append-nil c.loop-define.sorted) ∙ ap (λ xs. c.loop-define.sorted ++ xs) (sym none_left) ∙ c.loop-define.invariant ∙ c.into_iter-define-iterator.ensures.into_iter_gives.0 in
    let moved = subst (λ ds. IsPermutation ds items) c.into_items-items.ensures c.sort_unstable_by.ensures.permutation in
    let up = c.sort_unstable_by.ensures.sorted is_lower lower_ranks (answers_always _ _ _ (λ f a r g h. search rules)) in
    (subst (IsPermutation c.args.defines) (sym all) moved, subst (IsSorted define_cmp) (sym all) up)
