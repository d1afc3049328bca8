use Rattle.std.proofs.Common.{◌≡◌, [], ◌++◌, sym, ap, subst, ◌∙◌}
use Rattle.std.proofs.lemmas.List.{append-nil, nil_from_length}
use Rattle.std.proofs.lemmas.List.Filters.{dedup_is}
use Rattle.std.specs.List.Sorted.{IsPermutation}
use Rattle.odd_text.proofs.SetOf.{sorted_once}
use Rattle.odd_text.proofs.sorting.sorted.Goals as goal

pub returns : goal.returns
returns g c =
    let ordered = c.sort_unstable.new.self.items in
    let rest = c.loop-item.item-iterator.rest in
    let moved = subst (λ items. IsPermutation items ordered) c.into_items-items.ensures c.sort_unstable.ensures.permutation in
    let none_left : rest.items ≡ [] = nil_from_length rest.items (sym rest.ok.0 ∙ c.in-None.ensures.steps.0) in
    let all = sym (append-nil c.loop-item.sorted) ∙ ap (λ xs. c.loop-item.sorted ++ xs) (sym none_left) ∙ c.loop-item.invariant ∙ c.into_iter-item-iterator.ensures.into_iter_gives.0 in
    sorted_once g.T.Ord.cmp g.T.PartialEq.eq g.met.T.Ord.total g.met.T.Eq.laws g.met.T.Ord.matches_eq g.met.T.ExactOrd.exact c.args.items ordered c.loop-item.sorted moved c.sort_unstable.ensures.sorted
    (all ∙ dedup_is _ _ _ c.dedup.ensures.filtered)
