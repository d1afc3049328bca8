use Rattle.std.proofs.Common.{rules, ◌≡◌, ◌∙◌, sym, subst, slice_index_or}
use Rattle.std.proofs.lemmas.List.Folds.{Any-from_list_any}
use Rattle.odd_pool.proofs.walk.Walk.has.Goals as goal

pub returns : goal.returns
returns c = λ holds.
    let ways = c.args.self.now.ways.keys in
    let any = Any-from_list_any _ ways (sym c.contains.ensures ∙ holds) in
    let same : any.1 ≡ c.args.way = search rules in
    (any.0, any.2, subst (λ z. slice_index_or ways any.0 z ≡ z) same any.3)
