use Rattle.std.proofs.Common.{ap, rules, sym, ◌∙◌}
use Rattle.std.proofs.lemmas.Fn.{always_returns_same}
use Rattle.std.specs.Ordering.{is_lt}
use Rattle.odd_text.proofs.Entries.{above_last, searched}
use Rattle.odd_text.proofs.map.search.Goals as goal

pub returns-then-is_lt-clause-absent : goal.returns-then-is_lt-clause-absent
returns-then-is_lt-clause-absent g c =
    let there = c.in-Some.ensures.item.3 in
    let below = ap is_lt (sym c.cmp.ensures) ∙ sym c.is_lt.ensures ∙ c.if-is_lt.true in
    above_last g.K.Ord.cmp g.met.K.Ord.total c.args.entries.now c.requires c.args.key.now c.in-Some.last.now there.0 there.1 below

pub returns : goal.returns
returns g c =
    let facts = c.binary_search_by.ensures in
    let by_key = facts.position (λ e. g.K.Ord.cmp e.0 c.args.key.now) (always_returns_same _ _ _ (λ a r f called. (search rules, search rules))) in
    searched g.K.Ord.cmp g.met.K.Ord.total c.args.entries.now c.requires c.args.key.now _ facts.bound by_key
