-- The entries that were taken are those of the least key.
use Rattle.std.proofs.Common.{Some, sym, ap, ◌∙◌}
use Rattle.odd_overlay.proofs.Taking.{less_taken, greater_taken}
use Rattle.odd_overlay.proofs.merging.take_least.Goals as goal

pub returns-in-Some-clause-least : goal.returns-in-Some-clause-least
returns-in-Some-clause-least g c =
    less_taken g.K.Ord.cmp g.met.K.Ord.total g.met.K.ExactOrd.exact c.in-Some.key c.in-Some.value c.args.one.now c.take.new.self c.args.other.now c.in-Some.ensures.taken c.front.ensures.rising
    c.front.ensures.others (sym c.in-Some-Less.ensures.front ∙ ap Some c.in-Some-Less.field-0-is)

pub returns-in-Some-take-clause-least : goal.returns-in-Some-take-clause-least
returns-in-Some-take-clause-least g c =
    greater_taken g.K.Ord.cmp g.met.K.Ord.total g.met.K.ExactOrd.exact c.in-Some-take.key c.in-Some-take.value c.args.one.now c.args.other.now c.take-in-Some-Greater.new.self c.in-Some-take.ensures.taken c.front.ensures.rising
    c.front.ensures.others (sym c.in-Some-Greater.ensures.front ∙ ap Some c.in-Some-Greater.field-0-is)
