use Rattle.std.proofs.Common.{◌∷◌, [], inl, inr, refl}
use Rattle.std.specs.Prelude.{vec_len}
use Rattle.odd_patterns.proofs.Pieces.{ended}
use Rattle.odd_patterns.proofs.making.only.Goals as goal

pub returns-in-Some : goal.returns-in-Some
returns-in-Some g c =
    inr (ended (vec_len c.args.items) c.args.items.items c.pop.new.self.items (c.in-Some.part ∷ []) c.requires c.in-Some.ensures.rest c.in-Some.ensures.items)

pub returns : goal.returns
returns g c =
    inl (ended (vec_len c.args.items) c.args.items.items c.pop.new.self.items [] c.requires c.in-None.ensures.rest c.in-None.ensures.items, refl)
