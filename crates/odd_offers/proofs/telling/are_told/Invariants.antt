use Rattle.std.proofs.Common.{◌≡◌, drop}
use Rattle.std.specs.List.{list_all}
use Rattle.odd_offers.specs.Telling.{told_by}
use Rattle.odd_offers.proofs.telling.are_told.Given as goal

abbrev pub invariant-loop-part : goal.invariant-loop-part
invariant-loop-part g l =
    list_all (λ part. told_by (g.P.Part.alike part) l.first l.offers l.def) (drop l.part-index l.parts)
    ≡ list_all (λ part. told_by (g.P.Part.alike part) l.first l.offers l.def) l.parts
