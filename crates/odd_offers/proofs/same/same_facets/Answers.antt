use Rattle.std.proofs.Common.{rules}
use Rattle.std.proofs.lemmas.Slice.Eq.{slice_eq-Decides}
use Rattle.odd_offers.proofs.same.same_facets.Goals as goal

-- a test that is true of equal facets alone makes the one of the lists so
pub returns : goal.returns
returns c = slice_eq-Decides (λ one other. search rules) c.args.one.now c.args.other.now c.eq.result c.eq.ensures
