use Rattle.std.specs.Cmp.Lexicographic.{bytes_decides}
use Rattle.std.proofs.lemmas.Slice.Eq.{slice_eq-Decides}
use Rattle.odd_offers.proofs.same.same_words.Goals as goal

-- a test that is true of equal texts alone makes the one of the lists so
pub returns : goal.returns
returns c = slice_eq-Decides bytes_decides c.args.one.now c.args.other.now c.eq.result c.eq.ensures
