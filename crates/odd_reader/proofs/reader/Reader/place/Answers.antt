use Rattle.std.proofs.Common.{sym, ◌∙◌}
use Rattle.std.proofs.lemmas.Bool.{both_ways}
use Rattle.odd_reader.proofs.Taken.{place_between}
use Rattle.odd_reader.proofs.reader.Reader.place.Goals as goal

pub returns-then-is_between : goal.returns-then-is_between
returns-then-is_between c = λ cs e h. e ∙ sym (place_between h ((c.is_between.ensures _ _ _ h.read).0 c.if-is_between.true))

pub returns-else-is_between : goal.returns-else-is_between
returns-else-is_between c = λ cs e h. c.begin.ensures _ _ _ h.read (λ n. both_ways c.is_between.result c.if-is_between.false ((c.is_between.ensures _ _ _ h.read).1 n))
