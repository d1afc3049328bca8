use Rattle.odd_reader.proofs.Taken.{nothing_taken}
use Rattle.odd_reader.proofs.reader.Reader.new.Goals as goal

pub returns : goal.returns
returns c = nothing_taken c.new.ensures c.in_ok-new.ensures
