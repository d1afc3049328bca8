use Rattle.odd_cli.proofs.Saying.{says_then, says_stop, says_err}
use Rattle.odd_cli.proofs.note.write_place.Goals as goal

pub returns-in_err-line : goal.returns-in_err-line
returns-in_err-line g c = says_err g.N.Sink.written g.N.Sink.faults _ _ _ c.from_residual.result c.from_residual.ensures.0 (says_stop g.N.Sink.written g.N.Sink.faults _ _ _ _ c.in_err-line.ensures)

pub returns : goal.returns
returns g c = says_then g.N.Sink.written g.N.Sink.faults _ _ _ _ _ _ c.in_ok-line.ensures c.say_number.ensures
