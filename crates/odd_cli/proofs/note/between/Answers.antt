use Rattle.odd_cli.proofs.Saying.{says_then, says_stop, says_err}
use Rattle.odd_cli.proofs.note.between.Goals as goal

pub returns-in_err-say_number : goal.returns-in_err-say_number
returns-in_err-say_number g c = (says_err g.N.Sink.written g.N.Sink.faults _ _ _ c.from_residual-in_err-say_number.result c.from_residual-in_err-say_number.ensures.0 (says_stop g.N.Sink.written g.N.Sink.faults _ _ _ _ (says_then g.N.Sink.written g.N.Sink.faults _ _ _ _ _ _ c.in_ok-say.ensures c.in_err-say_number.ensures)))

pub returns : goal.returns
returns g c = (says_then g.N.Sink.written g.N.Sink.faults _ _ _ _ _ _ (says_then g.N.Sink.written g.N.Sink.faults _ _ _ _ _ _ c.in_ok-say.ensures c.in_ok-say_number.ensures) c.say-2.ensures)
