use Rattle.odd_cli.proofs.Saying.{says_then, says_stop, says_err}
use Rattle.odd_cli.proofs.note.write_limit.Goals as goal

pub returns-in_err-line-in-Depth : goal.returns-in_err-line-in-Depth
returns-in_err-line-in-Depth g c = rw c.in-Depth.is (says_err g.N.Sink.written g.N.Sink.faults _ _ _ c.from_residual.result c.from_residual.ensures.0 (says_stop g.N.Sink.written g.N.Sink.faults _ _ _ _ (says_stop g.N.Sink.written g.N.Sink.faults _ _ _ _ c.in_err-line-in-Depth.ensures)))

pub returns-in_err-say_number-in-Depth : goal.returns-in_err-say_number-in-Depth
returns-in_err-say_number-in-Depth g c = rw c.in-Depth.is (says_err g.N.Sink.written g.N.Sink.faults _ _ _ c.from_residual-in_err-say_number-in-Depth.result c.from_residual-in_err-say_number-in-Depth.ensures.0 (says_stop g.N.Sink.written g.N.Sink.faults _ _ _ _ (says_then g.N.Sink.written g.N.Sink.faults _ _ _ _ _ _ c.in_ok-line-in-Depth.ensures c.in_err-say_number-in-Depth.ensures)))

pub returns-in_ok-say_number-in-Depth : goal.returns-in_ok-say_number-in-Depth
returns-in_ok-say_number-in-Depth g c = rw c.in-Depth.is (says_then g.N.Sink.written g.N.Sink.faults _ _ _ _ _ _ (says_then g.N.Sink.written g.N.Sink.faults _ _ _ _ _ _ c.in_ok-line-in-Depth.ensures c.in_ok-say_number-in-Depth.ensures) c.say.ensures)
