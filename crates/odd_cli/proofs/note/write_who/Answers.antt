use Rattle.odd_cli.proofs.Saying.{says_then, says_stop, says_err, says_same}
use Rattle.odd_cli.proofs.note.write_who.Goals as goal

pub returns-in_err-line-in-Part : goal.returns-in_err-line-in-Part
returns-in_err-line-in-Part g c = rw c.in-Part.is (says_err g.N.Sink.written g.N.Sink.faults _ _ _ c.from_residual.result c.from_residual.ensures.0 (says_stop g.N.Sink.written g.N.Sink.faults _ _ _ _ (says_stop g.N.Sink.written g.N.Sink.faults _ _ _ _ (says_stop g.N.Sink.written g.N.Sink.faults _ _ _ _ c.in_err-line-in-Part.ensures))))

pub returns-in_err-say-in-Part : goal.returns-in_err-say-in-Part
returns-in_err-say-in-Part g c = rw c.in-Part.is (says_err g.N.Sink.written g.N.Sink.faults _ _ _ c.from_residual-in_err-say-in-Part.result c.from_residual-in_err-say-in-Part.ensures.0 (says_stop g.N.Sink.written g.N.Sink.faults _ _ _ _ (says_stop g.N.Sink.written g.N.Sink.faults _ _ _ _ (says_then g.N.Sink.written g.N.Sink.faults _ _ _ _ _ _ c.in_ok-line-in-Part.ensures (says_same g.N.Sink.written g.N.Sink.faults _ _ _ _ _ c.word_of_kind.ensures c.in_err-say-in-Part.ensures)))))

pub returns-in_err-say-in-Part-2 : goal.returns-in_err-say-in-Part-2
returns-in_err-say-in-Part-2 g c = rw c.in-Part.is (says_err g.N.Sink.written g.N.Sink.faults _ _ _ c.from_residual-in_err-say-in-Part-2.result c.from_residual-in_err-say-in-Part-2.ensures.0 (says_stop g.N.Sink.written g.N.Sink.faults _ _ _ _ (says_then g.N.Sink.written g.N.Sink.faults _ _ _ _ _ _ (says_then g.N.Sink.written g.N.Sink.faults _ _ _ _ _ _ c.in_ok-line-in-Part.ensures (says_same g.N.Sink.written g.N.Sink.faults _ _ _ _ _ c.word_of_kind.ensures c.in_ok-say-in-Part.ensures)) c.in_err-say-in-Part-2.ensures)))

pub returns-in_ok-say-in-Part-2 : goal.returns-in_ok-say-in-Part-2
returns-in_ok-say-in-Part-2 g c = rw c.in-Part.is (says_then g.N.Sink.written g.N.Sink.faults _ _ _ _ _ _ (says_then g.N.Sink.written g.N.Sink.faults _ _ _ _ _ _ (says_then g.N.Sink.written g.N.Sink.faults _ _ _ _ _ _ c.in_ok-line-in-Part.ensures (says_same g.N.Sink.written g.N.Sink.faults _ _ _ _ _ c.word_of_kind.ensures c.in_ok-say-in-Part.ensures)) c.in_ok-say-in-Part-2.ensures) (says_same g.N.Sink.written g.N.Sink.faults _ _ _ _ _ c.as_str.ensures c.say-in-Part-2.ensures))

pub returns-in_err-say-in-Start : goal.returns-in_err-say-in-Start
returns-in_err-say-in-Start g c = rw c.in-Start.is (says_err g.N.Sink.written g.N.Sink.faults _ _ _ c.from_residual-in_err-say-in-Start.result c.from_residual-in_err-say-in-Start.ensures.0 (says_stop g.N.Sink.written g.N.Sink.faults _ _ _ _ c.in_err-say-in-Start.ensures))

pub returns-in_ok-say-in-Start : goal.returns-in_ok-say-in-Start
returns-in_ok-say-in-Start g c = rw c.in-Start.is (says_then g.N.Sink.written g.N.Sink.faults _ _ _ _ _ _ c.in_ok-say-in-Start.ensures (says_same g.N.Sink.written g.N.Sink.faults _ _ _ _ _ c.as_str-in-Start.ensures c.say-in-Start-2.ensures))

pub returns-in_err-say-in-Asked : goal.returns-in_err-say-in-Asked
returns-in_err-say-in-Asked g c = rw c.in-Asked.is (says_err g.N.Sink.written g.N.Sink.faults _ _ _ c.from_residual-in_err-say-in-Asked.result c.from_residual-in_err-say-in-Asked.ensures.0 (says_stop g.N.Sink.written g.N.Sink.faults _ _ _ _ c.in_err-say-in-Asked.ensures))

pub returns-in_ok-say-in-Asked : goal.returns-in_ok-say-in-Asked
returns-in_ok-say-in-Asked g c = rw c.in-Asked.is (says_then g.N.Sink.written g.N.Sink.faults _ _ _ _ _ _ c.in_ok-say-in-Asked.ensures (says_same g.N.Sink.written g.N.Sink.faults _ _ _ _ _ c.as_str-in-Asked.ensures c.say-in-Asked-2.ensures))
