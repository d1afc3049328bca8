use Rattle.odd_cli.proofs.Saying.{says_then, says_stop, says_err}
use Rattle.odd_cli.proofs.note.write_not_xml.Goals as goal

pub returns-in_err-write_place : goal.returns-in_err-write_place
returns-in_err-write_place g c = says_err g.N.Sink.written g.N.Sink.faults _ _ _ c.from_residual-in_err-write_place.result c.from_residual-in_err-write_place.ensures.0 (says_stop g.N.Sink.written g.N.Sink.faults _ _ _ _ (says_then g.N.Sink.written g.N.Sink.faults _ _ _ _ _ _ c.in_ok-say.ensures c.in_err-write_place.ensures))

pub returns : goal.returns
returns g c = says_then g.N.Sink.written g.N.Sink.faults _ _ _ _ _ _ (says_then g.N.Sink.written g.N.Sink.faults _ _ _ _ _ _ c.in_ok-say.ensures c.in_ok-write_place.ensures) c.say-2.ensures
