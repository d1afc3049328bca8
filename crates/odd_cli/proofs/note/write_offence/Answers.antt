use Rattle.std.specs.Prelude.{codes, decimal}
use Rattle.odd_cli.specs.Note.{who_text}
use Rattle.odd_cli.proofs.Saying.{says_then, says_stop, says_err}
use Rattle.odd_cli.proofs.note.write_offence.Goals as goal

pub returns-in_err-say : goal.returns-in_err-say
returns-in_err-say g c =
    let o = c.args.offence.now in
    says_err g.N.Sink.written g.N.Sink.faults _ _ _ c.from_residual.result c.from_residual.ensures.0
    (says_stop g.N.Sink.written g.N.Sink.faults _ _ _ (codes "\n")
    (says_stop g.N.Sink.written g.N.Sink.faults _ _ _ (decimal o.rule)
    (says_stop g.N.Sink.written g.N.Sink.faults _ _ _ (codes ": rule ")
    (says_stop g.N.Sink.written g.N.Sink.faults _ _ _ (who_text o.file o.who) c.in_err-say.ensures))))

pub returns-in_err-write_who : goal.returns-in_err-write_who
returns-in_err-write_who g c = (says_err g.N.Sink.written g.N.Sink.faults _ _ _ c.from_residual-in_err-write_who.result c.from_residual-in_err-write_who.ensures.0 (says_stop g.N.Sink.written g.N.Sink.faults _ _ _ _ (says_stop g.N.Sink.written g.N.Sink.faults _ _ _ _ (says_stop g.N.Sink.written g.N.Sink.faults _ _ _ _ (says_then g.N.Sink.written g.N.Sink.faults _ _ _ _ _ _ c.in_ok-say.ensures c.in_err-write_who.ensures)))))

pub returns-in_err-say-2 : goal.returns-in_err-say-2
returns-in_err-say-2 g c = (says_err g.N.Sink.written g.N.Sink.faults _ _ _ c.from_residual-in_err-say-2.result c.from_residual-in_err-say-2.ensures.0 (says_stop g.N.Sink.written g.N.Sink.faults _ _ _ _ (says_stop g.N.Sink.written g.N.Sink.faults _ _ _ _ (says_then g.N.Sink.written g.N.Sink.faults _ _ _ _ _ _ (says_then g.N.Sink.written g.N.Sink.faults _ _ _ _ _ _ c.in_ok-say.ensures c.in_ok-write_who.ensures) c.in_err-say-2.ensures))))

pub returns-in_err-say_number : goal.returns-in_err-say_number
returns-in_err-say_number g c = (says_err g.N.Sink.written g.N.Sink.faults _ _ _ c.from_residual-in_err-say_number.result c.from_residual-in_err-say_number.ensures.0 (says_stop g.N.Sink.written g.N.Sink.faults _ _ _ _ (says_then g.N.Sink.written g.N.Sink.faults _ _ _ _ _ _ (says_then g.N.Sink.written g.N.Sink.faults _ _ _ _ _ _ (says_then g.N.Sink.written g.N.Sink.faults _ _ _ _ _ _ c.in_ok-say.ensures c.in_ok-write_who.ensures) c.in_ok-say-2.ensures) c.in_err-say_number.ensures)))

pub returns : goal.returns
returns g c = (says_then g.N.Sink.written g.N.Sink.faults _ _ _ _ _ _ (says_then g.N.Sink.written g.N.Sink.faults _ _ _ _ _ _ (says_then g.N.Sink.written g.N.Sink.faults _ _ _ _ _ _ (says_then g.N.Sink.written g.N.Sink.faults _ _ _ _ _ _ c.in_ok-say.ensures c.in_ok-write_who.ensures) c.in_ok-say-2.ensures) c.in_ok-say_number.ensures) c.say-3.ensures)
