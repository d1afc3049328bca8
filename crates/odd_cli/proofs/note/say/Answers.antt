use Rattle.odd_cli.proofs.Saying.{says_written}
use Rattle.odd_cli.proofs.note.say.Goals as goal

pub returns : goal.returns
returns g c =
    let w = c.write_whole.ensures in
    says_written g.N.Sink.written g.N.Sink.faults _ _ _ _ c.write_whole.result c.as_bytes.ensures.value w.whole w.part w.rose w.never_falls
