use Rattle.std.proofs.Common.{◌∙◌}
use Rattle.odd_cli.proofs.Saying.{says_written}
use Rattle.odd_cli.proofs.note.say_number.Goals as goal

pub returns : goal.returns
returns g c =
    let w = c.write_whole.ensures in
    says_written g.N.Sink.written g.N.Sink.faults _ _ _ _ c.write_whole.result (c.as_bytes.ensures.value ∙ c.format.ensures.text) w.whole w.part w.rose w.never_falls
