use Rattle.std.proofs.Common.{ap, subst, Err}
use Rattle.odd_tree.specs.Spelled.{DepthPlace, IsNotXml}
use Rattle.odd_cli.specs.Reply.{FileStops}
use Rattle.odd_cli.proofs.running.read_file.Goals as goal

pub returns-in-Err-TooLong-clause-err : goal.returns-in-Err-TooLong-clause-err
returns-in-Err-TooLong-clause-err g c = λ files h replied. FileStops.too_long (c.in-Err-TooLong.ensures.too_long files h (ap Err c.in-Err-TooLong.field-0-is))

pub returns-in-Err-NotXml-clause-err : goal.returns-in-Err-NotXml-clause-err
returns-in-Err-NotXml-clause-err g c = λ files h replied.
    let at = c.in-Err-NotXml.at in
    FileStops.not_xml c.in-Ok.bytes (record { held = c.in-Ok.ensures.ok files h; within = c.in-Ok.ensures.within })
    (subst (λ b. IsNotXml b at) c.as_slice.ensures (c.in-Err-NotXml.ensures.not_xml at c.in-Err-NotXml.field-0-is))

pub returns-in-Err-TooDeep-clause-err : goal.returns-in-Err-TooDeep-clause-err
returns-in-Err-TooDeep-clause-err g c = λ files h replied.
    let at = c.in-Err-TooDeep.at in
    FileStops.too_deep c.in-Ok.bytes (record { held = c.in-Ok.ensures.ok files h; within = c.in-Ok.ensures.within })
    (subst (λ b. DepthPlace b at) c.as_slice.ensures (c.in-Err-TooDeep.ensures.too_deep at c.in-Err-TooDeep.field-0-is))
