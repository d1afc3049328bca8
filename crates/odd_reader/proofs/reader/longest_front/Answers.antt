use Rattle.std.proofs.Common.{ap, take, ◌∙◌}
use Rattle.odd_reader.proofs.LongestFront.{whole_front, valid_front}
use Rattle.odd_reader.proofs.reader.longest_front.Goals as goal

pub returns-in-Ok : goal.returns-in-Ok
returns-in-Ok c = whole_front c.args.bytes.now c.in-Ok.text.now c.in-Ok.ensures.cases.0

pub returns-in-Ok-from_utf8 : goal.returns-in-Ok-from_utf8
returns-in-Ok-from_utf8 c =
    let bytes = c.args.bytes.now in
    valid_front bytes c.in-Ok-from_utf8.front.now _ c.in-Err.ensures.cases.1 (c.in-Ok-from_utf8.ensures.cases.0 ∙ ap (λ n. take n bytes) c.valid_up_to.ensures)
