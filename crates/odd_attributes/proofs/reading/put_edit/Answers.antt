use Rattle.std.proofs.Common.{◌∙◌}
use Rattle.odd_text.specs.Text.{text_cmp}
use Rattle.odd_overlay.proofs.Ordered.{inserted_put}
use Rattle.odd_attributes.proofs.reading.put_edit.Goals as goal

pub returns : goal.returns
returns c = c.in_ok-insert.ensures.entries ∙ inserted_put text_cmp c.args.ident c.args.edit c.args.edits.now.entries
