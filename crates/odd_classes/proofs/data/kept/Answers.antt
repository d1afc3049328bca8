use Rattle.std.proofs.Common.{◌∙◌}
use Rattle.odd_text.specs.Text.{text_cmp}
use Rattle.odd_classes.proofs.TreeFacts.{got_found}
use Rattle.odd_classes.proofs.data.kept.Goals as goal

pub returns : goal.returns
returns c = c.get.ensures.value ∙ got_found text_cmp c.args.macros.now c.args.ident.now
