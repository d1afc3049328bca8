use Rattle.std.proofs.lemmas.Cmp.{nat_list_cmp_total}
use Rattle.odd_text.specs.Text.{text_cmp}
use Rattle.odd_classes.proofs.TreeFacts.{tree_sets}
use Rattle.odd_classes.proofs.data.keep.Goals as goal

pub returns : goal.returns
returns c = tree_sets text_cmp nat_list_cmp_total c.args.macros.now c.insert.new.self c.args.ident c.args.facts c.in_ok-insert.ensures.updates.0
