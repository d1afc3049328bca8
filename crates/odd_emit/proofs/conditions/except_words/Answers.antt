use Rattle.std.proofs.Common.{◌++◌, ap, arith, rules, zero}
use Rattle.odd_tree.specs.Names.{xml_namespace}
use Rattle.odd_emit.specs.Contents.{prefixed_from}
use Rattle.odd_emit.proofs.conditions.except_words.Goals as goal

pub loop-name-init : goal.loop-name-init
loop-name-init c = (search rules, omega arith, ap (λ ws. ws ++ prefixed_from xml_namespace zero c.args.condition.now.names) c.in_ok-words.ensures)
