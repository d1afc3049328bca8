use Rattle.std.proofs.Common.{rules, subst}
use Rattle.odd_content.specs.Formed.{IsFormedContent}
use Rattle.odd_content.proofs.Formed.{content_formed}
use Rattle.odd_content.proofs.reading.read_content.Goals as goal

pub returns-clause-formed : goal.returns-clause-formed
returns-clause-formed c = λ first end formed bound. subst IsFormedContent (search rules) (content_formed c.args.scope.now c.args.tree.now bound formed (search rules))
