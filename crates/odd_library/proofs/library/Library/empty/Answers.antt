use Rattle.std.proofs.Common.{rules}
use Rattle.odd_library.proofs.Formed.{empty_formed}
use Rattle.odd_library.proofs.library.Library.empty.Goals as goal

pub returns-clause-formed : goal.returns-clause-formed
returns-clause-formed c = empty_formed _ (search rules)
