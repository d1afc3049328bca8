use Rattle.odd_decls.proofs.AllFirst.{group_first, no_group}
use Rattle.odd_decls.proofs.faults.groups_fault.Goals as goal

pub returns-in_err-at : goal.returns-in_err-at
returns-in_err-at c t first end formed are = no_group t c.from_residual.result (c.in_err-at.ensures t first end formed are) c.from_residual.ensures

pub returns : goal.returns
returns c t first end formed are = group_first t c.in_ok-at.at c.twice_at.result (c.in_ok-at.ensures t first end formed are) c.twice_at.ensures
