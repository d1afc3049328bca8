use Rattle.odd_decls.specs.Faults.{TargetFault}
use Rattle.odd_decls.proofs.FirstFault.{least_again}
use Rattle.odd_decls.proofs.references.rule_broken.Goals as goal

pub returns : goal.returns
returns c t are =
    least_again (TargetFault t c.args.standing.now c.args.reference.now) c.args.again c.in_ok-wrong.wrong _ _ (c.in_ok-wrong.ensures t are) c.fault_where.ensures c.lesser.ensures
