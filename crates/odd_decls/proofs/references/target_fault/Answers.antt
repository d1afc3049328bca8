use Rattle.std.proofs.Common.{sym, subst}
use Rattle.odd_text.specs.Least.{IsLeast}
use Rattle.odd_decls.specs.Faults.{TargetFault}
use Rattle.odd_decls.specs.FileItems.{IsGroupPlace}
use Rattle.odd_decls.proofs.TargetFaults.{foreign_least, standing_least, unknown_least}
use Rattle.odd_decls.proofs.references.target_fault.Goals as goal

pub returns-in_default : goal.returns-in_default
returns-in_default c t are = foreign_least t c.args.standing.now c.args.reference.now c.in_ok-id.field-0 c.in_default.is c.in_ok-id.ensures

pub returns-in-Some-place_of : goal.returns-in-Some-place_of
returns-in-Some-place_of c t are =
    subst (IsLeast (TargetFault t c.args.standing.now c.args.reference.now)) (sym c.fault_where.ensures)
    (standing_least t c.args.standing.now c.args.reference.now c.in-Some.id ((c.in_ok-id.ensures c.in-Some.id).0 c.in-Some.is) c.in-Some-place_of.at c.contains.result
    (subst (IsGroupPlace t c.in-Some.id) c.in-Some-place_of.is (c.place_of.ensures t are)) c.contains.ensures)

pub returns : goal.returns
returns c t are =
    let id = c.in-Some.id in
    unknown_least t c.args.standing.now c.args.reference.now id ((c.in_ok-id.ensures id).0 c.in-Some.is) (subst (IsGroupPlace t id) c.in-None.is (c.place_of.ensures t are))
