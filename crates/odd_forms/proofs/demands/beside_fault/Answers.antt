use Rattle.std.proofs.Common.{◌≡◌, ◌&&◌, rules}
use Rattle.std.specs.Prelude.{is_some}
use Rattle.odd_tree.specs.Elements.{given}
use Rattle.odd_forms.proofs.Values.{beside_least}
use Rattle.odd_forms.proofs.demands.beside_fault.Goals as goal

pub returns : goal.returns
returns c = λ binds.
    let tree = c.args.tree.now in
    let local = c.args.local.now in
    let by = c.args.by.now in
    let test : c.if-is_given.fault_where ≡ (is_some (given tree local) && is_some (given tree by)) = search rules in
    rw (c.fault_where.ensures, test) (beside_least binds tree local by)
