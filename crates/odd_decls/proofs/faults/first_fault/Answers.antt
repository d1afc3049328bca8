use Rattle.std.proofs.Common.{ap₂, subst, sym, ◌∙◌}
use Rattle.odd_decls.proofs.AllFirst.{all_first}
use Rattle.odd_decls.proofs.FirstFault.{lesser_fault}
use Rattle.odd_decls.specs.Faults.{IsFirstIn}
use Rattle.odd_decls.specs.Offences.{Offends}
use Rattle.odd_decls.proofs.faults.first_fault.Goals as goal

pub returns : goal.returns
returns c t first end formed are =
    subst (IsFirstIn (Offends t are.schemas)) (sym (c.lesser-3.ensures ∙ ap₂ lesser_fault c.lesser.ensures c.lesser-2.ensures))
    (all_first t are.schemas c.in_ok-schemas.schemas c.groups_fault-groups.result c.in_ok-items.items c.in_ok-references.references (c.in_ok-schemas.ensures t first end formed are)
    (c.groups_fault-groups.ensures t first end formed are.groups) (c.in_ok-items.ensures t first end formed are) (c.in_ok-references.ensures t first end formed are))
