use Rattle.std.proofs.Common.{◌≡◌, ◌↔◌, ℕ, true, List, take}
use Rattle.odd_tree.specs.declared.tree.Tree.{Tree}
use Rattle.odd_decls.proofs.FirstFault.{BreaksAt}
use Rattle.odd_decls.proofs.ReferencesFirst.{Wrongly}
use Rattle.odd_decls.proofs.TargetFaults.{HasTargetIn, has_text}
use Rattle.odd_decls.specs.Faults.{IsFirstIn}
use Rattle.odd_decls.specs.FileItems.{AreGroupsOf}
use Rattle.odd_decls.proofs.references.references_fault.Given as goal

abbrev pub invariant-loop-item : goal.invariant-loop-item
invariant-loop-item l = record {
  targets : (target : List ℕ) → (has_text l.targets target ≡ true) ↔ HasTargetIn (take l.item-index l.item-items) target;
  is_first : (t : Tree) → AreGroupsOf t l.of.groups → IsFirstIn (BreaksAt (Wrongly t l.standing) (take l.item-index l.item-items)) l.first;
}
