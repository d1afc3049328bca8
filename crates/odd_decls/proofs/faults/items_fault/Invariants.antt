use Rattle.std.proofs.Common.{List, take}
use Rattle.odd_items.specs.Groups.{IsItemIn}
use Rattle.odd_items.specs.Listing.{AreItems}
use Rattle.odd_items.specs.Search.{Found}
use Rattle.odd_tree.specs.declared.tree.Tree.{Tree}
use Rattle.odd_decls.proofs.FirstFault.{BreaksAt}
use Rattle.odd_decls.proofs.ItemsFirst.{Breaks}
use Rattle.odd_decls.specs.Faults.{IsFirstIn}
use Rattle.odd_decls.proofs.faults.items_fault.Given as goal

abbrev pub invariant-loop-place : goal.invariant-loop-place
invariant-loop-place l = (t : Tree) (schemas : List Found) → AreItems l.of.levels.items l.of.items.items (IsItemIn t schemas)
    → IsFirstIn (BreaksAt (Breaks t schemas l.of.levels.items l.of.items.items l.repeat) (take l.place l.item-items)) l.first
