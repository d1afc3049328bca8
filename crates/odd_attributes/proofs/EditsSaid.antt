-- The edits of an `attList` are what the last `attDef` of each ident says.
use Rattle.std.proofs.Common.{ℕ, List, sym, ap, subst}
use Rattle.odd_tree.specs.declared.tree.Tree.{Tree}
use Rattle.odd_content.proofs.SaidEach.{says_each}
use Rattle.odd_content.specs.Said.{SaysEach}
use Rattle.odd_attributes.specs.Giving.{AreEditsOf, SaysEachEdit, edit_of, edits_of, ident_said, with_definition, with_ident}
use Rattle.odd_attributes.specs.declared.att_edit.AttEdit.{AttEdit}

all_said : (defs : List Tree) → SaysEach ident_said edit_of defs (edits_of defs)
all_said defs = says_each ident_said edit_of with_definition (λ m def e. ap (λ o. with_ident o (edit_of def) m) e) (λ m def ident e. ap (λ o. with_ident o (edit_of def) m) e) defs

pub edits_said : (list : Tree) (edits : List (List ℕ × AttEdit)) → AreEditsOf list edits → SaysEachEdit list edits
edits_said list edits h = record { defs = h.defs; listed = h.listed; says = subst (SaysEach ident_said edit_of h.defs) (sym h.are) (all_said h.defs) }
