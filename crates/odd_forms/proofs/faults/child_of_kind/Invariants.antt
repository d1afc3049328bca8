use Rattle.std.proofs.Common.{◌≡◌, Option}
use Rattle.odd_tree.specs.Elements.{children_of}
use Rattle.odd_tree.specs.declared.tree.Tree.{Tree}
use Rattle.odd_forms.specs.Children.{GivesOne}
use Rattle.odd_forms.proofs.faults.child_of_kind.Given as goal

abbrev pub invariant-loop-child : goal.invariant-loop-child
invariant-loop-child l =
    (given : Option Tree) → GivesOne l.parent l.kind (λ child given. given ≡ child) l.child-iterator given → GivesOne l.parent l.kind (λ child given. given ≡ child) (children_of l.tree) given
