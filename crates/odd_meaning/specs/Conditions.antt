-- The condition of `anyElement`, which is asked of the element and of every element below it.
use Rattle.std.specs.Prelude.{◌≡◌, ◌⊎◌, []}
use Rattle.odd_text.specs.declared.name.Name.{Name}
use Rattle.odd_text.specs.Standing.{StandsIn}
use Rattle.odd_tree.specs.Elements.{StandsWithin}
use Rattle.odd_tree.specs.declared.tree.Tree.{Tree, out-Tree}
use Rattle.odd_content.specs.declared.content.Condition.{Condition}

-- a name that is in one of the required namespaces, where there is one, and is not excepted
pub record IsMetBy (c : Condition) (name : Name) : Type 0 where
  pub required : (c.require ≡ []) ⊎ StandsIn c.require name.ns
  pub space : StandsIn c.spaces name.ns → ⊥
  pub named : StandsIn c.names name → ⊥

abbrev pub IsMetThroughout : Condition → Tree → Type 0
IsMetThroughout c t = (u : Tree) → StandsWithin t u → IsMetBy c (out-Tree u).name
