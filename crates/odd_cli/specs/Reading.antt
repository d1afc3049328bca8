-- What the private functions of a run give: trees and chains that are read, and why there is none.
use Rattle.std.specs.Prelude.{◌≡◌, ◌≤◌, ◌+◌, ◌*◌, ℕ, Bool, List, Option, Some, length}
use Rattle.odd_base.specs.Shelf.{FileMap, Held}
use Rattle.odd_tree.specs.Formed.{IsFormed}
use Rattle.odd_tree.specs.Spelled.{GivesTree}
use Rattle.odd_tree.specs.declared.tree.Tree.{Tree}
use Rattle.odd_chain.specs.Reading.{IsChainOf, IsFormedChain}
use Rattle.odd_chain.specs.declared.chain.Chain.{Chain}
use Rattle.odd_cli.specs.declared.status.LimitKind.TheVariants as limit
use Rattle.odd_cli.specs.declared.status.Status.{Status}
use Rattle.odd_cli.specs.declared.status.Status.TheVariants as status
use Rattle.odd_cli.specs.Reply.{GiveTrees, file_bytes}
use Rattle.odd_cli.specs.Running.{counted}

-- The tree is that of bytes within the limit, which the file of the name has where the shelf tells what it holds.
pub record IsTreeRead (holds : Option FileMap) (name : List ℕ) (tree : Tree) : Type 0 where
  pub bytes : List ℕ
  pub within : length bytes ≤ file_bytes
  pub given : GivesTree bytes tree
  pub formed : IsFormed 0 (length bytes) tree
  pub held : (files : FileMap) → holds ≡ Some files → Held files name bytes

-- The chain is that of trees, one for each name, and of the files of these names where the shelf tells what it holds.
pub record IsChainRead (aside : Bool) (holds : Option FileMap) (names : List (List ℕ)) (chain : Chain) : Type 0 where
  pub trees : List Tree
  pub is_chain : IsChainOf aside chain trees
  pub many : length trees ≡ length names
  pub formed : IsFormedChain chain
  pub given : (files : FileMap) → holds ≡ Some files → GiveTrees files names trees

-- a file of this number gave no tree
abbrev pub IsOfFile : ℕ → Status → Type 0
IsOfFile number (status.ReadFault file) = file ≡ number
IsOfFile number (status.NotXml file at) = file ≡ number
IsOfFile number (status.Limit (limit.Bytes file)) = file ≡ number
IsOfFile number (status.Limit (limit.Depth file at)) = file ≡ number
IsOfFile number status.NoMemory = Unit {0}
IsOfFile number s = ⊥

-- and it is one of so many, and the last that was begun: so the counts of what is begun and read say
abbrev pub StopsAt : ℕ → Status → (begins_old begins_new reads_old reads_new : ℕ) → Type 0
StopsAt files s begins_old begins_new reads_old reads_new =
    (file : ℕ) × (file ≤ files) × IsOfFile file s × (begins_new ≡ counted begins_old file) × (reads_new ≤ reads_old + file * (file_bytes + 1))

-- all files gave trees, and these have no schema
abbrev pub IsOfTrees : Status → Type 0
IsOfTrees (status.Refused offence) = Unit {0}
IsOfTrees (status.Limit limit.Nodes) = Unit {0}
IsOfTrees status.NoMemory = Unit {0}
IsOfTrees s = ⊥
