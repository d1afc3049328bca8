-- The law of order: where no item and no component of a chain offends, files that say the same in another order have the same reply.
use Rattle.std.specs.Prelude.{◌≡◌, ◌↔◌, Bool, List, [], ◌∷◌, ℕ}
use Rattle.odd_base.specs.Shelf.{FileMap}
use Rattle.odd_chain.specs.Files.{ChainOffends}
use Rattle.odd_chain.specs.Order.{Position}
use Rattle.odd_tree.specs.declared.tree.Tree.{Tree}
use Rattle.order_laws.specs.Reordered.{IsReordered}
use Rattle.odd_cli.specs.Reply.{FileGives, GiveTrees, Reply}
use Rattle.odd_cli.specs.Words.{Asks, Task}
use Rattle.odd_cli.specs.declared.status.Status.{Status}

-- files, and others that say the same in another order, one after the other, each under its name
pub data SayTheSame (files others : FileMap) : List (List ℕ) → List (List ℕ) → Type 0 where
  none : SayTheSame files others [] []
  more : {name other : List ℕ} {names others_names : List (List ℕ)} {t u : Tree} → FileGives files name t → FileGives others other u → IsReordered t u
      → SayTheSame files others names others_names → SayTheSame files others (name ∷ names) (other ∷ others_names)

-- the files of a chain have no offence of form, of an item or of a component
abbrev pub IsUnoffended : Bool → FileMap → List (List ℕ) → Type 0
IsUnoffended aside files chain = (trees : List Tree) (file : ℕ) (at : Position) → GiveTrees files chain trees → ChainOffends aside trees file at → ⊥

-- where the same is asked of files that say the same in another order as those of a chain without an offence, the text and the status are the reply, and nothing else is
pub record IsInAnyOrder (files : FileMap) (words : List (List ℕ)) (text : List ℕ) (s : Status) : Type 0 where
  pub same : (others : FileMap) (asked : Task) (aside : Bool) (chain names there : List (List ℕ)) → Asks words asked aside chain → Asks there asked aside names
      → SayTheSame files others chain names → IsUnoffended aside files chain → (reply : List ℕ) (answer : Status) → Reply there others reply answer ↔ ((reply ≡ text) × (answer ≡ s))
