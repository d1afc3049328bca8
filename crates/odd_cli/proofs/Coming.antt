-- What the trees of a chain come to.
use Rattle.std.proofs.Common.{◌≡◌, ℕ, Bool, List, Result, Ok, Err, inl, inr, subst, length}
use Rattle.std.proofs.lemmas.Result.{IfErr-weaker, IfOk-weaker}
use Rattle.std.specs.Prelude.{IfErr, IfOk}
use Rattle.odd_chain.specs.Files.{Gives, IsChainRefusal}
use Rattle.odd_chain.specs.Reading.{IsChainOf}
use Rattle.odd_chain.specs.declared.chain.Chain.{Chain}
use Rattle.odd_library.specs.declared.library.Library.{Library}
use Rattle.odd_text.specs.declared.offence.Offence.{Offence}
use Rattle.odd_tree.specs.declared.tree.Tree.{Tree}
use Rattle.odd_cli.specs.Outcome.{answers, gives}
use Rattle.odd_cli.specs.Reply.{HasText, Merges, TreesComeTo}
use Rattle.odd_cli.specs.Running.{IsReplied, Serves, ServesTrees}
use Rattle.odd_cli.specs.Words.{Task}
use Rattle.odd_cli.specs.declared.status.Status.{Status}
use Rattle.odd_cli.specs.declared.status.Status.TheVariants as status

-- an offence
pub refused_come : (asked : Task) (aside : Bool) (trees : List Tree) (offence : Offence) → IsChainRefusal aside trees offence
    → TreesComeTo asked aside trees (answers (status.Refused offence))
refused_come asked aside trees offence r = inl (Merges.refused r)

module _ (asked : Task) (chain : Chain) (library : Library) (given : (aside : Bool) (trees : List Tree) → IsChainOf aside chain trees → Gives aside trees library) where
  -- what is written of the library
  pub library_comes : (files : ℕ) (r : Result (List ℕ) Status) → IfOk r (λ text. HasText asked files library (gives text))
      → IfOk r (λ text. (aside : Bool) (trees : List Tree) → IsChainOf aside chain trees → files ≡ length trees → TreesComeTo asked aside trees (gives text))
  library_comes files r =
      IfOk-weaker r _ _ (λ text has aside trees of many. (library, Merges.merged (given aside trees of), subst (λ n. HasText asked n library (gives text)) many has))

  pub library_serves : (r : Result (List ℕ) Status) → IfOk r (Serves asked library)
      → IfOk r (λ text. (aside : Bool) (trees : List Tree) → IsChainOf aside chain trees → ServesTrees asked aside trees text)
  library_serves r = IfOk-weaker r _ _ (λ text right aside trees of. record { library = library; gives = given aside trees of; serves = right })

  -- which is that of the files
  pub library_whole : (r : Result (List ℕ) Status) → IfOk r (λ text. (aside : Bool) (trees : List Tree) → IsChainOf aside chain trees → (l : Library) × Gives aside trees l)
  library_whole (Ok text) = λ aside trees of. (library, given aside trees of)
  library_whole (Err s) = tt

  -- or why there is nothing
  pub none_comes : (files : ℕ) (r : Result (List ℕ) Status) → IfErr r (λ s. IsReplied s → HasText asked files library (answers s))
      → IfErr r (λ s. (aside : Bool) (trees : List Tree) → IsChainOf aside chain trees → files ≡ length trees → IsReplied s → TreesComeTo asked aside trees (answers s))
  none_comes files r = IfErr-weaker r _ _
      (λ s has aside trees of many replied. inr (library, Merges.merged (given aside trees of), subst (λ n. HasText asked n library (answers s)) many (has replied)))
