-- The law of the base: what `merge` writes of the first files of a chain, put in their place, leaves every later answer as it was, but for the numbers of files.
use Rattle.std.specs.FinMap as map
use Rattle.std.specs.Prelude.{◌≡◌, ◌≤◌, ◌-◌, ℕ, Bool, true, List, ◌∷◌, ◌++◌, length}
use Rattle.odd_base.specs.Shelf.{FileMap, Held}
use Rattle.odd_text.specs.Standing.{StandsIn}
use Rattle.odd_chain.specs.Base.{moved}
use Rattle.odd_cli.specs.Reply.{Reply, chain_files, file_bytes}
use Rattle.odd_cli.specs.Words.{Asks, Task}
use Rattle.odd_cli.specs.declared.status.LimitKind.TheVariants as limit
use Rattle.odd_cli.specs.declared.status.Status.{Status}
use Rattle.odd_cli.specs.declared.status.Status.TheVariants as status

-- the number of the file that a status names, where it names one, is less by so much
abbrev pub moved_status : ℕ → Status → Status
moved_status by (status.Refused offence) = status.Refused (moved by offence)
moved_status by (status.NotXml file at) = status.NotXml (file - by) at
moved_status by (status.ReadFault file) = status.ReadFault (file - by)
moved_status by (status.Limit (limit.Bytes file)) = status.Limit (limit.Bytes (file - by))
moved_status by (status.Limit (limit.Depth file at)) = status.Limit (limit.Depth (file - by) at)
moved_status by s = s

-- other files have the text under the name, and each of the later files as it was
pub record IsPut (files others : FileMap) (name text : List ℕ) (later : List (List ℕ)) : Type 0 where
  pub held : Held others name text
  pub within : length text ≤ file_bytes
  pub same : (other : List ℕ) → StandsIn later other → map.get others other ≡ map.get files other

-- The text stands for the first files of any chain that goes on behind them, within the number of files that a chain may have, and with `aside` where that was asked.
pub record IsBase (files : FileMap) (aside : Bool) (first : List (List ℕ)) (text : List ℕ) : Type 0 where
  pub same : (others : FileMap) (name : List ℕ) (later words base : List (List ℕ)) (asked : Task) (asked_aside : Bool) (reply : List ℕ) (s : Status) → IsPut files others name text later
      → (aside ≡ true → asked_aside ≡ true) → Asks words asked asked_aside (first ++ later) → Asks base asked asked_aside (name ∷ later) → length (first ++ later) ≤ chain_files
      → Reply words files reply s → Reply base others reply (moved_status (length first - 1) s)
