-- What the program answers to words and files: the bytes of the reply and the status. Its steps go one after another, each over the whole chain, and the first
-- that answers ends them.
use Rattle.std.specs.Prelude.{◌≡◌, ◌≤◌, ◌<◌, ℕ, suc, Bool, List, [], ◌∷◌, ◌++◌, length}
use Rattle.odd_base.specs.Shelf.{FileMap, Held, IsTooLong, NotHeld}
use Rattle.odd_text.specs.declared.offence.Offence.{Offence}
use Rattle.odd_text.specs.declared.offence.Who.TheVariants as who
use Rattle.odd_tree.specs.declared.tree.Tree.{Tree}
use Rattle.odd_tree.specs.Spelled.{DepthPlace, GivesTree, IsNotXml}
use Rattle.odd_library.specs.declared.library.Library.{Library}
use Rattle.odd_chain.specs.Files.{Gives, IsChainRefusal}
use Rattle.rng_grammar.specs.declared.grammar.Grammar.{Grammar}
use Rattle.compile_defines.specs.Compiled.{HoldsStart}
use Rattle.compile_core.specs.Schema.{HasLargeSchema, IsLeastMissing, IsSchema}
use Rattle.compile_core.specs.SchemaText.{IsSchemaText}
use Rattle.odd_emit.specs.Components.{merged_odd}
use Rattle.compile_core.specs.Account.{IsAccount, IsHeldElement}
use Rattle.odd_cli.specs.declared.status.Status.{Status}
use Rattle.odd_cli.specs.declared.status.Status.TheVariants as status
use Rattle.odd_cli.specs.declared.status.LimitKind.TheVariants as limit
use Rattle.odd_cli.specs.declared.words.Job.{Job}
use Rattle.odd_cli.specs.Outcome.{Outcome, Then, answers, gives}
use Rattle.odd_cli.specs.Words as task
use Rattle.odd_cli.specs.Words.{Asks, WordsMean, Task}

-- how many files a chain may have, and how many bytes a file
abbrev pub chain_files : ℕ
chain_files = 16

abbrev pub file_bytes : ℕ
file_bytes = 16777216

-- what is done, whether constraints are taken out, and the files of a chain
abbrev pub AskedFiles : Type 0
AskedFiles = Task × Bool × List (List ℕ)

-- the words, and what they ask for
pub data NamesFiles (words : List (List ℕ)) : Outcome AskedFiles → Type 0 where
  no_job : ((job : Job) → WordsMean words job → ⊥) → NamesFiles words (answers status.Usage)
  too_many : (asked : Task) (aside : Bool) (chain : List (List ℕ)) → Asks words asked aside chain → chain_files < length chain
      → NamesFiles words (answers (status.Limit limit.Files))
  named : {asked : Task} {aside : Bool} {chain : List (List ℕ)} → Asks words asked aside chain → length chain ≤ chain_files → NamesFiles words (gives (asked, aside, chain))

-- the file of the name is held with these bytes, which are within the limit
pub record IsRead (files : FileMap) (name bytes : List ℕ) : Type 0 where
  pub held : Held files name bytes
  pub within : length bytes ≤ file_bytes

-- the file spells the tree
pub record FileGives (files : FileMap) (name : List ℕ) (tree : Tree) : Type 0 where
  pub bytes : List ℕ
  pub is_read : IsRead files name bytes
  pub given : GivesTree bytes tree

-- why a file gives no tree, which has this number in its chain
pub data FileStops (files : FileMap) (name : List ℕ) (number : ℕ) : Status → Type 0 where
  not_held : NotHeld files name → FileStops files name number (status.ReadFault number)
  too_long : IsTooLong files name file_bytes → FileStops files name number (status.Limit (limit.Bytes number))
  not_xml : {place : ℕ} (bytes : List ℕ) → IsRead files name bytes → IsNotXml bytes place → FileStops files name number (status.NotXml number place)
  too_deep : {place : ℕ} (bytes : List ℕ) → IsRead files name bytes → DepthPlace bytes place → FileStops files name number (status.Limit (limit.Depth number place))

-- each file spells its tree
pub data GiveTrees (files : FileMap) : List (List ℕ) → List Tree → Type 0 where
  none : GiveTrees files [] []
  more : {name : List ℕ} {names : List (List ℕ)} {tree : Tree} {trees : List Tree} → FileGives files name tree → GiveTrees files names trees
      → GiveTrees files (name ∷ names) (tree ∷ trees)

-- the file of the number, counted from 1, is reached: each file before it spells a tree
pub record IsReached (files : FileMap) (chain : List (List ℕ)) (number : ℕ) (name : List ℕ) : Type 0 where
  pub earlier : List (List ℕ)
  pub later : List (List ℕ)
  pub parts : chain ≡ earlier ++ name ∷ later
  pub numbered : number ≡ suc (length earlier)
  pub trees : List Tree
  pub given : GiveTrees files earlier trees

-- the files of a chain, and their trees
pub data ReadsChain (files : FileMap) (chain : List (List ℕ)) : Outcome (List Tree) → Type 0 where
  stops : {s : Status} (number : ℕ) (name : List ℕ) → IsReached files chain number name → FileStops files name number s → ReadsChain files chain (answers s)
  all_spelled : {trees : List Tree} → GiveTrees files chain trees → ReadsChain files chain (gives trees)

abbrev pub start_offence : ℕ → List ℕ → Offence
start_offence files word = record { file = files; who = who.Start word; rule = 20 }

-- trees, and the library after them
pub data Merges (aside : Bool) (trees : List Tree) : Outcome Library → Type 0 where
  refused : {offence : Offence} → IsChainRefusal aside trees offence → Merges aside trees (answers (status.Refused offence))
  merged : {library : Library} → Gives aside trees library → Merges aside trees (gives library)

-- a library after so many files, which holds its start words
pub data HasStart (files : ℕ) (library : Library) : Outcome Library → Type 0 where
  start_missing : (word : List ℕ) → IsLeastMissing library library.start word → HasStart files library (answers (status.Refused (start_offence files word)))
  start_held : HoldsStart library library.start → HasStart files library (gives library)

-- a library, and the text of its schema
pub data HasSchema (library : Library) : Outcome (List ℕ) → Type 0 where
  too_large : HasLargeSchema library library.start → HasSchema library (answers (status.Limit limit.Nodes))
  schema : {text : List ℕ} (grammar : Grammar) → IsSchema library library.start grammar → IsSchemaText library library.start text → HasSchema library (gives text)

-- a library, and the merged ODD that stands for its files
pub data HasMergedOdd (library : Library) : Outcome (List ℕ) → Type 0 where
  printed : HasMergedOdd library (gives (merged_odd library))

abbrev pub asked_offence : ℕ → List ℕ → Offence
asked_offence files ident = record { file = files; who = who.Asked ident; rule = 21 }

-- a library after so many files, and the account of the element at an ident, where it holds one
pub data HasAccount (ident : List ℕ) (files : ℕ) (library : Library) : Outcome (List ℕ) → Type 0 where
  asked_missing : (IsHeldElement library ident → ⊥) → HasAccount ident files library (answers (status.Refused (asked_offence files ident)))
  account : {text : List ℕ} → IsAccount library ident text → HasAccount ident files library (gives text)

-- a library after so many files, and what a command writes of it
abbrev pub HasText : Task → ℕ → Library → Outcome (List ℕ) → Type 0
HasText task.merge files = HasMergedOdd
HasText task.compile files = Then (HasStart files) HasSchema
HasText (task.explain ident) files = HasAccount ident files

-- trees, and what a command writes of the library after them
abbrev pub TreesComeTo : Task → Bool → List Tree → Outcome (List ℕ) → Type 0
TreesComeTo asked aside trees = Then (Merges aside) (HasText asked (length trees)) trees

-- files, and what is written of the library after them
abbrev pub ChainComesTo : FileMap → AskedFiles → Outcome (List ℕ) → Type 0
ChainComesTo files asked = Then (ReadsChain files) (TreesComeTo asked.0 asked.1) asked.2

-- words, and what is written of the library after the files that they name
abbrev pub WordsComeTo : FileMap → List (List ℕ) → Outcome (List ℕ) → Type 0
WordsComeTo files = Then NamesFiles (ChainComesTo files)

pub data Reply (words : List (List ℕ)) (files : FileMap) : List ℕ → Status → Type 0 where
  answered : {s : Status} → WordsComeTo files words (answers s) → Reply words files [] s
  done : {text : List ℕ} → WordsComeTo files words (gives text) → Reply words files text status.Done
