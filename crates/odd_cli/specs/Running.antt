-- What a run leaves of the shelf, the output and the note.
use Rattle.std.specs.Prelude.{◌≡◌, ◌↔◌, ◌⊎◌, ◌≤◌, ◌+◌, ◌*◌, ℕ, zero, suc, Bool, List, [], ◌++◌, Option, None, Some, IsTrue, length, min, true, false}
use Rattle.odd_text.specs.Count.{HasRisen, last_count, next_count}
use Rattle.odd_base.specs.Shelf.{FileMap, Held, NotHeld, LeavesSuffix}
use Rattle.odd_library.specs.declared.library.Library.{Library}
use Rattle.compile_core.specs.Account.{IsAccount, IsHeldElement}
use Rattle.odd_tree.specs.declared.tree.Tree.{Tree}
use Rattle.odd_chain.specs.Base.{SpellsBase}
use Rattle.odd_chain.specs.Files.{ChainOffends, Gives, HasAsides}
use Rattle.odd_chain.specs.Order.{Position}
use Rattle.odd_meaning.specs.Admission.{Admits}
use Rattle.rng_grammar.specs.Acceptance.{Accepts}
use Rattle.rng_grammar.specs.Denoting.{DenotesOnly}
use Rattle.rng_grammar.specs.declared.grammar.Grammar.{Grammar}
use Rattle.compile_core.specs.Schema.{IsTooLarge}
use Rattle.compile_defines.specs.Compiled.{HoldsStart, IsGrammarOf}
use Rattle.odd_cli.specs.declared.status.LimitKind.TheVariants as limit
use Rattle.odd_cli.specs.declared.status.Status.{Status}
use Rattle.odd_cli.specs.declared.status.Status.TheVariants as status
use Rattle.odd_cli.specs.Words as task
use Rattle.odd_cli.specs.Words.{Asks, Task}
use Rattle.odd_cli.specs.Note.{IsFrontWritten}
use Rattle.odd_cli.specs.Reply.{GiveTrees, IsReached, chain_files, file_bytes}

-- the answer is none of those that the outside causes
abbrev pub IsReplied : Status → Type 0
IsReplied status.NoMemory = ⊥
IsReplied (status.ReadFault file) = ⊥
IsReplied status.WriteFault = ⊥
IsReplied s = Unit {0}

-- nothing is written with the answer
abbrev pub IsSilent : Status → Type 0
IsSilent status.Done = ⊥
IsSilent status.WriteFault = ⊥
IsSilent s = Unit {0}

-- what reading leaves of a shelf, by its meanings: it holds the same, is as steady as before, and none of its counts falls
abbrev pub GoesOn : {S : Type 0} → (S → Option FileMap) → (S → Bool) → (S → ℕ) → (S → ℕ) → (S → ℕ) → S → S → Type 0
GoesOn holds steady faults begins reads old new =
    (holds new ≡ holds old) × (steady new ≡ steady old) × (faults old ≤ faults new) × (begins old ≤ begins new) × (reads old ≤ reads new)

-- the count after so many more
abbrev pub counted : ℕ → ℕ → ℕ
counted count zero = count
counted count (suc more) = next_count (counted count more)

-- How many files are begun with the answer, of so many in the chain: those up to the one that it names, or all; and none where the words have no job or too many
-- files. Memory may be wanting at any file.
abbrev pub AreBegun : Status → ℕ → ℕ → Type 0
AreBegun status.Usage files begun = begun ≡ 0
AreBegun (status.Limit limit.Files) files begun = begun ≡ 0
AreBegun (status.ReadFault file) files begun = begun ≡ file
AreBegun (status.Limit (limit.Bytes file)) files begun = begun ≡ file
AreBegun (status.NotXml file at) files begun = begun ≡ file
AreBegun (status.Limit (limit.Depth file at)) files begun = begun ≡ file
AreBegun status.NoMemory files begun = begun ≤ files
AreBegun s files begun = begun ≡ files

-- so many, as the count of them says, and for each of them at most one read more than it may have bytes brought bytes
pub record BeginsFiles (s : Status) (files : ℕ) (begins_old begins_new reads_old reads_new : ℕ) : Type 0 where
  pub begun : ℕ
  pub are_begun : AreBegun s files begun
  pub count : begins_new ≡ counted begins_old begun
  pub few_reads : reads_new ≤ reads_old + begun * (file_bytes + 1)

-- between the old shelf and the new one it stood, after each of so many files that were begun, where nothing of that file was unread
abbrev pub AreReadWhole : {S : Type 0} → (S → ℕ) → (S → Option (List ℕ)) → (S → S → Type 0) → ℕ → S → S → Type 0
AreReadWhole {S} begins rest Goes files old new =
    (file : ℕ) → 1 ≤ file → file ≤ files → (state : S) × (begins state ≡ counted (begins old) file) × (rest state ≡ Some []) × Goes old state × Goes state new

-- the file of the number in a chain is reached; what is unread is the end of its bytes; over a steady shelf it is not held
pub record IsFaultPlace (chain : List (List ℕ)) (files : FileMap) (number : ℕ) (rest : Option (List ℕ)) (steady : Bool) : Type 0 where
  pub name : List ℕ
  pub reached : IsReached files chain number name
  pub suffix : (bytes : List ℕ) → Held files name bytes → LeavesSuffix bytes rest
  pub not_held : IsTrue steady → NotHeld files name

-- the file of the number is reached by the words
pub record IsReadPlace (words : List (List ℕ)) (files : FileMap) (number : ℕ) (rest : Option (List ℕ)) (steady : Bool) : Type 0 where
  pub asked : Task
  pub aside : Bool
  pub chain : List (List ℕ)
  pub asks : Asks words asked aside chain
  pub within : length chain ≤ chain_files
  pub place : IsFaultPlace chain files number rest steady

-- the text is on the note, or a front of it where the note's count rose
abbrev pub IsNoted : List ℕ → List ℕ → Option (List ℕ) → ℕ → ℕ → Type 0
IsNoted before text written old new = (written ≡ Some (before ++ text)) ⊎ (IsFrontWritten before text written × HasRisen old new)

-- each start word is a held element, and the schema passes no limit
pub record IsCompiled (aside : Bool) (trees : List Tree) : Type 0 where
  pub holds_start : (library : Library) → Gives aside trees library → HoldsStart library library.start
  pub within : (library : Library) (g : Grammar) → Gives aside trees library → IsGrammarOf library library.start g → IsTooLarge g → ⊥

-- the element that is asked for is held
abbrev pub HoldsAsked : List ℕ → Bool → List Tree → Type 0
HoldsAsked ident aside trees = (library : Library) → Gives aside trees library → IsHeldElement library ident

-- What a command asks of a chain without an offence: `compile` that it has a schema, `explain` that it holds the element, and `merge` nothing.
abbrev pub IsFitFor : Task → Bool → List Tree → Type 0
IsFitFor task.merge aside trees = Unit {0}
IsFitFor task.compile aside trees = IsCompiled aside trees
IsFitFor (task.explain ident) aside trees = HoldsAsked ident aside trees

-- The words have a job of no more files than a chain may have; each file is held, within its limits, and spells a tree; the chain
-- has no offence; and it is what the command asks for.
pub record IsSound (words : List (List ℕ)) (files : FileMap) : Type 0 where
  pub asked : Task
  pub aside : Bool
  pub chain : List (List ℕ)
  pub asks : Asks words asked aside chain
  pub few : length chain ≤ chain_files
  pub trees : List Tree
  pub given : GiveTrees files chain trees
  pub unoffended : (file : ℕ) (at : Position) → ChainOffends aside trees file at → ⊥
  pub fit : IsFitFor asked aside trees

-- the reply is written, or there was no memory
abbrev pub IsComplete : Status → Type 0
IsComplete s = (s ≡ status.Done) ⊎ (s ≡ status.NoMemory)

-- the text denotes one grammar, and it accepts the trees that the library admits
pub record AcceptsAdmitted (library : Library) (text : List ℕ) : Type 0 where
  pub grammar : Grammar
  pub denotes : DenotesOnly text grammar
  pub accepts : (t : Tree) → Accepts grammar t ↔ Admits library library.start t

-- What a command writes of a library does what it is for: a merged ODD stands for its files, a schema accepts what it admits, and an account tells of an element.
abbrev pub Serves : Task → Library → List ℕ → Type 0
Serves task.merge library text = SpellsBase library text
Serves task.compile library text = AcceptsAdmitted library text
Serves (task.explain ident) library text = IsAccount library ident text

-- the same of the library after the trees of a chain
pub record ServesTrees (asked : Task) (aside : Bool) (trees : List Tree) (text : List ℕ) : Type 0 where
  pub library : Library
  pub gives : Gives aside trees library
  pub serves : Serves asked library text

-- and of the chain that the words name
pub record ServesWords (words : List (List ℕ)) (files : FileMap) (text : List ℕ) : Type 0 where
  pub asked : Task
  pub aside : Bool
  pub chain : List (List ℕ)
  pub asks : Asks words asked aside chain
  pub within : length chain ≤ chain_files
  pub trees : List Tree
  pub given : GiveTrees files chain trees
  pub serves : ServesTrees asked aside trees text

-- the text denotes one grammar that accepts what the library after the trees of a chain admits
pub record AcceptsOfTrees (aside : Bool) (trees : List Tree) (text : List ℕ) : Type 0 where
  pub library : Library
  pub gives : Gives aside trees library
  pub right : AcceptsAdmitted library text

-- so does what a command writes, where that is a schema
abbrev pub AcceptsIfSchema : Task → Bool → List Tree → List ℕ → Type 0
AcceptsIfSchema task.merge aside trees text = Unit {0}
AcceptsIfSchema task.compile aside trees text = AcceptsOfTrees aside trees text
AcceptsIfSchema (task.explain ident) aside trees text = Unit {0}

-- and of the chain that the words name
pub record AcceptsOfWords (words : List (List ℕ)) (files : FileMap) (text : List ℕ) : Type 0 where
  pub asked : Task
  pub aside : Bool
  pub chain : List (List ℕ)
  pub asks : Asks words asked aside chain
  pub within : length chain ≤ chain_files
  pub trees : List Tree
  pub given : GiveTrees files chain trees
  pub right : AcceptsIfSchema asked aside trees text

-- how many constraints were taken out of all files, where the words ask for it; past the last number of 64 bits the count stands still
abbrev pub AsidesOfTrees : Bool → List Tree → Option ℕ → Type 0
AsidesOfTrees false trees asides = asides ≡ None
AsidesOfTrees true trees asides = (count : ℕ) × HasAsides true trees count × (asides ≡ Some (min count last_count))

-- the same of the chain that the words name
pub record AsidesOfWords (words : List (List ℕ)) (files : FileMap) (asides : Option ℕ) : Type 0 where
  pub asked : Task
  pub aside : Bool
  pub chain : List (List ℕ)
  pub asks : Asks words asked aside chain
  pub trees : List Tree
  pub given : GiveTrees files chain trees
  pub told : AsidesOfTrees aside trees asides
