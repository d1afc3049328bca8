-- Which words have a job.
use Rattle.std.specs.Prelude.{◌≡◌, ◌≢◌, ◌-◌, ℕ, zero, All, Bool, if◌then◌else◌, List, [], ◌∷◌, ◌++◌, codes, length}
use Rattle.odd_text.specs.Same.{is_same}
use Rattle.odd_cli.specs.declared.words.Command.{Command}
use Rattle.odd_cli.specs.declared.words.Command.TheVariants as command
use Rattle.odd_cli.specs.declared.words.Job.{Job}
use Rattle.odd_cli.specs.declared.words.Task.{Task as TheTask}
use Rattle.odd_cli.specs.declared.words.Task.TheVariants as the_task

-- what is done with a chain: its merged ODD is written, or its schema, or the account of the element at an ident
pub data Task : Type 0 where
  merge : Task
  compile : Task
  explain : List ℕ → Task

abbrev pub command_of : Task → Command
command_of merge = command.Merge
command_of compile = command.Compile
command_of (explain ident) = command.Explain

abbrev pub told : TheTask → Task
told the_task.Merge = merge
told the_task.Compile = compile
told (the_task.Explain ident) = explain ident.now

-- any word but `--`
abbrev pub IsFileWord : List ℕ → Type 0
IsFileWord word = word ≢ codes "--"

-- the words after `aside`, or without it
abbrev pub with_aside : Bool → List (List ℕ) → List (List ℕ)
with_aside aside rest = if aside then codes "aside" ∷ rest else rest

abbrev pub command_word : Command → List ℕ
command_word command.Merge = codes "merge"
command_word command.Compile = codes "compile"
command_word command.Explain = codes "explain"

-- what is done, in words: that of the command, and the ident
abbrev pub idents_of : Task → List (List ℕ)
idents_of merge = []
idents_of compile = []
idents_of (explain ident) = ident ∷ []

abbrev pub task_words : Task → List (List ℕ)
task_words task = command_word (command_of task) ∷ idents_of task

-- words begin with what is done, and these are left
pub record IsTaskFirst (words : List (List ℕ)) (asked : Task) (rest : List (List ℕ)) : Type 0 where
  pub words_are : words ≡ task_words asked ++ rest
  pub ident_words : All IsFileWord (idents_of asked)

-- the words ask for what is done with a chain, with `aside` or without: the ident is any word but `--`, and so are one or more files
pub record Asks (words : List (List ℕ)) (asked : Task) (aside : Bool) (chain : List (List ℕ)) : Type 0 where
  pub words_are : words ≡ with_aside aside (task_words asked ++ chain)
  pub some : chain ≢ []
  pub ident_words : All IsFileWord (idents_of asked)
  pub file_words : All IsFileWord chain

pub data WordsMean : List (List ℕ) → Job → Type 0 where
  of_chain : {words : List (List ℕ)} {job : Job} (asked : Task) (aside : Bool) (chain : List (List ℕ)) → Asks words asked aside chain
      → job ≡ record { command = command_of asked; aside = aside; files = length chain; number = 0 } → WordsMean words job

-- how many words come after the command, and for `explain` after the ident, which are the files of a job
abbrev pub files_after : List (List ℕ) → ℕ
files_after [] = zero
files_after (word ∷ rest) = if is_same word (codes "explain") then length rest - 1 else length rest

abbrev pub files_named : List (List ℕ) → ℕ
files_named [] = zero
files_named (word ∷ rest) = if is_same word (codes "aside") then files_after rest else files_after (word ∷ rest)
