-- What the command line gives the program.
use Rattle.std.specs.Prelude.{ℕ, List, drop}
use Rattle.std.specs.declared.io.ErrorKind.{ErrorKind}
use Rattle.std.specs.declared.io.ErrorKind.TheVariants as kind
use Rattle.odd_cli.specs.declared.status.Status.{Status}
use Rattle.odd_cli.specs.declared.status.Status.TheVariants as status

-- the words that are handed on: all after the program's name
abbrev pub after_name : List (List ℕ) → List (List ℕ)
after_name = drop 1

-- what the program ends with where it has no words: there was no memory for them, or one is no text
abbrev pub ending_without_words : ErrorKind → Status
ending_without_words kind.OutOfMemory = status.NoMemory
ending_without_words _ = status.Usage
