-- The line of a status on the note.
use Rattle.std.specs.Prelude.{◌≡◌, ◌≤◌, ℕ, Bool, true, false, List, [], ◌++◌, Option, None, Some, length, take, codes, decimal}
use Rattle.odd_text.specs.Count.{HasRisen}
use Rattle.odd_text.specs.declared.key.Kind.{Kind}
use Rattle.odd_text.specs.declared.key.Kind.TheVariants as kind
use Rattle.odd_text.specs.declared.offence.Who.{Who}
use Rattle.odd_text.specs.declared.offence.Who.TheVariants as who
use Rattle.odd_cli.specs.declared.status.Status.{Status}
use Rattle.odd_cli.specs.declared.status.Status.TheVariants as status
use Rattle.odd_cli.specs.declared.status.LimitKind.{LimitKind}
use Rattle.odd_cli.specs.declared.status.LimitKind.TheVariants as limit

abbrev pub kind_word : Kind → List ℕ
kind_word kind.Element = codes "element"
kind_word kind.Class = codes "class"
kind_word kind.Macro = codes "macro"
kind_word kind.Datatype = codes "datatype"

-- a byte of a file
abbrev pub place_text : ℕ → ℕ → List ℕ
place_text file at = codes "file " ++ decimal file ++ codes ": byte " ++ decimal at

-- whom an offence in the file is of
abbrev pub who_text : ℕ → Who → List ℕ
who_text file (who.At at) = place_text file at
who_text file (who.Part key) = codes "file " ++ decimal file ++ codes ": " ++ kind_word key.kind ++ codes " " ++ key.ident
who_text file (who.Start word) = codes "start " ++ word
who_text file (who.Asked ident) = codes "explain " ++ ident

abbrev pub limit_text : LimitKind → List ℕ
limit_text (limit.Bytes file) = codes "odd: limit bytes file " ++ decimal file ++ codes "\n"
limit_text (limit.Depth file at) = codes "odd: limit depth file " ++ decimal file ++ codes " byte " ++ decimal at ++ codes "\n"
limit_text limit.Files = codes "odd: limit files\n"
limit_text limit.Nodes = codes "odd: limit nodes\n"

-- how many constraints were taken out, where the words ask for it
abbrev pub asides_text : Option ℕ → List ℕ
asides_text None = []
asides_text (Some count) = codes "odd: set aside " ++ decimal count ++ codes "\n"

-- Done has no line of its own
abbrev pub note_text : Status → Option ℕ → List ℕ
note_text status.Done asides = asides_text asides
note_text (status.Refused offence) asides = codes "odd: " ++ who_text offence.file offence.who ++ codes ": rule " ++ decimal offence.rule ++ codes "\n"
note_text (status.NotXml file at) asides = codes "odd: " ++ place_text file at ++ codes ": not XML\n"
note_text status.Usage asides = codes "odd: usage\n"
note_text (status.Limit kind) asides = limit_text kind
note_text (status.ReadFault file) asides = codes "odd: read fault file " ++ decimal file ++ codes "\n"
note_text status.WriteFault asides = codes "odd: write fault\n"
note_text status.NoMemory asides = codes "odd: no memory\n"

-- the exit codes
abbrev pub code_of : Status → ℕ
code_of status.Done = 0
code_of (status.Refused offence) = 2
code_of (status.NotXml file at) = 3
code_of status.Usage = 4
code_of (status.Limit kind) = 5
code_of (status.ReadFault file) = 6
code_of status.WriteFault = 7
code_of status.NoMemory = 8

-- a front of the text, and perhaps all of it, was written after the bytes before
abbrev pub IsFrontWritten : List ℕ → List ℕ → Option (List ℕ) → Type 0
IsFrontWritten before text written = (n : ℕ) × (n ≤ length text) × (written ≡ Some (before ++ take n text))

-- the text is written whole, or a front of it where the count of faults rose
pub record Says {S : Type 0} (written : S → Option (List ℕ)) (faults : S → ℕ) (old new : S) (text : List ℕ) (ok : Bool) : Type 0 where
  pub whole : (before : List ℕ) → written old ≡ Some before → ok ≡ true → written new ≡ Some (before ++ text)
  pub part : (before : List ℕ) → written old ≡ Some before → ok ≡ false → IsFrontWritten before text (written new)
  pub rose : ok ≡ false → HasRisen (faults old) (faults new)
  pub never_falls : faults old ≤ faults new
