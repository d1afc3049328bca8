-- What a shelf means: the files that it holds, and what is unread of the one that was begun.
use Rattle.std.specs.Prelude.{◌≡◌, ◌≤◌, ◌<◌, ℕ, Bool, false, List, [], ◌++◌, Option, Some, None, Result, Ok, Err, length, take, drop, nat_lt}
use Rattle.std.specs.FinMap as map
use Rattle.odd_text.specs.Text.{text_cmp}

-- from names to bytes
abbrev pub FileMap : Type 0
FileMap = map.FinMap text_cmp (List ℕ)

-- the file of the name is held, and has these bytes
abbrev pub Held : FileMap → List ℕ → List ℕ → Type 0
Held files name bytes = map.get files name ≡ Some bytes

-- no file of the name is held
abbrev pub NotHeld : FileMap → List ℕ → Type 0
NotHeld files name = map.get files name ≡ None

-- the file of the name is held, and all of it is unread
abbrev pub Opened : FileMap → List ℕ → Option (List ℕ) → Type 0
Opened files name rest = (bytes : List ℕ) × Held files name bytes × (rest ≡ Some bytes)

-- n bytes moved from the front of the unread bytes to the front of the buffer; none into a buffer with room says that none was left
pub record TakesFront (unread old new : List ℕ) (rest : Option (List ℕ)) (n : ℕ) : Type 0 where
  pub within : n ≤ length unread
  pub buffer : new ≡ take n unread ++ drop n old
  pub left : rest ≡ Some (drop n unread)
  pub ends : n ≡ 0 → 0 < length old → unread ≡ []

-- what is unread is the end of these bytes
abbrev pub LeavesSuffix : List ℕ → Option (List ℕ) → Type 0
LeavesSuffix bytes rest = (front : List ℕ) × (left : List ℕ) × (rest ≡ Some left) × (bytes ≡ front ++ left)

-- the file of the name is held, and has more bytes than the limit
abbrev pub IsTooLong : FileMap → List ℕ → ℕ → Type 0
IsTooLong files name limit = (bytes : List ℕ) × Held files name bytes × (limit < length bytes)

-- whether a read brought bytes
abbrev pub brings : {E : Type 0} → Result ℕ E → Bool
brings (Ok n) = nat_lt 0 n
brings (Err e) = false
