-- Files in memory.
use Rattle.std.specs.Prelude.{ℕ, Bool, true, false, List, [], ◌∷◌, Option, Some, None, drop, map, slice_get, IsTrue, ◌==◌}
use Rattle.std.specs.Option.{option_map}
use Rattle.std.specs.List.{list_any}
use Rattle.std.specs.FinMap as finite
use Rattle.odd_base.specs.Shelf.{FileMap}
use Rattle.odd_base.specs.declared.mem_shelf.File.{File}
use Rattle.odd_base.specs.declared.mem_shelf.Place.{Place}

abbrev pub is_empty : {A : Type 0} → List A → Bool
is_empty [] = true
is_empty (x ∷ xs) = false

-- a call of this number is one of those that are to fail
abbrev pub IsToFail : List ℕ → ℕ → Type 0
IsToFail fail number = IsTrue (list_any (λ n. n == number) fail)

-- each file's name and bytes
abbrev pub pairs_of : List File → List (List ℕ × List ℕ)
pairs_of files = map (λ f. (f.name, f.bytes)) files

-- of two files of one name the first counts
abbrev pub files_of : List File → FileMap
files_of files = finite.from_entries (pairs_of files)

-- the bytes of the file of a number
abbrev pub bytes_at : List File → Option ℕ → Option (List ℕ)
bytes_at files None = None
bytes_at files (Some number) = option_map (λ f. f.bytes) (slice_get files number)

abbrev bytes_after : Option File → ℕ → List ℕ
bytes_after None at = []
bytes_after (Some file) at = drop at file.bytes

-- what is unread of the file that was begun
abbrev pub rest_of : List File → Option Place → List ℕ
rest_of files None = []
rest_of files (Some place) = bytes_after (slice_get files place.number) place.at
