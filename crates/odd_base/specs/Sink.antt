-- What a sink means: the bytes that are written.
use Rattle.std.specs.Prelude.{◌≡◌, ◌<◌, ℕ, List, ◌++◌, Option, Some, take, length}

-- after the bytes before, a front of these bytes was written, and not the whole
abbrev pub IsPartWritten : List ℕ → List ℕ → Option (List ℕ) → Type 0
IsPartWritten before bytes written = (n : ℕ) × (n < length bytes) × (written ≡ Some (before ++ take n bytes))
