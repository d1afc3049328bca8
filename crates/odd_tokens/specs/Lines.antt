-- What line ends are read as (XML 1.0, section 2.11).
use Rattle.std.specs.Prelude.{ℕ, Bool, false, ◌==◌, if◌then◌else◌, List, [], ◌∷◌, ◌++◌}

abbrev begins_with_line_feed : List ℕ → Bool
begins_with_line_feed [] = false
begins_with_line_feed (c ∷ cs) = c == 0xA

-- section 2.11: CR LF and a lone CR are read as LF
abbrev pub lines_read : List ℕ → List ℕ
lines_read [] = []
lines_read (c ∷ cs) = (if c == 0xD then (if begins_with_line_feed cs then [] else 0xA ∷ []) else c ∷ []) ++ lines_read cs
