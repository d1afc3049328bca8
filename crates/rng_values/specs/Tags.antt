-- The parts of a language (XML Schema, Part 2, section 3.3.3), tested.
use Rattle.std.specs.Prelude.{◌&&◌, ℕ, Bool, List, length, nat_le}
use Rattle.std.specs.List.{list_all}

-- 1 to 8 of such characters
abbrev pub is_tag : (ℕ → Bool) → List ℕ → Bool
is_tag is cs = nat_le 1 (length cs) && nat_le (length cs) 8 && list_all is cs
