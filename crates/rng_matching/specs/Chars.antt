-- The alphabet of the characters, where a leaf is the number of an atom.
use Rattle.std.specs.Prelude.{ℕ, Bool, false, true, ◌==◌, ◌&&◌, not, nat_le, List, Option, Some, None, slice_get}
use Rattle.std.specs.List.{list_any}
use Rattle.rng_dialect.specs.declared.regex.Atom.{Atom, Char, Any, Class}
use Rattle.rng_dialect.specs.declared.regex.Member.{Member}
use Rattle.rng_dialect.specs.declared.regex.Member.TheVariants as member
use Rattle.rng_matching.specs.declared.spans.Span.{Span}

-- whether a member takes a character
abbrev pub is_of_member : ℕ → Member → Bool
is_of_member c (member.Char d) = c == d
is_of_member c (member.Range low high) = nat_le low c && nat_le c high

-- whether one of the members does
abbrev pub is_of_members : List Member → ℕ → Bool
is_of_members members c = list_any (is_of_member c) members

-- whether a span has a character
abbrev pub is_of_span : ℕ → Span → Bool
is_of_span c span = nat_le span.low c && nat_le c span.top

-- whether one of the spans does
abbrev pub is_of_spans : List Span → ℕ → Bool
is_of_spans spans c = list_any (is_of_span c) spans

-- whether a class does: by one of its members, or by none of them
abbrev pub is_of_class : Bool → List Member → ℕ → Bool
is_of_class false members c = is_of_members members c
is_of_class true members c = not (is_of_members members c)

-- which characters an atom takes. One in parentheses takes none by itself
abbrev pub takes_char : Atom → ℕ → Bool
takes_char (Char d) c = c == d
takes_char Any c = not (c == 0xA) && not (c == 0xD)
takes_char (Class negated members) c = is_of_class negated members c
takes_char atom c = false

abbrev pub leaf_takes : Option Atom → ℕ → Bool
leaf_takes None c = false
leaf_takes (Some atom) c = takes_char atom c

-- a leaf takes what the atom of its number takes, and nothing where there is none
abbrev pub admits : List Atom → (leaf symbol : ℕ) → Bool
admits classes leaf symbol = leaf_takes (slice_get classes leaf) symbol
