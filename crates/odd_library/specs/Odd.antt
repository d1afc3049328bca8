-- The keys of what an ODD file declares, and its places.
use Rattle.std.specs.Prelude.{ℕ, List}
use Rattle.odd_text.specs.declared.key.Key.{Key}
use Rattle.odd_text.specs.declared.key.Kind.TheVariants as kind
use Rattle.odd_library.specs.declared.odd.Entry.TheVariants as entry
use Rattle.odd_library.specs.declared.odd.Entry.{Entry}

-- the byte where its item begins
abbrev pub place_of : Entry → ℕ
place_of (entry.Module at key pick) = at
place_of (entry.Take at key) = at
place_of (entry.Spec at spec) = at

-- the key of the element with this ident
abbrev pub element_key : List ℕ → Key
element_key word = record { kind = kind.Element; ident = word }
