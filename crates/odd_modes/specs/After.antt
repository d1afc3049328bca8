-- The library after the files of a chain.
use Rattle.std.specs.Prelude.{◌≡◌, ℕ, List, [], ◌∷◌, reverse, Option, Some, None, if◌then◌else◌, codes, IsTrue}
use Rattle.std.specs.FinMap.{find, is_sorted}
use Rattle.std.specs.Option.{option_or}
use Rattle.std.specs.Ordering.{eq_by_cmp}
use Rattle.odd_text.specs.Key.{key_cmp}
use Rattle.odd_text.specs.declared.key.Key.{Key}
use Rattle.odd_library.specs.Over.{declared}
use Rattle.odd_library.specs.declared.library.Component.{Component}
use Rattle.odd_library.specs.declared.library.Library.{Library}
use Rattle.odd_library.specs.declared.odd.Entry.{Entry}
use Rattle.odd_library.specs.declared.odd.Entry.TheVariants as entry
use Rattle.odd_library.specs.declared.odd.OddDoc.{OddDoc}
use Rattle.odd_library.specs.declared.spec.Spec.{Spec}
use Rattle.odd_modes.specs.Choosing.{is_referred}

-- the spec of an item, where it is one for the key
abbrev pub spec_in : Entry → Key → Option Spec
spec_in (entry.Module at name p) key = None
spec_in (entry.Take at taken) key = None
spec_in (entry.Spec at spec) key = if eq_by_cmp key_cmp key spec.key then Some spec else None

-- a file's spec for the key: a file has one at most, and of several it were the last
abbrev pub spec_at : List Entry → Key → Option Spec
spec_at [] key = None
spec_at (e ∷ rest) key = option_or (spec_at rest key) (spec_in e key)

-- what is held where the file has no spec: a component that it chooses
abbrev pub kept : List Entry → Key → Option Component → Option Component
kept entries key None = None
kept entries key (Some part) = if is_referred entries key part then Some part else None

-- what is held where a file has this spec for the key, over what was held
abbrev pub held_by : Option Spec → List Entry → Key → Option Component → Option Component
held_by (Some spec) entries key held = declared spec.mode spec held
held_by None entries key held = kept entries key held

-- what the library after a file holds at the key, over what the library before it holds there
abbrev pub after_one : OddDoc → Key → Option Component → Option Component
after_one doc key held = held_by (spec_at doc.entries key) doc.entries key held

-- what the library after files holds at the key; the last of them stands first
abbrev pub held_after : List OddDoc → Key → Option Component
held_after [] key = None
held_after (last ∷ earlier) key = after_one last key (held_after earlier key)

-- the ident and the start words are the last file's
abbrev pub ident_after : List OddDoc → List ℕ
ident_after [] = codes "bare"
ident_after (last ∷ earlier) = last.ident

abbrev pub start_after : List OddDoc → List (List ℕ)
start_after [] = codes "TEI" ∷ []
start_after (last ∷ earlier) = last.start

-- the library after files, which stand in their order
pub record IsLibraryAfter (docs : List OddDoc) (library : Library) : Type 0 where
  pub ident : library.ident ≡ ident_after (reverse docs)
  pub start : library.start ≡ start_after (reverse docs)
  pub rising : IsTrue (is_sorted key_cmp library.parts)
  pub holds : (key : Key) → find key_cmp key library.parts ≡ held_after (reverse docs) key
