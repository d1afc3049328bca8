-- The offences of a chain's docs: of the items of a doc against the library after the docs before it, and of the library after a doc.
use Rattle.std.specs.Prelude.{◌≡◌, ℕ, suc, List, [], ◌∷◌, ◌++◌, length}
use Rattle.odd_text.specs.declared.key.Key.{Key}
use Rattle.odd_library.specs.declared.library.Library.{Library}
use Rattle.odd_library.specs.declared.odd.OddDoc.{OddDoc}
use Rattle.odd_meaning.specs.Rules.{Breaks}
use Rattle.odd_modes.specs.After.{IsLibraryAfter}
use Rattle.odd_modes.specs.Offences.{Offends}
use Rattle.odd_chain.specs.Order.{Position, held, item}

-- the number of a doc is its place, counted from 1
pub data OffendsIn (docs : List OddDoc) : ℕ → Position → Type 0 where
  of_item : {place rule : ℕ} (earlier : List OddDoc) (doc : OddDoc) (later : List OddDoc) (library : Library) → docs ≡ earlier ++ doc ∷ later
      → IsLibraryAfter earlier library → Offends library doc place rule → OffendsIn docs (suc (length earlier)) (item place rule)
  of_library : {key : Key} {rule : ℕ} (earlier : List OddDoc) (doc : OddDoc) (later : List OddDoc) (library : Library) → docs ≡ earlier ++ doc ∷ later
      → IsLibraryAfter (earlier ++ doc ∷ []) library → Breaks library key rule → OffendsIn docs (suc (length earlier)) (held key rule)
