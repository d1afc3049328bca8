-- The components of a formed library, in the order of their keys: each is formed, and the keys rise.
use Rattle.std.proofs.Common.{List, [], ◌∷◌}
use Rattle.odd_text.specs.Key.{key_cmp}
use Rattle.odd_text.specs.KeyOrder.{key_total}
use Rattle.odd_text.specs.declared.key.Key.{Key}
use Rattle.odd_tokens.specs.Characters.{IsNCName}
use Rattle.odd_text.proofs.InList.{stands_first, stands_later}
use Rattle.odd_text.specs.Standing.{StandsIn}
use Rattle.odd_text.specs.Sorted.{AreRising}
use Rattle.odd_overlay.specs.Tabled.{keys_of}
use Rattle.odd_library.specs.Formed.{IsFormedLibrary, IsFormedPart}
use Rattle.odd_library.specs.declared.library.Component.{Component}
use Rattle.odd_library.specs.declared.library.Library.{Library}
use Rattle.merged_laws.proofs.Keyed.{entry_found, keys_rise}

-- each component is formed
abbrev IsFormedEntry : Key × Component → Type 0
IsFormedEntry e = IsNCName e.0.ident × IsFormedPart e.0.kind e.1

abbrev pub AreFormedParts : List (Key × Component) → Type 0
AreFormedParts [] = Unit {0}
AreFormedParts (e ∷ es) = (IsNCName e.0.ident × IsFormedPart e.0.kind e.1) × AreFormedParts es

all_formed : (es : List (Key × Component)) → ((e : Key × Component) → StandsIn es e → IsFormedEntry e) → AreFormedParts es
all_formed [] f = tt
all_formed (e ∷ es) f = (f e (stands_first e es), all_formed es (λ x stands. f x (stands_later e x es stands)))

pub library_rises : (library : Library) → IsFormedLibrary library → AreRising key_cmp (keys_of library.parts)
library_rises library f = keys_rise key_cmp library.parts f.rising

pub library_parts : (library : Library) → IsFormedLibrary library → AreFormedParts library.parts
library_parts library f = all_formed library.parts (λ e stands. f.formed e.0 e.1 (entry_found key_cmp key_total library.parts e f.rising stands))
