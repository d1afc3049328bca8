-- Macros in an order in which each stands after those that its content names.
use Rattle.std.specs.Prelude.{◌≡◌, ◌↔◌, ◌⊎◌, ℕ, List, ◌∷◌, ◌++◌}
use Rattle.odd_text.specs.Standing.{StandsIn}
use Rattle.odd_library.specs.declared.library.Library.{Library}
use Rattle.odd_meaning.specs.Classes.{Reaches}
use Rattle.odd_meaning.specs.Links.{IsHeld, IsLinked, macro_key, macros_of}

-- neither the macro nor one that it reaches reaches itself
abbrev pub IsRanked : Library → List ℕ → Type 0
IsRanked library ident = (other : List ℕ) → (other ≡ ident) ⊎ Reaches library ident other → Reaches library other other → ⊥

-- the held macros that are such, each once
pub record IsMacroOrder (library : Library) (idents : List (List ℕ)) : Type 0 where
  pub each : (ident : List ℕ) → StandsIn idents ident ↔ (IsHeld library (macro_key ident) × IsRanked library ident)
  pub once : (before after : List (List ℕ)) (ident : List ℕ) → idents ≡ before ++ ident ∷ after → StandsIn before ident → ⊥
  pub after : (before after : List (List ℕ)) (ident other : List ℕ) → idents ≡ before ++ ident ∷ after → IsLinked macros_of library (macro_key ident) (macro_key other)
      → StandsIn before other
