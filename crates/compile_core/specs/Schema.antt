-- The schema of a library and a list of start words, and where there is none.
use Rattle.std.specs.Prelude.{◌≡◌, ◌<◌, ◌⊎◌, ℕ, List, Option, Some, None}
use Rattle.odd_text.specs.Text.{text_cmp}
use Rattle.odd_text.specs.declared.offence.Offence.{Offence}
use Rattle.odd_text.specs.declared.offence.Who.TheVariants as who
use Rattle.odd_library.specs.declared.library.Library.{Library}
use Rattle.odd_text.specs.Standing.{StandsIn}
use Rattle.rng_grammar.specs.Nodes.{linked_nodes}
use Rattle.rng_grammar.specs.declared.grammar.Grammar.{Grammar}
use Rattle.rng_emit.specs.Nodes.{text_nodes}
use Rattle.std.specs.declared.cmp.Ordering.TheVariants.{Less}
use Rattle.compile_defines.specs.Compiled.{HoldsStart, IsGrammarOf, IsMissing}
use Rattle.compile_defines.specs.declared.budget.MakeRefusal.{MakeRefusal}
use Rattle.compile_defines.specs.declared.budget.MakeRefusal.TheVariants as made
use Rattle.compile_core.specs.declared.compiling.CompileRefusal.{CompileRefusal}
use Rattle.compile_core.specs.declared.compiling.CompileRefusal.TheVariants as refusal

-- the least start word that is no held element
pub record IsLeastMissing (library : Library) (start : List (List ℕ)) (word : List ℕ) : Type 0 where
  pub among : StandsIn start word
  pub missing : IsMissing library word
  pub least : (other : List ℕ) → StandsIn start other → IsMissing library other → text_cmp other word ≡ Less → ⊥

-- the least start word that is no held element, where there is one
abbrev pub IsLeast : Library → List (List ℕ) → Option (List ℕ) → Type 0
IsLeast library start (Some word) = IsLeastMissing library start word
IsLeast library start None = HoldsStart library start

-- the offence of the least start word that is no held element
pub record IsStartOffence (library : Library) (start : List (List ℕ)) (offence : Offence) : Type 0 where
  pub file : offence.file ≡ 0
  pub rule : offence.rule ≡ 20
  pub word : List ℕ
  pub who : offence.who ≡ who.Start word
  pub is_least : IsLeastMissing library start word

-- a schema may have a million elements in its text, and four million nodes after linking
abbrev pub IsTooLarge : Grammar → Type 0
IsTooLarge g = (1000000 < text_nodes g) ⊎ (4000000 < linked_nodes g)

-- the grammar of the library's schema: each start word is held, and no limit is passed
pub record IsSchema (library : Library) (start : List (List ℕ)) (g : Grammar) : Type 0 where
  pub holds_start : HoldsStart library start
  pub is_grammar : IsGrammarOf library start g
  pub within : IsTooLarge g → ⊥

-- each start word is held, and a limit is passed
pub record HasLargeSchema (library : Library) (start : List (List ℕ)) : Type 0 where
  pub holds_start : HoldsStart library start
  pub grammar : Grammar
  pub is_grammar : IsGrammarOf library start grammar
  pub too_large : IsTooLarge grammar

-- why a library has no schema, where its grammar is not made
abbrev pub as_refusal : MakeRefusal → CompileRefusal
as_refusal made.TooLarge = refusal.TooLarge
as_refusal made.NoMemory = refusal.NoMemory
