-- What is kept of the files of a chain that are read so far.
use Rattle.std.specs.Prelude.{◌≡◌, ℕ, Bool, List, length, min}
use Rattle.odd_text.specs.Count.{last_count}
use Rattle.odd_text.specs.declared.key.Key.{Key}
use Rattle.odd_text.specs.declared.offence.Offence.{Offence}
use Rattle.odd_text.specs.declared.offence.Who.TheVariants as who
use Rattle.odd_tree.specs.declared.tree.Tree.{Tree}
use Rattle.odd_library.specs.Formed.{IsFormedLibrary}
use Rattle.odd_library.specs.declared.library.Library.{Library}
use Rattle.odd_library.specs.declared.odd.OddDoc.{OddDoc}
use Rattle.odd_meaning.specs.Rules.{Breaks, IsFirstBreak}
use Rattle.odd_modes.specs.After.{IsLibraryAfter}
use Rattle.odd_chain.specs.Files.{AreDeclared, IsChainRefusal, all_asides}
use Rattle.odd_chain.specs.Offences.{OffendsIn}
use Rattle.odd_chain.specs.Order.{Position, form, held, item}
use Rattle.odd_chain.specs.declared.chain.Chain.{Chain}
use Rattle.odd_chain.specs.declared.chain.Chain.TheVariants as chain
use Rattle.odd_chain.specs.declared.chain.Merged.{Merged}

-- of so many docs it is one of the library after the last
abbrev pub IsOfLast : ℕ → ℕ → Position → Type 0
IsOfLast count file (form place rule) = ⊥
IsOfLast count file (item place rule) = ⊥
IsOfLast count file (held key rule) = file ≡ count

-- the library is that after docs, and these have no offence but of it
pub record IsMerged (docs : List OddDoc) (library : Library) : Type 0 where
  pub after : IsLibraryAfter docs library
  pub of_last : (file : ℕ) (at : Position) → OffendsIn docs file at → IsOfLast (length docs) file at

-- the same of the docs that files declare, of which there are so many, with so many constraints taken out
pub record AreMerged (aside : Bool) (trees : List Tree) (made : Merged) : Type 0 where
  pub docs : List OddDoc
  pub declared : AreDeclared aside trees docs
  pub merged : IsMerged docs made.library
  pub numbered : made.files ≡ length trees
  pub counted : made.asides ≡ min (all_asides docs) last_count

abbrev pub IsChainOf : Bool → Chain → List Tree → Type 0
IsChainOf aside (chain.Whole made) trees = AreMerged aside trees made
IsChainOf aside (chain.Broken offence) trees = IsChainRefusal aside trees offence

-- what is kept is formed
abbrev pub IsFormedChain : Chain → Type 0
IsFormedChain (chain.Whole made) = IsFormedLibrary made.library
IsFormedChain (chain.Broken offence) = Unit {0}

-- the first offence of the library after a file
pub record IsFirstOfLibrary (library : Library) (file : ℕ) (offence : Offence) : Type 0 where
  pub in_file : offence.file ≡ file
  pub key : Key
  pub placed : offence.who ≡ who.Part key
  pub is_first : IsFirstBreak (Breaks library) key offence.rule
