-- What the reading of a file as it stands answers.
use Rattle.std.specs.Prelude.{◌≡◌, ℕ, List, [], ◌∷◌, Option, Some, None}
use Rattle.std.specs.Borrow.{Bor}
use Rattle.odd_text.specs.declared.offence.Offence.{Offence}
use Rattle.odd_text.specs.declared.offence.Who.TheVariants as who
use Rattle.odd_tree.specs.declared.tree.Tree.{Tree}
use Rattle.odd_items.specs.Search.{Found}
use Rattle.odd_items.specs.declared.searching.Kept.{Kept}
use Rattle.odd_library.specs.First.{IsFirstOf}
use Rattle.odd_decls.specs.Offences.{OffendsWhole}

-- the offence is the first of the file as it stands
pub record IsRefusalWhole (t : Tree) (file : ℕ) (offence : Offence) : Type 0 where
  pub in_file : offence.file ≡ file
  pub place : ℕ
  pub placed : offence.who ≡ who.At place
  pub is_first : IsFirstOf (OffendsWhole t) place offence.rule

-- this was kept of the first `schemaSpec` of a file, if there is one
abbrev pub IsFirst : Option (Bor Kept) → List Found → Type 0
IsFirst None schemas = schemas ≡ []
IsFirst (Some kept) schemas = (first : Found) × (others : List Found) × (schemas ≡ first ∷ others) × (kept.now.tree.now ≡ first.element)
