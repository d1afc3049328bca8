-- The files of a chain, by the trees that they spell: what they declare one after another, the first offence, and the library after them.
use Rattle.std.specs.Prelude.{◌≡◌, ◌+◌, ℕ, suc, zero, Bool, List, [], ◌∷◌, ◌++◌, length}
use Rattle.odd_text.specs.declared.offence.Offence.{Offence}
use Rattle.odd_tree.specs.declared.tree.Tree.{Tree}
use Rattle.odd_decls.specs.Declares.{Declares}
use Rattle.odd_decls.specs.Offences.{HasOffence}
use Rattle.odd_library.specs.declared.library.Library.{Library}
use Rattle.odd_library.specs.declared.odd.OddDoc.{OddDoc}
use Rattle.odd_modes.specs.After.{IsLibraryAfter}
use Rattle.odd_chain.specs.Offences.{OffendsIn}
use Rattle.odd_chain.specs.Order.{IsFirst, Position, form}

-- each file declares its doc, with `aside` or without
pub data AreDeclared (aside : Bool) : List Tree → List OddDoc → Type 0 where
  none : AreDeclared aside [] []
  more : {t : Tree} {trees : List Tree} {doc : OddDoc} {docs : List OddDoc} → Declares t aside doc → AreDeclared aside trees docs → AreDeclared aside (t ∷ trees) (doc ∷ docs)

-- The offences of a file: those of form; and where it and each file before it have none of these, and so declare docs, those of its doc.
pub data ChainOffends (aside : Bool) (trees : List Tree) : ℕ → Position → Type 0 where
  of_form : {place rule : ℕ} (earlier : List Tree) (t : Tree) (later : List Tree) → trees ≡ earlier ++ t ∷ later → HasOffence t aside place rule
      → ChainOffends aside trees (suc (length earlier)) (form place rule)
  of_doc : {at : Position} (upto later : List Tree) (docs : List OddDoc) → trees ≡ upto ++ later → AreDeclared aside upto docs → OffendsIn docs (length upto) at
      → ChainOffends aside trees (length upto) at

-- the first offence of the chain
abbrev pub IsChainRefusal : Bool → List Tree → Offence → Type 0
IsChainRefusal aside trees = IsFirst (ChainOffends aside trees)

-- the files declare docs, none of them has an offence, and the library is the one after them
pub record Gives (aside : Bool) (trees : List Tree) (library : Library) : Type 0 where
  pub docs : List OddDoc
  pub declared : AreDeclared aside trees docs
  pub unoffended : (file : ℕ) (at : Position) → ChainOffends aside trees file at → ⊥
  pub is_library : IsLibraryAfter docs library

-- how many constraints were taken out of all files
abbrev pub all_asides : List OddDoc → ℕ
all_asides [] = zero
all_asides (doc ∷ docs) = doc.asides + all_asides docs

-- so many were taken out of the files of a chain
abbrev pub HasAsides : Bool → List Tree → ℕ → Type 0
HasAsides aside trees count = (docs : List OddDoc) × AreDeclared aside trees docs × (count ≡ all_asides docs)
