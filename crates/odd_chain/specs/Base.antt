-- A file that stands for the files of a library, as the merged ODD of it does.
use Rattle.std.specs.Prelude.{◌≡◌, ◌-◌, ℕ, Bool, List, [], ◌∷◌}
use Rattle.odd_text.specs.declared.offence.Offence.{Offence}
use Rattle.odd_tree.specs.Spelled.{GivesTree}
use Rattle.odd_tree.specs.declared.tree.Tree.{Tree}
use Rattle.odd_decls.specs.Declares.{Declares}
use Rattle.odd_library.specs.declared.library.Library.{Library}
use Rattle.odd_library.specs.declared.odd.OddDoc.{OddDoc}
use Rattle.odd_modes.specs.After.{IsLibraryAfter}
use Rattle.odd_chain.specs.Offences.{OffendsIn}
use Rattle.odd_chain.specs.Order.{Position}

-- Read with `aside` or without, it declares one doc, from which no constraint is taken out and which has no offence, and the library after it alone is that one.
pub record StandsFor (library : Library) (tree : Tree) : Type 0 where
  pub doc : OddDoc
  pub declares : (aside : Bool) → Declares tree aside doc
  pub whole : doc.asides ≡ 0
  pub unoffended : (file : ℕ) (at : Position) → OffendsIn (doc ∷ []) file at → ⊥
  pub is_library : IsLibraryAfter (doc ∷ []) library

-- the text spells such a file
pub record SpellsBase (library : Library) (text : List ℕ) : Type 0 where
  pub tree : Tree
  pub given : GivesTree text tree
  pub stands : StandsFor library tree

-- an offence of a chain, where one file stands for several that came before: the number of its file is less by so much
abbrev pub moved : ℕ → Offence → Offence
moved by offence = record { file = offence.file - by; who = offence.who; rule = offence.rule }
