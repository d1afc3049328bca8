-- Docs that differ in the places of their items alone.
use Rattle.std.specs.Prelude.{◌≡◌, ℕ, zero, List, [], ◌∷◌}
use Rattle.odd_text.specs.Standing.{StandsIn}
use Rattle.odd_library.specs.declared.odd.Entry.TheVariants as entry
use Rattle.odd_library.specs.declared.odd.Entry.{Entry}
use Rattle.odd_library.specs.declared.odd.OddDoc.{OddDoc}
use Rattle.odd_library.specs.declared.spec.Spec.{Spec}

-- an item without its place
abbrev pub unplaced : Entry → Entry
unplaced (entry.Module at name pick) = entry.Module zero name pick
unplaced (entry.Take at taken) = entry.Take zero taken
unplaced (entry.Spec at spec) = entry.Spec zero spec

-- each item of the first stands in the second, but for its place
abbrev pub StandThere : List Entry → List Entry → Type 0
StandThere entries others = (e : Entry) → StandsIn entries e → (f : Entry) × StandsIn others f × (unplaced e ≡ unplaced f)

-- one spec at most for a key
abbrev pub HaveOneSpec : List Entry → Type 0
HaveOneSpec entries = (at place : ℕ) (spec other : Spec) → StandsIn entries (entry.Spec at spec) → StandsIn entries (entry.Spec place other) → spec.key ≡ other.key → spec ≡ other

pub record AreAlike (doc other : OddDoc) : Type 0 where
  pub ident : doc.ident ≡ other.ident
  pub start : doc.start ≡ other.start
  pub asides : doc.asides ≡ other.asides
  pub there : StandThere doc.entries other.entries
  pub back : StandThere other.entries doc.entries
  pub one : HaveOneSpec doc.entries
  pub other_one : HaveOneSpec other.entries

-- one after the other
pub data AreAllAlike : List OddDoc → List OddDoc → Type 0 where
  none : AreAllAlike [] []
  more : {doc other : OddDoc} {docs others : List OddDoc} → AreAlike doc other → AreAllAlike docs others → AreAllAlike (doc ∷ docs) (other ∷ others)
