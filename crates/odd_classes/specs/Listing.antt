-- What the private functions of `member_lists` keep of lists of idents, of which there is one for each entry of a library.
use Rattle.std.specs.Prelude.{◌≡◌, ◌↔◌, ◌⊎◌, ◌<◌, ℕ, false, List, [], ◌∷◌, ◌++◌, Some, length, get_or}
use Rattle.std.specs.FinMap.{find}
use Rattle.std.specs.List.{Contains}
use Rattle.odd_text.specs.Text.{text_cmp}
use Rattle.odd_text.specs.declared.key.Key.{Key}
use Rattle.odd_graph.specs.Graph.{Leads}
use Rattle.odd_text.specs.Standing.{StandsIn}
use Rattle.odd_text.specs.Sorted.{AreRising, IsSet}
use Rattle.odd_library.specs.Odd.{element_key}
use Rattle.odd_library.specs.declared.library.ClassPart.{ClassPart}
use Rattle.odd_library.specs.declared.library.Component.{Component}
use Rattle.odd_library.specs.declared.library.Component.TheVariants as component
use Rattle.odd_library.specs.declared.library.ElementPart.{ElementPart}
use Rattle.odd_library.specs.declared.library.Library.{Library}
use Rattle.odd_meaning.specs.Classes.{IsElementOf}
use Rattle.odd_meaning.specs.Links.{class_key}
use Rattle.odd_classes.specs.Placing.{IsEntryAt}

-- the entry at the place is the class, and of type `model`
pub record IsModelAt (entries : List (Key × Component)) (place : ℕ) (class : List ℕ) : Type 0 where
  pub part : ClassPart
  pub here : IsEntryAt entries place (class_key class) (component.Class part)
  pub gives : part.gives ≡ false

-- the place is one of these, and at it stands such a class
abbrev pub IsModelAmong : List (Key × Component) → List ℕ → ℕ → Type 0
IsModelAmong entries places place = Contains places place × ((class : List ℕ) × IsModelAt entries place class)

-- the lists before and after the ident is put at the end of those of such classes
pub record HasListed (entries : List (Key × Component)) (places : List ℕ) (ident : List ℕ) (lists made : List (List (List ℕ))) : Type 0 where
  pub same : length made ≡ length lists
  pub each : (place : ℕ) → place < length lists
      → (IsModelAmong entries places place × (get_or made place [] ≡ get_or lists place [] ++ ident ∷ []))
      ⊎ ((IsModelAmong entries places place → ⊥) × (get_or made place [] ≡ get_or lists place []))

-- the element stands at one of the first places, and leads to this one
abbrev pub IsListedBefore : List (Key × Component) → List (List ℕ) → ℕ → ℕ → List ℕ → Type 0
IsListedBefore entries arrows count place ident = (from : ℕ) × (part : ElementPart) × IsEntryAt entries from (element_key ident) (component.Element part) × Leads arrows from place × (from < count)

-- a list for each entry, and none but those of classes of type `model` has an ident
pub record AreModelLists (entries : List (Key × Component)) (lists : List (List (List ℕ))) : Type 0 where
  pub of_all : length lists ≡ length entries
  pub others : (place : ℕ) → place < length lists → ((class : List ℕ) → IsModelAt entries place class → ⊥) → get_or lists place [] ≡ []

-- in rising order some of the elements that are members of each class
pub record AreListed (library : Library) (lists : List (List (List ℕ))) : Type 0 where
  pub models : AreModelLists library.parts lists
  pub rising : (place : ℕ) (class : List ℕ) → IsModelAt library.parts place class → AreRising text_cmp (get_or lists place [])
  pub members : (place : ℕ) (class ident : List ℕ) → IsModelAt library.parts place class → StandsIn (get_or lists place []) ident → IsElementOf library class ident

-- all of them
pub record AreListsOf (library : Library) (lists : List (List (List ℕ))) : Type 0 where
  pub models : AreModelLists library.parts lists
  pub sets : (place : ℕ) (class : List ℕ) → IsModelAt library.parts place class → IsSet text_cmp (IsElementOf library class) (get_or lists place [])

-- the list of each class of type `model` that has one
abbrev pub IsTableOf : List (Key × Component) → List (List (List ℕ)) → List (List ℕ × List (List ℕ)) → Type 0
IsTableOf entries lists table = (class : List ℕ) (idents : List (List ℕ))
    → (find text_cmp class table ≡ Some idents) ↔ ((place : ℕ) × (place < length lists) × (IsModelAt entries place class × (idents ≡ get_or lists place [])))
