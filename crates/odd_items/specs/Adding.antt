-- What the steps of the search add to what was found.
use Rattle.std.specs.Prelude.{◌≡◌, ℕ, ◌+◌, ◌⊎◌, Bool, false, List, [], ◌∷◌, ◌++◌, map, length, Option, Some, None, slice_get, if◌then◌else◌, IsTrue}
use Rattle.odd_text.specs.declared.name.Bind.{Bind}
use Rattle.odd_text.specs.Standing.{StandsIn}
use Rattle.odd_tree.specs.Elements.{within}
use Rattle.odd_tree.specs.declared.tree.Tree.{Tree}
use Rattle.odd_forms.specs.Names.{is_one_of}
use Rattle.odd_items.specs.Search.{Finds, FindsAmong, Found, children_found, is_searched}
use Rattle.odd_items.specs.Searching.{AreKept, HasParent, IsAround, IsChildAt}
use Rattle.odd_items.specs.declared.searching.Level.{Level}
use Rattle.odd_items.specs.declared.searching.Kept.{Kept}

-- levels were put at the end alone
abbrev pub Extends : List Level → List Level → Type 0
Extends old new = (more : List Level) × (new ≡ old ++ more)

-- the level around the children of an element, where the other is that around the element
abbrev pub LeadsInside : Tree → Option ℕ → List Level → List Level → Option ℕ → Type 0
LeadsInside t level old new inside = Extends old new × ((around : List Bind) → IsAround old level around → IsAround new inside (within around t))

-- these elements, with what is declared around them
abbrev pub standing_in : List Bind → List Tree → List Found
standing_in around ts = map (λ t. record { around = around; element = t }) ts

-- the parents of a part of what was found, which begins at the offset, and was found in some elements that have this parent
pub record ArePartParents (names : List (List ℕ)) (outermost : Bool) (offset : ℕ) (parent : Option ℕ) (roots : List Found) (keeps : List Kept) (found : List Found) : Type 0 where
  pub as_many : length keeps ≡ length found
  pub each : (place holder : ℕ) → HasParent keeps place holder
      → ((parent ≡ Some holder) × (child : Found) × (slice_get found place ≡ Some child) × StandsIn roots child) ⊎ ((inner : ℕ) × (holder ≡ offset + inner) × IsChildAt found inner place)
  pub own : outermost ≡ false → (child : Found) → StandsIn roots child → IsTrue (is_searched child.element) → IsTrue (is_one_of names child.element)
      → (place : ℕ) × (slice_get found place ≡ Some child) × (kept : Kept) × (slice_get keeps place ≡ Some kept) × (kept.parent ≡ parent)
  pub inside : outermost ≡ false → (inner : ℕ) (holder child : Found) → slice_get found inner ≡ Some holder → StandsIn (children_found holder) child → IsTrue (is_searched child.element) → IsTrue (is_one_of names child.element)
      → (place : ℕ) × (slice_get found place ≡ Some child) × HasParent keeps place (offset + inner)

-- what is found in an element is put at the end, with the levels on the way
abbrev pub AddsKept : List (List ℕ) → Bool → Tree → Option ℕ → Option ℕ → List Level → List Level → List Kept → List Kept → Type 0
AddsKept names outermost t level parent levels new_levels old new =
    Extends levels new_levels × ((around : List Bind) → IsAround levels level around → (found : List Found) × (added : List Kept) × (new ≡ old ++ added) × Finds names outermost around t found
    × AreKept new_levels added found × ArePartParents names outermost (length old) parent (standing_in around (t ∷ [])) added found)

-- and so it is for several
abbrev pub AddsAmong : List (List ℕ) → Bool → List Tree → Option ℕ → Option ℕ → List Level → List Level → List Kept → List Kept → Type 0
AddsAmong names outermost ts level parent levels new_levels old new =
    Extends levels new_levels × ((around : List Bind) → IsAround levels level around → (found : List Found) × (added : List Kept) × (new ≡ old ++ added) × FindsAmong names outermost around ts found
    × AreKept new_levels added found × ArePartParents names outermost (length old) parent (standing_in around ts) added found)

-- what is kept is put at the end where it has one of the names, and the place told
abbrev pub KeepsIt : Kept → Bool → List Kept → List Kept → Option ℕ → Type 0
KeepsIt kept named old new holder = (new ≡ old ++ (if named then kept ∷ [] else [])) × (holder ≡ (if named then Some (length old) else None))
