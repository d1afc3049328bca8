-- What the search keeps of what it finds.
use Rattle.std.specs.Prelude.{◌≡◌, ℕ, ◌<◌, Bool, false, List, [], ◌∷◌, ◌++◌, Option, Some, None, slice_get, IsTrue}
use Rattle.odd_text.specs.declared.name.Bind.{Bind}
use Rattle.odd_text.specs.Standing.{StandsIn}
use Rattle.odd_tree.specs.Elements.{within}
use Rattle.odd_forms.specs.Names.{is_one_of}
use Rattle.odd_items.specs.Search.{Found, children_found, is_searched}
use Rattle.odd_items.specs.declared.searching.Level.{Level}
use Rattle.odd_items.specs.declared.searching.Kept.{Kept}

-- the declarations at a level, the outermost first; the level around another stands before it
pub data IsAround (levels : List Level) : Option ℕ → List Bind → Type 0 where
  outside : IsAround levels None []
  inside : {at : ℕ} {outer : List Bind} (level : Level) → slice_get levels at ≡ Some level → ((other : ℕ) → level.outer ≡ Some other → other < at) → IsAround levels level.outer outer
      → IsAround levels (Some at) (outer ++ level.binds.now)

-- what is kept of an element
pub record IsKept (levels : List Level) (kept : Kept) (found : Found) : Type 0 where
  pub tree : kept.tree.now ≡ found.element
  pub level : IsAround levels kept.level found.around
  pub inside : IsAround levels kept.inside (within found.around found.element)

-- of several, in their order
pub data AreKept (levels : List Level) : List Kept → List Found → Type 0 where
  none : AreKept levels [] []
  more : {kept : Kept} {found : Found} {keeps : List Kept} {founds : List Found} → IsKept levels kept found → AreKept levels keeps founds → AreKept levels (kept ∷ keeps) (found ∷ founds)

-- the second is a child of the first
pub record IsChildAt (found : List Found) (holder place : ℕ) : Type 0 where
  pub parent : Found
  pub child : Found
  pub parent_at : slice_get found holder ≡ Some parent
  pub child_at : slice_get found place ≡ Some child
  pub stands : StandsIn (children_found parent) child

-- what is kept at the place has this parent
abbrev pub HasParent : List Kept → ℕ → ℕ → Type 0
HasParent keeps place holder = (kept : Kept) × (slice_get keeps place ≡ Some kept) × (kept.parent ≡ Some holder)

-- parents are told exactly: where all of the names are looked for, each child of one of these names that is searched has its parent
pub record AreParents (names : List (List ℕ)) (outermost : Bool) (keeps : List Kept) (found : List Found) : Type 0 where
  pub each : (place holder : ℕ) → HasParent keeps place holder → IsChildAt found holder place
  pub all : outermost ≡ false → (holder : ℕ) (parent child : Found) → slice_get found holder ≡ Some parent → StandsIn (children_found parent) child → IsTrue (is_searched child.element) → IsTrue (is_one_of names child.element)
      → (place : ℕ) × (slice_get found place ≡ Some child) × HasParent keeps place holder
