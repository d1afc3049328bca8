-- The steps from one place to another among the elements that may hold items.
use Rattle.std.specs.Prelude.{◌≡◌, ◌≢◌, ◌<◌, ℕ, List, Some, slice_get, IsTrue}
use Rattle.odd_text.specs.Standing.{StandsIn}
use Rattle.odd_forms.specs.Names.{is_one_of}
use Rattle.odd_items.specs.Groups.{RefersTo, group_names, id_of}
use Rattle.odd_items.specs.Search.{Found, children_found}
use Rattle.odd_items.specs.Searching.{IsChildAt}

-- a group stands at the place
abbrev pub IsGroupAt : List Found → ℕ → Found → Type 0
IsGroupAt found place group = (slice_get found place ≡ Some group) × IsTrue (is_one_of group_names group.element)

-- and is the first of the id
pub record IsFirstOf (found : List Found) (id : List ℕ) (place : ℕ) : Type 0 where
  pub group : Found
  pub is_group : IsGroupAt found place group
  pub named : id_of group.element ≡ Some id
  pub first : (earlier : ℕ) (other : Found) → earlier < place → IsGroupAt found earlier other → id_of other.element ≢ Some id

pub data StepsTo (found : List Found) (holder place : ℕ) : Type 0 where
  inside : (group : Found) → IsChildAt found holder place → IsGroupAt found place group → StepsTo found holder place
  referred : (h reference : Found) (id : List ℕ) → slice_get found holder ≡ Some h → StandsIn (children_found h) reference → RefersTo reference.element id → IsFirstOf found id place
      → StepsTo found holder place
