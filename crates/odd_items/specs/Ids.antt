-- The ids of groups, by their places in a list.
use Rattle.std.specs.Prelude.{◌≡◌, ◌<◌, ℕ, if◌then◌else◌, List, [], ◌∷◌, Option, Some, None, codes, slice_get}
use Rattle.odd_tree.specs.declared.tree.Tree.{Tree, out-Tree}
use Rattle.odd_forms.specs.Names.{is_one_of}
use Rattle.odd_items.specs.Groups.{id_among}

-- the value of `xml:id` of a group
abbrev pub id_of : Tree → Option (List ℕ)
id_of t = if is_one_of (codes "specGrp" ∷ []) t then id_among (out-Tree t).attrs else None

-- the group at the place has the id
abbrev pub HasId : List Tree → List ℕ → ℕ → Type 0
HasId groups id place = (group : Tree) × (slice_get groups place ≡ Some group) × (id_of group ≡ Some id)

-- and no earlier one
pub record IsFirstWith (groups : List Tree) (id : List ℕ) (place : ℕ) : Type 0 where
  pub has : HasId groups id place
  pub first : (earlier : ℕ) → earlier < place → HasId groups id earlier → ⊥

-- the group at the place has the id of an earlier one
pub record IsAgain (groups : List Tree) (place : ℕ) : Type 0 where
  pub id : List ℕ
  pub earlier : ℕ
  pub before : earlier < place
  pub earlier_has : HasId groups id earlier
  pub has : HasId groups id place
