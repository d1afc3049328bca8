-- What the private functions of `holding` add to the arrows.
use Rattle.std.specs.Prelude.{◌≡◌, ◌↔◌, ◌⊎◌, ◌<◌, ℕ, List, [], Some, length, get_or, IsTrue}
use Rattle.std.specs.List.{Contains}
use Rattle.odd_text.specs.Standing.{StandsIn}
use Rattle.odd_tree.specs.Elements.{children_of}
use Rattle.odd_tree.specs.declared.tree.Tree.{Tree}
use Rattle.odd_forms.specs.Names.{is_one_of}
use Rattle.odd_items.specs.Groups.{RefersTo, group_names}
use Rattle.odd_items.specs.Holding.{IsAt}
use Rattle.odd_items.specs.declared.searching.Kept.{Kept}

-- the lists before and after items are added to some of them
pub record HasGrown (lists made : List (List ℕ)) (Added : ℕ → ℕ → Type 0) : Type 0 where
  pub same : length made ≡ length lists
  pub grown : (holder place : ℕ) → Contains (get_or made holder []) place ↔ (Contains (get_or lists holder []) place ⊎ (Added holder place × (holder < length lists)))

-- it is a group that is a child of what is at the place
abbrev pub IsGroupIn : Kept → ℕ → Type 0
IsGroupIn kept holder = (kept.parent ≡ Some holder) × IsTrue (is_one_of group_names kept.tree.now)

-- a group at a place is a child of another
abbrev pub IsInside : List Kept → ℕ → ℕ → Type 0
IsInside keeps holder place = (kept : Kept) × IsAt keeps place kept × IsGroupIn kept holder

-- an element refers to the group at a place
abbrev pub Refers : (List ℕ → ℕ → Type 0) → Tree → ℕ → Type 0
Refers First t place = (id : List ℕ) × RefersTo t id × First id place

-- one of several does
abbrev pub RefersAmong : (List ℕ → ℕ → Type 0) → List Tree → ℕ → Type 0
RefersAmong First trees place = (t : Tree) × StandsIn trees t × Refers First t place

-- a child of what is at a place refers to another
abbrev pub IsReferred : List Kept → (List ℕ → ℕ → Type 0) → ℕ → ℕ → Type 0
IsReferred keeps First holder place = (kept : Kept) × IsAt keeps holder kept × RefersAmong First (children_of kept.tree.now) place
