-- Which of the elements that were found lead to which: a `schemaSpec` and a group to the groups among their children, and to those that a child refers to.
use Rattle.std.specs.Prelude.{◌≡◌, ℕ, List, Some, slice_get, IsTrue}
use Rattle.odd_text.specs.Standing.{StandsIn}
use Rattle.odd_tree.specs.Elements.{children_of}
use Rattle.odd_tree.specs.declared.tree.Tree.{Tree}
use Rattle.odd_forms.specs.Names.{is_one_of}
use Rattle.odd_items.specs.Groups.{RefersTo, group_names}
use Rattle.odd_items.specs.declared.searching.Kept.{Kept}

-- what is kept at the place
abbrev pub IsAt : List Kept → ℕ → Kept → Type 0
IsAt keeps place kept = slice_get keeps place ≡ Some kept

-- one leads to another, where this says which group is the first of each id
pub data LeadsTo (keeps : List Kept) (First : List ℕ → ℕ → Type 0) (holder place : ℕ) : Type 0 where
  inside : (kept : Kept) → IsAt keeps place kept → kept.parent ≡ Some holder → IsTrue (is_one_of group_names kept.tree.now) → LeadsTo keeps First holder place
  referred : (kept : Kept) (reference : Tree) (id : List ℕ) → IsAt keeps holder kept → StandsIn (children_of kept.tree.now) reference → RefersTo reference id → First id place
      → LeadsTo keeps First holder place
