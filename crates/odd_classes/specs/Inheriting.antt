-- What is kept while the entries of a library are gone through, each after the classes that it is a member of.
use Rattle.std.specs.Prelude.{◌≡◌, ◌≤◌, ◌<◌, ◌⊎◌, ◌↔◌, ◌+◌, ℕ, List, Option, Some, None, length, get_or, slice_get, IsTrue}
use Rattle.std.specs.FinMap.{is_sorted}
use Rattle.std.specs.List.{Contains}
use Rattle.odd_text.specs.Key.{key_cmp}
use Rattle.odd_graph.specs.Graph.{HasArrow}
use Rattle.odd_graph.specs.Ordering.{IsApart, IsOrder}
use Rattle.odd_text.specs.Standing.{StandsIn}
use Rattle.odd_library.specs.Odd.{element_key}
use Rattle.odd_library.specs.declared.library.Component.{Component}
use Rattle.odd_library.specs.declared.library.Library.{Library}
use Rattle.odd_meaning.specs.Links.{class_key, classes_of}
use Rattle.odd_offers.specs.Tables.{IsInherited, IsTableOf, Table}
use Rattle.odd_classes.specs.Placing.{IsEntryAt, IsGraphOf}
use Rattle.odd_classes.specs.declared.inheriting.Inherited.{Inherited}
use Rattle.odd_classes.specs.declared.inheriting.Inheriting.{Inheriting}

-- the node stands at the place of the order
abbrev pub IsNodeAt : List ℕ → ℕ → ℕ → Type 0
IsNodeAt order at node = slice_get order at ≡ Some node

-- no node of the order has an arrow to one that is behind the last place that is kept of it
abbrev pub AreLastUses : List (List ℕ) → List ℕ → List ℕ → Type 0
AreLastUses arrows order last = (at node next : ℕ) → IsNodeAt order at node → HasArrow arrows node next → at ≤ get_or last next 0

-- the place is kept for each of these nodes, and for each of all that or what was
pub record IsUsedAt (nodes : List ℕ) (at : ℕ) (old new : List ℕ) : Type 0 where
  pub same : length new ≡ length old
  pub used : (node : ℕ) → Contains nodes node → node < length old → get_or new node 0 ≡ at
  pub each : (node : ℕ) → (get_or new node 0 ≡ at) ⊎ (get_or new node 0 ≡ get_or old node 0)

-- there is a table at the node, and it is this one
abbrev pub HasTable : List (Option Table) → ℕ → Table → Type 0
HasTable tables node table = slice_get tables node ≡ Some (Some table)

-- each table is that of the class at its node
abbrev pub AreTablesOf : Library → List (Option Table) → Type 0
AreTablesOf library tables = (node : ℕ) (table : Table) → HasTable tables node table
    → (class : List ℕ) × (part : Component) × IsEntryAt library.parts node (class_key class) part × IsTableOf library class table

-- each class that was gone through and to which an arrow of one still to come leads has its table
abbrev pub AreReady : Library → List (List ℕ) → List ℕ → ℕ → List (Option Table) → Type 0
AreReady library arrows order at tables = (before after node next : ℕ) (class : List ℕ) (part : Component) → IsNodeAt order before next → IsNodeAt order after node
    → HasArrow arrows node next → IsEntryAt library.parts next (class_key class) part → before + 1 ≤ at → at ≤ after → (table : Table) × HasTable tables next table

-- the entries before the place of the order were gone through
pub record Sweeps (library : Library) (s : Inheriting) (at : ℕ) : Type 0 where
  pub entries : s.entries.now ≡ library.parts
  pub rising : IsTrue (is_sorted key_cmp library.parts)
  pub graph : IsGraphOf classes_of library.parts s.arrows.now
  pub order : IsOrder s.arrows.now s.order.items
  pub each : (node : ℕ) → IsApart s.arrows.now node → Contains s.order.items node ⊎ (length s.arrows.now ≤ node)
  pub last : AreLastUses s.arrows.now s.order.items s.last.items
  pub of_all : length s.tables.items ≡ length library.parts
  pub exact : AreTablesOf library s.tables.items
  pub ready : AreReady library s.arrows.now s.order.items at s.tables.items

-- the tables of these nodes
abbrev pub AreTablesAt : List (Option Table) → List ℕ → List Table → Type 0
AreTablesAt tables nodes made = (table : Table) → StandsIn made table ↔ ((node : ℕ) × Contains nodes node × HasTable tables node table)

-- no table is gone but those that no node after this place of the order needs
abbrev pub AreLeft : List ℕ → ℕ → List (Option Table) → List (Option Table) → Type 0
AreLeft last at old new = (node : ℕ) → (slice_get new node ≡ slice_get old node) ⊎ ((slice_get new node ≡ Some None) × (get_or last node 0 ≡ at))

-- the entry at a place is an element, or of no other kind that inherits
abbrev pub IsElementAt : Library → ℕ → Type 0
IsElementAt library node = (ident : List ℕ) × (part : Component) × IsEntryAt library.parts node (element_key ident) part

-- an element stands at the place, and the table has exactly what it inherits
abbrev pub IsInheritedAt : Library → Inherited → Type 0
IsInheritedAt library inherited = (ident : List ℕ) × (part : Component) × IsEntryAt library.parts inherited.place (element_key ident) part × IsInherited library part inherited.table

-- what one step tells: that the entry is no element, or that it is one and what it inherits
abbrev pub IsStep : Library → List ℕ → ℕ → Option Inherited → Type 0
IsStep library order at None = (node : ℕ) × IsNodeAt order at node × (IsElementAt library node → ⊥)
IsStep library order at (Some inherited) = IsNodeAt order at inherited.place × IsInheritedAt library inherited
