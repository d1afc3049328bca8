-- What is found of a file: its items, its `schemaSpec` and its groups.
use Rattle.std.specs.Prelude.{◌≡◌, ◌↔◌, ◌<◌, ℕ, false, List, [], ◌∷◌, ◌++◌, Option, Some, None, filter, length, map}
use Rattle.std.specs.BTreeMap.{BTreeMap, IsOrdered, get}
use Rattle.std.specs.Ordering.{nat_cmp}
use Rattle.odd_text.specs.Text.{text_cmp}
use Rattle.odd_text.specs.Standing.{StandsIn}
use Rattle.odd_tree.specs.declared.tree.Tree.{Tree, out-Tree}
use Rattle.odd_text.specs.Least.{IsLeast}
use Rattle.odd_forms.specs.Names.{is_one_of}
use Rattle.odd_items.specs.Groups.{HoldsItems, IsGroupOf, IsItemIn, holder_names, schema_names}
use Rattle.odd_items.specs.Holding.{IsAt}
use Rattle.odd_items.specs.Ids.{IsAgain, IsFirstWith}
use Rattle.odd_items.specs.Listing.{AreItems}
use Rattle.odd_items.specs.Search.{Finds, Found, children_found}
use Rattle.odd_items.specs.Searching.{AreKept, AreParents}
use Rattle.odd_items.specs.declared.ids.Ids.{Ids}
use Rattle.odd_items.specs.declared.listing.Item.{Item}
use Rattle.odd_items.specs.declared.searching.Kept.{Kept}
use Rattle.odd_items.specs.declared.searching.Level.{Level}
use Rattle.odd_decls.specs.Items.{at_of}
use Rattle.odd_decls.specs.declared.file_items.FileItems.{FileItems}
use Rattle.odd_decls.specs.declared.file_items.Groups.{Groups}

-- what was found of a file that may hold items, with the ids of the groups among it
pub record AreGroupsOf (t : Tree) (groups : Groups) : Type 0 where
  pub found : List Found
  pub finds : Finds holder_names false [] t found
  pub kept : map (λ k. k.tree.now) groups.found.items ≡ map (λ f. f.element) found
  pub first : (id : List ℕ) (place : ℕ) → (get text_cmp groups.ids.by_id id ≡ Some place) ↔ IsFirstWith (map (λ f. f.element) found) id place
  pub again : IsLeast (IsAgain (map (λ f. f.element) found)) groups.ids.again

-- where the group of an id begins, if there is one
abbrev pub IsGroupPlace : Tree → List ℕ → Option ℕ → Type 0
IsGroupPlace t id None = (group : Found) → IsGroupOf t id group → ⊥
IsGroupPlace t id (Some place) = (group : Found) × IsGroupOf t id group × (at_of group ≡ place)

-- the places of items rise, one after the other
abbrev pub ItemsRise : List Item → Type 0
ItemsRise items = (before between after : List Item) (one other : Item) → items ≡ before ++ one ∷ (between ++ other ∷ after) → (out-Tree one.tree.now).at < (out-Tree other.tree.now).at

pub record AreFileItems (t : Tree) (of : FileItems) : Type 0 where
  pub schemas : List Found
  pub finds : Finds schema_names false [] t schemas
  pub kept : AreKept of.levels.items of.schemas.items schemas
  pub items : AreItems of.levels.items of.items.items (IsItemIn t schemas)
  pub rises : ItemsRise of.items.items
  pub groups : AreGroupsOf t of.groups

-- of each id the first group among these elements, and the first group that has the id of an earlier one
pub record AreIdsOf (trees : List Tree) (ids : Ids) : Type 0 where
  pub first : (id : List ℕ) (place : ℕ) → (get text_cmp ids.by_id id ≡ Some place) ↔ IsFirstWith trees id place
  pub again : IsLeast (IsAgain trees) ids.again

-- what may hold items in a file was found, and is kept under these levels, with the ids of the groups among it
pub record AreHolders (t : Tree) (levels : List Level) (groups : Groups) (founds : List Found) : Type 0 where
  pub finds : Finds holder_names false [] t founds
  pub kept : AreKept levels groups.found.items founds
  pub parents : AreParents holder_names false groups.found.items founds
  pub ids : AreIdsOf (map (λ k. k.tree.now) groups.found.items) groups.ids

-- each parent stands among these
abbrev pub ParentsWithin : List Kept → Type 0
ParentsWithin keeps = (place holder : ℕ) (kept : Kept) → IsAt keeps place kept → kept.parent ≡ Some holder → holder < length keeps

-- the element is a child of one that holds items
abbrev pub IsHeldIn : Tree → Found → Found → Type 0
IsHeldIn t schema item = (holder : Found) × HoldsItems t schema holder × StandsIn (children_found holder) item

-- the `schemaSpec` among what was found
abbrev pub schemas_among : List Found → List Found
schemas_among founds = filter (λ f. is_one_of schema_names f.element) founds

-- the items of a file, with levels under which its `schemaSpec` stay what they are
pub record AreListed (t : Tree) (levels : List Level) (founds : List Found) (others : List Level) (listed : List Item) : Type 0 where
  pub kept : (keeps : List Kept) → AreKept levels keeps (schemas_among founds) → AreKept others keeps (schemas_among founds)
  pub items : AreItems others listed (IsItemIn t (schemas_among founds))

-- items by their places, one of each place
pub record AreByPlace (items : List Item) (placed : BTreeMap ℕ Item) : Type 0 where
  pub ordered : IsOrdered nat_cmp placed
  pub held : (place : ℕ) (item : Item) → get nat_cmp placed place ≡ Some item → StandsIn items item × ((out-Tree item.tree.now).at ≡ place)
  pub each : (item : Item) → StandsIn items item → (other : Item) × (get nat_cmp placed (out-Tree item.tree.now).at ≡ Some other)

-- and in the order of their places
pub record AreInOrder (items ordered : List Item) : Type 0 where
  pub rises : ItemsRise ordered
  pub none_else : (item : Item) → StandsIn ordered item → StandsIn items item
  pub each : (item : Item) → StandsIn items item → (other : Item) × StandsIn ordered other × ((out-Tree other.tree.now).at ≡ (out-Tree item.tree.now).at)
