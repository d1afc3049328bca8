-- What the parts of the search for the first fault answer.
use Rattle.std.specs.Prelude.{◌≡◌, ℕ, List, Option, Some, None, if◌then◌else◌, codes, IsTrue}
use Rattle.std.specs.BTreeSet.{BTreeSet, contains}
use Rattle.std.specs.Option.{option_map}
use Rattle.std.specs.Ordering.{nat_cmp}
use Rattle.odd_text.specs.declared.key.Key.{Key}
use Rattle.odd_tree.specs.declared.tree.Tree.{Tree, out-Tree}
use Rattle.odd_text.specs.Standing.{StandsIn}
use Rattle.odd_tree.specs.Elements.{given, within}
use Rattle.odd_forms.specs.Faults.{OwnFault}
use Rattle.odd_forms.specs.Names.{is_one_of}
use Rattle.odd_forms.specs.Table.{form_at}
use Rattle.odd_forms.specs.declared.element.Element.TheVariants as element
use Rattle.odd_items.specs.Groups.{IsGroupOf, RefersTo, reference_names}
use Rattle.odd_items.specs.Search.{Found}
use Rattle.odd_items.specs.declared.listing.Item.{Item}
use Rattle.odd_library.specs.First.{IsFirstOf}
use Rattle.odd_library.specs.declared.fault.Fault.{Fault}
use Rattle.odd_decls.specs.Items.{IsSpecOf, at_of}

-- one of the items has this key
abbrev pub IsKeyIn : List Tree → Key → Type 0
IsKeyIn items key = (item : Tree) × StandsIn items item × IsSpecOf key item

-- an earlier item has the item's key
abbrev pub IsAgain : List Tree → Tree → Type 0
IsAgain items item = (key : Key) × IsSpecOf key item × IsKeyIn items key

-- the first of these, by place and then by rule, where there is one
abbrev pub IsFirstIn : (ℕ → ℕ → Type 0) → Option Fault → Type 0
IsFirstIn HasOne None = (place rule : ℕ) → HasOne place rule → ⊥
IsFirstIn HasOne (Some fault) = IsFirstOf HasOne fault.at fault.rule

-- the fault at a place by the rule that is broken there, if one is
abbrev pub fault_by : ℕ → Option ℕ → Option Fault
fault_by at rule = option_map (λ r. record { at = at; rule = r }) rule

-- what a `schemaSpec` breaks by itself, and where it begins
abbrev pub OffendsAlone : Found → ℕ → ℕ → Type 0
OffendsAlone schema place rule = OwnFault (form_at element.SchemaSpec) (within schema.around schema.element) schema.element rule × (place ≡ at_of schema)

-- the target of a reference to a group
abbrev pub target_of : Tree → Option (List ℕ)
target_of t = if is_one_of reference_names t then given t (codes "target") else None

-- the item is a group that begins at the place
abbrev pub IsGroupAt : ℕ → Item → Type 0
IsGroupAt place item = (item.element ≡ Some element.SpecGrp) × ((out-Tree item.tree.now).at ≡ place)

-- a group among the items begins there
abbrev pub IsStanding : List Item → ℕ → Type 0
IsStanding items place = (item : Item) × StandsIn items item × IsGroupAt place item

-- what a reference breaks by its target, where the groups among the items begin at these places
pub data TargetFault (t : Tree) (places : BTreeSet ℕ) (reference : Tree) : ℕ → Type 0 where
  foreign : ((id : List ℕ) → RefersTo reference id → ⊥) → TargetFault t places reference 2
  unknown : (id : List ℕ) → RefersTo reference id → ((group : Found) → IsGroupOf t id group → ⊥) → TargetFault t places reference 3
  standing : (id : List ℕ) (group : Found) → RefersTo reference id → IsGroupOf t id group → IsTrue (contains nat_cmp places (at_of group)) → TargetFault t places reference 4
