-- The offences of form of an ODD file: rule 1, a needed attribute is absent or one is malformed; 2, a form that is left out; 3, a child that may not
-- stand there, a `mode` or a `type` that is unknown, what contradicts itself, or a target that names no group; 4, twice. An offence is of an item, wherever
-- inside the item the fault is.
use Rattle.std.specs.Prelude.{◌≡◌, ◌≢◌, ◌<◌, ℕ, Bool, false, List, [], ◌∷◌, ◌++◌, Some, codes, IsTrue}
use Rattle.odd_text.specs.declared.key.Key.{Key}
use Rattle.odd_text.specs.declared.name.Bind.{Bind}
use Rattle.odd_text.specs.declared.offence.Offence.{Offence}
use Rattle.odd_text.specs.declared.offence.Who.TheVariants as who
use Rattle.odd_text.specs.Standing.{StandsIn}
use Rattle.odd_tree.specs.Elements.{given, within}
use Rattle.odd_tree.specs.declared.tree.Tree.{Tree}
use Rattle.odd_forms.specs.Deep.{DeepFault}
use Rattle.odd_forms.specs.Faults.{ChildFault, OwnFault}
use Rattle.odd_forms.specs.Names.{is_one_of}
use Rattle.odd_forms.specs.Table.{form_at}
use Rattle.odd_forms.specs.declared.element.Element.{Element}
use Rattle.odd_forms.specs.declared.element.Element.TheVariants as element
use Rattle.odd_library.specs.First.{IsNotAfter}
use Rattle.odd_items.specs.Groups.{IsGroupOf, IsItemIn, RefersTo, group_names, id_of, reference_names, schema_names}
use Rattle.odd_items.specs.Search.{Finds, Found}
use Rattle.odd_decls.specs.Aside.{IsReadOf}
use Rattle.odd_decls.specs.Items.{IsItem, IsSpecOf, at_of}

-- what an item breaks by itself: by standing there, or at any depth where it may
pub data ItemFault (around : List Bind) (item : Tree) : ℕ → Type 0 where
  misplaced : {rule : ℕ} → ChildFault (form_at element.SchemaSpec) item rule → ItemFault around item rule
  deep : {rule : ℕ} (e : Element) → IsItem e item → DeepFault e 60 around item rule → ItemFault around item rule

-- what the `schemaSpec` of a file break: the first by itself, and each of the others by standing there
pub data SchemasOffend : List Found → ℕ → ℕ → Type 0 where
  itself : {first : Found} {others : List Found} {place rule : ℕ} → OwnFault (form_at element.SchemaSpec) (within first.around first.element) first.element rule
      → place ≡ at_of first → SchemasOffend (first ∷ others) place rule
  again : {first : Found} {others : List Found} {place : ℕ} (other : Found) → StandsIn others other → place ≡ at_of other → SchemasOffend (first ∷ others) place 4

-- what items break: each by itself, and one with the key of an earlier one
pub data ItemsOffend (t : Tree) (schemas : List Found) : ℕ → ℕ → Type 0 where
  alone : {place rule : ℕ} (item : Found) → IsItemIn t schemas item → ItemFault item.around item.element rule → place ≡ at_of item → ItemsOffend t schemas place rule
  twice : {place : ℕ} (key : Key) (earlier item : Found) → IsItemIn t schemas earlier → IsItemIn t schemas item → at_of earlier < at_of item → IsSpecOf key earlier.element
      → IsSpecOf key item.element → place ≡ at_of item → ItemsOffend t schemas place 4

-- the item is a reference to a group that has this target
pub record HasTarget (t : Tree) (schemas : List Found) (item : Found) (target : List ℕ) : Type 0 where
  pub is_item : IsItemIn t schemas item
  pub is_reference : IsTrue (is_one_of reference_names item.element)
  pub has : given item.element (codes "target") ≡ Some target

-- what references to groups break: the target is no `#` and an id, no group has the id, the group stands among the items, or an earlier reference has the target
pub data ReferencesOffend (t : Tree) (schemas : List Found) : ℕ → ℕ → Type 0 where
  foreign : {place : ℕ} (item : Found) (target : List ℕ) → HasTarget t schemas item target → ((id : List ℕ) → target ≢ 0x23 ∷ id) → place ≡ at_of item → ReferencesOffend t schemas place 2
  unknown : {place : ℕ} (item : Found) (id : List ℕ) → IsItemIn t schemas item → RefersTo item.element id → ((group : Found) → IsGroupOf t id group → ⊥) → place ≡ at_of item
      → ReferencesOffend t schemas place 3
  standing : {place : ℕ} (item group : Found) (id : List ℕ) → IsItemIn t schemas item → RefersTo item.element id → IsGroupOf t id group → IsItemIn t schemas group → place ≡ at_of item
      → ReferencesOffend t schemas place 4
  again : {place : ℕ} (earlier item : Found) (target : List ℕ) → HasTarget t schemas earlier target → HasTarget t schemas item target → at_of earlier < at_of item → place ≡ at_of item
      → ReferencesOffend t schemas place 4

-- a group at the place has the id of an earlier one, whether they are items or not
pub record HasIdAgain (t : Tree) (place : ℕ) : Type 0 where
  pub id : List ℕ
  pub before : List Found
  pub after : List Found
  pub earlier : Found
  pub later : Found
  pub found : Finds group_names false [] t (before ++ later ∷ after)
  pub is_before : StandsIn before earlier
  pub earlier_has : id_of earlier.element ≡ Some id
  pub has : id_of later.element ≡ Some id
  pub placed : place ≡ at_of later

-- what a file breaks in which these are the `schemaSpec`
pub data Offends (t : Tree) (schemas : List Found) : ℕ → ℕ → Type 0 where
  schema : {place rule : ℕ} → SchemasOffend schemas place rule → Offends t schemas place rule
  item : {place rule : ℕ} → ItemsOffend t schemas place rule → Offends t schemas place rule
  reference : {place rule : ℕ} → ReferencesOffend t schemas place rule → Offends t schemas place rule
  group : {place : ℕ} → HasIdAgain t place → Offends t schemas place 4

-- a file has an offence as it stands
pub record OffendsWhole (t : Tree) (place rule : ℕ) : Type 0 where
  pub schemas : List Found
  pub found : Finds schema_names false [] t schemas
  pub offends : Offends t schemas place rule

-- the file, read with `aside` or without, has an offence at the place by the rule
pub record HasOffence (t : Tree) (aside : Bool) (place rule : ℕ) : Type 0 where
  pub read : Tree
  pub asides : ℕ
  pub is_read : IsReadOf t aside read asides
  pub offends : OffendsWhole read place rule

-- the offence is one of the file
pub record IsOffenceOf (t : Tree) (aside : Bool) (file : ℕ) (offence : Offence) : Type 0 where
  pub in_file : offence.file ≡ file
  pub place : ℕ
  pub placed : offence.who ≡ who.At place
  pub offends : HasOffence t aside place offence.rule

-- and no other of the file comes before it
pub record IsRefusal (t : Tree) (aside : Bool) (file : ℕ) (offence : Offence) : Type 0 where
  pub is_one : IsOffenceOf t aside file offence
  pub first : (place rule : ℕ) → HasOffence t aside place rule → IsNotAfter is_one.place offence.rule place rule
