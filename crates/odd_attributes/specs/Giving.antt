-- The edits of attributes that an `attList` says (TEI Guidelines, the chapter Documentation Elements), and what it breaks.
use Rattle.std.specs.Prelude.{◌≡◌, ℕ, Bool, true, false, List, [], Option, Some, None, if◌then◌else◌, codes, unwrap_or}
use Rattle.std.specs.FinMap.{put}
use Rattle.std.specs.List.{fold}
use Rattle.std.specs.Option.{option_map}
use Rattle.odd_text.specs.Text.{text_cmp}
use Rattle.odd_text.specs.Same.{is_same}
use Rattle.odd_tree.specs.Elements.{given}
use Rattle.odd_tree.specs.declared.tree.Tree.{Tree, out-Tree}
use Rattle.odd_overlay.specs.Overlaid.{laid_at}
use Rattle.odd_forms.specs.Deep.{DeepFault}
use Rattle.odd_forms.specs.Listing.{Lists}
use Rattle.odd_forms.specs.Names.{first_named}
use Rattle.odd_forms.specs.Tags.{tags_in}
use Rattle.odd_forms.specs.Texts.{collapsed_in}
use Rattle.odd_forms.specs.declared.element.Element.TheVariants as element
use Rattle.odd_items.specs.Constraints.{IsConstraintIn}
use Rattle.odd_items.specs.Without.{IsWithout}
use Rattle.odd_content.specs.Items.{item_given}
use Rattle.odd_content.specs.Occurrence.{bounds_in}
use Rattle.odd_content.specs.Said.{SaysEach}
use Rattle.odd_content.specs.Values.{has_mode, kind_in, list_given, marks_in}
use Rattle.odd_attributes.specs.Values.{val_laid}
use Rattle.odd_attributes.specs.declared.att_def.AttDef.{AttDef}
use Rattle.odd_attributes.specs.declared.att_def.Datatype.{Datatype}
use Rattle.odd_attributes.specs.declared.att_edit.AttEdit.{AttEdit}
use Rattle.odd_attributes.specs.declared.att_edit.AttEdit.TheVariants as edit
use Rattle.odd_attributes.specs.declared.att_edit.AttFields.{AttFields}
use Rattle.odd_attributes.specs.declared.val_edit.ValEdit.{ValEdit}
use Rattle.odd_attributes.specs.declared.val_edit.ValEdit.TheVariants as vals

-- the `mode` of an element is this word
abbrev pub is_in_mode : List ℕ → Tree → Bool
is_in_mode word t = has_mode word (out-Tree t).attrs

-- the name in documents that an element gives, by its `altIdent`
abbrev pub alt_given : Tree → Option (List ℕ)
alt_given t = option_map collapsed_in (first_named (codes "altIdent") t)

-- a `datatype` whose `dataRef` says an item
abbrev pub datatype_by : Tree → Option Tree → Option Datatype
datatype_by d None = None
datatype_by d (Some ref) = option_map (λ item. record { item = item; bounds = bounds_in (out-Tree d).attrs }) (item_given ref)

abbrev pub datatype_in : Option Tree → Option Datatype
datatype_in None = None
datatype_in (Some d) = datatype_by d (first_named (codes "dataRef") d)

abbrev pub datatype_given : Tree → Option Datatype
datatype_given def = datatype_in (first_named (codes "datatype") def)

-- the edit of a list of values that a `valList` says
abbrev pub val_edit_of : Tree → ValEdit
val_edit_of list =
    if is_in_mode (codes "delete") list then vals.Delete else if is_in_mode (codes "change") list then vals.Change (kind_in (out-Tree list).attrs) (marks_in false (tags_in list))
    else vals.Set (list_given list)

abbrev pub val_edit_given : Tree → Option ValEdit
val_edit_given def = option_map val_edit_of (first_named (codes "valList") def)

-- whether an element has to have the attribute, where its `usage` is given
abbrev pub usage_given : Tree → Option Bool
usage_given def = option_map (λ word. is_same word (codes "req")) (given def (codes "usage"))

-- the definition that an `attDef` sets: its list of values is laid over none
abbrev pub def_of : Tree → AttDef
def_of def = record {
  alt = alt_given def;
  ns = given def (codes "ns");
  needed = unwrap_or (usage_given def) false;
  datatype = datatype_given def;
  vals = laid_at val_laid (val_edit_given def) None;
}

-- and what one gives that changes
abbrev pub fields_of : Tree → AttFields
fields_of def = record {
  alt = alt_given def;
  ns = given def (codes "ns");
  needed = usage_given def;
  datatype = datatype_given def;
  vals = val_edit_given def;
}

abbrev pub edit_of : Tree → AttEdit
edit_of def = if is_in_mode (codes "delete") def then edit.Delete else if is_in_mode (codes "change") def then edit.Change (fields_of def) else edit.Set (def_of def)

-- the edits with that of an `attDef`, where it has an ident
abbrev pub with_ident : Option (List ℕ) → AttEdit → List (List ℕ × AttEdit) → List (List ℕ × AttEdit)
with_ident None made edits = edits
with_ident (Some ident) made edits = put text_cmp ident made edits

abbrev pub with_definition : List (List ℕ × AttEdit) → Tree → List (List ℕ × AttEdit)
with_definition edits def = with_ident (given def (codes "ident")) (edit_of def) edits

abbrev pub edits_of : List Tree → List (List ℕ × AttEdit)
edits_of defs = fold with_definition [] defs

-- the ident of an `attDef`
abbrev pub ident_said : Tree → Option (List ℕ)
ident_said def = given def (codes "ident")

-- at each ident stands the edit that the last `attDef` of it in an `attList` says, and none at an ident that no `attDef` has
pub record SaysEachEdit (list : Tree) (edits : List (List ℕ × AttEdit)) : Type 0 where
  pub defs : List Tree
  pub listed : Lists list defs
  pub says : SaysEach ident_said edit_of defs edits

-- the edits of an `attList`, by the `attDef` in it
pub record AreEditsOf (list : Tree) (edits : List (List ℕ × AttEdit)) : Type 0 where
  pub defs : List Tree
  pub listed : Lists list defs
  pub are : edits ≡ edits_of defs

-- the list as it is read: whole, or with `aside` without the constraints that would break rule 2
pub data IsListRead (list : Tree) : Bool → Tree → Type 0 where
  whole : IsListRead list false list
  without : {left : Tree} {count : ℕ} → IsWithout (IsConstraintIn element.AttList list) list left count → IsListRead list true left

-- what an `attList` breaks as it is read, which the declarations around it do not touch
pub record AttListFault (list : Tree) (aside : Bool) (rule : ℕ) : Type 0 where
  pub read : Tree
  pub is_read : IsListRead list aside read
  pub breaks : DeepFault element.AttList 60 [] read rule

-- the edits that the `attList` of a declaration says, or none
abbrev pub AreEditsGiven : Option Tree → List (List ℕ × AttEdit) → Type 0
AreEditsGiven None edits = edits ≡ []
AreEditsGiven (Some list) edits = AreEditsOf list edits

-- and what they say at each ident
abbrev pub SaysEachGiven : Option Tree → List (List ℕ × AttEdit) → Type 0
SaysEachGiven None edits = edits ≡ []
SaysEachGiven (Some list) edits = SaysEachEdit list edits
