-- The elements of a merged ODD that stand for the edits of attributes. They are written as edits, and never laid over what is inherited.
use Rattle.std.specs.Prelude.{ℕ, Bool, true, false, List, [], ◌∷◌, map, Option, Some, None, codes}
use Rattle.std.specs.Option.{option_map}
use Rattle.odd_tree.specs.Markup.{Markup, line}
use Rattle.rng_types.specs.declared.val_list.ListKind.{ListKind}
use Rattle.odd_attributes.specs.declared.att_def.AttDef.{AttDef}
use Rattle.odd_attributes.specs.declared.att_def.Datatype.{Datatype}
use Rattle.odd_attributes.specs.declared.att_edit.AttEdit.{AttEdit}
use Rattle.odd_attributes.specs.declared.att_edit.AttEdit.TheVariants as edit
use Rattle.odd_attributes.specs.declared.att_edit.AttFields.{AttFields}
use Rattle.odd_attributes.specs.declared.val_edit.ValEdit.{ValEdit}
use Rattle.odd_attributes.specs.declared.val_edit.ValEdit.TheVariants as vals
use Rattle.odd_emit.specs.Contents.{bounds_said, item_markup, list_markup, list_word, mode_said}
use Rattle.odd_emit.specs.Saying.{Said, Value, a_name, a_text, a_word, present, says, says_if, spoken}

-- the name in documents
abbrev pub alt_markup : Option (List ℕ) → Option Markup
alt_markup = option_map (line (codes "altIdent") [])

-- a `datatype` holds one reference
abbrev pub datatype_markup : Datatype → Markup
datatype_markup d = spoken (codes "datatype") (bounds_said d.bounds) (item_markup d.item ∷ [])

-- a value that a changed list is given, or that is taken from it
abbrev pub mark_word : Bool → List ℕ
mark_word true = codes "add"
mark_word false = codes "delete"

abbrev pub mark_markup : List ℕ × Bool → Markup
mark_markup mark = spoken (codes "valItem") (says (codes "ident") (a_text mark.0) ∷ mode_said (mark_word mark.1) ∷ []) []

abbrev pub kind_value : Option ListKind → Option Value
kind_value = option_map (λ k. a_word (list_word k))

abbrev pub vals_markup : ValEdit → Markup
vals_markup (vals.Set values) = list_markup values
vals_markup (vals.Change kind marks) = spoken (codes "valList") (says_if (codes "type") (kind_value kind) ∷ mode_said (codes "change") ∷ []) (map mark_markup marks)
vals_markup vals.Delete = spoken (codes "valList") (mode_said (codes "delete") ∷ []) []

-- whether an element has to have the attribute
abbrev pub usage_word : Bool → List ℕ
usage_word true = codes "req"
usage_word false = codes "opt"

abbrev pub usage_value : Bool → Value
usage_value needed = a_word (usage_word needed)

abbrev pub ident_said : List ℕ → Said
ident_said ident = says (codes "ident") (a_name ident)

abbrev pub ns_said : Option (List ℕ) → Said
ns_said ns = says_if (codes "ns") (option_map a_text ns)

-- a definition in place of any before it
abbrev pub set_markup : List ℕ → AttDef → Markup
set_markup ident def =
    spoken (codes "attDef") (ident_said ident ∷ mode_said (codes "add") ∷ says (codes "usage") (usage_value def.needed) ∷ ns_said def.ns ∷ [])
    (present (alt_markup def.alt ∷ option_map datatype_markup def.datatype ∷ option_map list_markup def.vals ∷ []))

-- some fields put into the one before it
abbrev pub change_markup : List ℕ → AttFields → Markup
change_markup ident fields =
    spoken (codes "attDef") (ident_said ident ∷ mode_said (codes "change") ∷ says_if (codes "usage") (option_map usage_value fields.needed) ∷ ns_said fields.ns ∷ [])
    (present (alt_markup fields.alt ∷ option_map datatype_markup fields.datatype ∷ option_map vals_markup fields.vals ∷ []))

abbrev pub edit_markup : List ℕ × AttEdit → Markup
edit_markup (ident, edit.Set def) = set_markup ident def
edit_markup (ident, edit.Change fields) = change_markup ident fields
edit_markup (ident, edit.Delete) = spoken (codes "attDef") (ident_said ident ∷ mode_said (codes "delete") ∷ []) []

-- the edits of a component, where there is one
abbrev pub edits_markup : List (List ℕ × AttEdit) → Option Markup
edits_markup [] = None
edits_markup (edit ∷ edits) = Some (spoken (codes "attList") [] (map edit_markup (edit ∷ edits)))
