-- Attributes, and edits of them.
use Rattle.std.specs.Prelude.{◌≡◌, ℕ, List, [], Option, Some, None, unwrap_or, refl}
use Rattle.std.proofs.Common.{ap}
use Rattle.std.proofs.lemmas.Cmp.{nat_list_cmp_total}
use Rattle.std.specs.FinMap.{slice_cmp-IsAntisymmetric, nat_cmp-IsAntisymmetric}
use Rattle.odd_text.specs.Text.{text_cmp}
use Rattle.odd_overlay.specs.Overlaid.{joined_at, joined_maps, laid_at, laid_maps, maps_one_by_one, maps_regrouped, one_by_one_at, regrouped_at}
use Rattle.odd_overlay.specs.Tabled.{or_else}
use Rattle.odd_attributes.specs.Values.{or_else_assoc, unwrap_or_else, val_joined, val_laid, val_one_by_one, val_regrouped}
use Rattle.odd_attributes.specs.declared.att_def.AttDef.{AttDef}
use Rattle.odd_attributes.specs.declared.att_edit.AttFields.{AttFields}
use Rattle.odd_attributes.specs.declared.att_edit.AttEdit.{AttEdit}
use Rattle.odd_attributes.specs.declared.att_edit.AttEdit.TheVariants.{Set, Change, Delete}

-- the definition with the fields put where they are given, and its list edited
abbrev pub def_changed : AttFields → AttDef → AttDef
def_changed fields def = record {
  alt = or_else fields.alt def.alt;
  ns = or_else fields.ns def.ns;
  needed = unwrap_or fields.needed def.needed;
  datatype = or_else fields.datatype def.datatype;
  vals = laid_at val_laid fields.vals def.vals;
}

-- the later fields where they are given, and the edits of the list as one
abbrev pub fields_joined : AttFields → AttFields → AttFields
fields_joined earlier later = record {
  alt = or_else later.alt earlier.alt;
  ns = or_else later.ns earlier.ns;
  needed = or_else later.needed earlier.needed;
  datatype = or_else later.datatype earlier.datatype;
  vals = joined_at val_joined earlier.vals later.vals;
}

-- two edits of an attribute as one
abbrev pub att_joined : AttEdit → AttEdit → AttEdit
att_joined a (Set def) = Set def
att_joined a Delete = Delete
att_joined (Set def) (Change fields) = Set (def_changed fields def)
att_joined (Change before) (Change fields) = Change (fields_joined before fields)
att_joined Delete (Change fields) = Delete

-- what an edit makes of a definition, or of none
abbrev pub att_laid : AttEdit → Option AttDef → Option AttDef
att_laid (Set def) there = Some def
att_laid Delete there = None
att_laid (Change fields) None = None
att_laid (Change fields) (Some def) = Some (def_changed fields def)

-- to change a definition twice is to change it once by both
changed_twice : (f g : AttFields) (def : AttDef) → def_changed g (def_changed f def) ≡ def_changed (fields_joined f g) def
changed_twice f g def = λ i. record {
  alt = or_else_assoc g.alt f.alt def.alt i;
  ns = or_else_assoc g.ns f.ns def.ns i;
  needed = unwrap_or_else g.needed f.needed def.needed i;
  datatype = or_else_assoc g.datatype f.datatype def.datatype i;
  vals = one_by_one_at val_joined val_laid val_one_by_one f.vals g.vals def.vals i;
}

-- three changes are one, however they are grouped
fields_regrouped : (f g h : AttFields) → fields_joined (fields_joined f g) h ≡ fields_joined f (fields_joined g h)
fields_regrouped f g h = λ i. record {
  alt = or_else_assoc h.alt g.alt f.alt i;
  ns = or_else_assoc h.ns g.ns f.ns i;
  needed = or_else_assoc h.needed g.needed f.needed i;
  datatype = or_else_assoc h.datatype g.datatype f.datatype i;
  vals = regrouped_at val_joined val_regrouped f.vals g.vals h.vals i;
}

-- to lay one edit and then another is to lay the two as one
pub att_one_by_one : (a b : AttEdit) (x : Option AttDef) → att_laid b (att_laid a x) ≡ att_laid (att_joined a b) x
att_one_by_one a (Set def) x = refl
att_one_by_one a Delete x = refl
att_one_by_one (Set def) (Change fields) x = refl
att_one_by_one Delete (Change fields) x = refl
att_one_by_one (Change f) (Change g) None = refl
att_one_by_one (Change f) (Change g) (Some def) = ap Some (changed_twice f g def)

-- three edits are one, however they are grouped
pub att_regrouped : (a b c : AttEdit) → att_joined (att_joined a b) c ≡ att_joined a (att_joined b c)
att_regrouped a b (Set def) = refl
att_regrouped a b Delete = refl
att_regrouped a (Set def) (Change fields) = refl
att_regrouped a Delete (Change fields) = refl
att_regrouped (Set def) (Change f) (Change g) = ap Set (changed_twice f g def)
att_regrouped (Change e) (Change f) (Change g) = ap Change (fields_regrouped e f g)
att_regrouped Delete (Change f) (Change g) = refl

-- edits by ident, of which two at one ident are one
abbrev pub atts_joined : List (List ℕ × AttEdit) → List (List ℕ × AttEdit) → List (List ℕ × AttEdit)
atts_joined earlier later = joined_maps text_cmp att_joined earlier later

-- the definitions, where there are none the empty map, with those edits laid over
abbrev pub atts_laid : List (List ℕ × AttEdit) → Option (List (List ℕ × AttDef)) → Option (List (List ℕ × AttDef))
atts_laid edits there = Some (laid_maps text_cmp att_laid edits (unwrap_or there []))

-- to lay one map of edits and then another is to lay the two as one
pub atts_one_by_one : (a b : List (List ℕ × AttEdit)) (x : Option (List (List ℕ × AttDef))) → atts_laid b (atts_laid a x) ≡ atts_laid (atts_joined a b) x
atts_one_by_one a b x = ap Some (maps_one_by_one text_cmp nat_list_cmp_total (slice_cmp-IsAntisymmetric nat_cmp-IsAntisymmetric) att_joined att_laid att_one_by_one a b (unwrap_or x []))

-- three maps of edits are one, however they are grouped
pub atts_regrouped : (a b c : List (List ℕ × AttEdit)) → atts_joined (atts_joined a b) c ≡ atts_joined a (atts_joined b c)
atts_regrouped a b c = maps_regrouped text_cmp nat_list_cmp_total (slice_cmp-IsAntisymmetric nat_cmp-IsAntisymmetric) att_joined att_regrouped a b c
