-- What holds of each attribute, of each edit of one, and of each list of attributes that an ODD file gives which breaks no rule.
use Rattle.std.specs.Prelude.{◌≡◌, ℕ, List, Some, IsTrue}
use Rattle.std.specs.FinMap.{find, is_sorted}
use Rattle.std.specs.Option.{IfSome}
use Rattle.odd_text.specs.Text.{text_cmp}
use Rattle.odd_tokens.specs.Characters.{IsLegal}
use Rattle.rng_types.specs.Bounds.{IsFormedBounds}
use Rattle.odd_forms.specs.Form.{IsAttributeName}
use Rattle.odd_content.specs.FormedData.{AreValueMarks, IsFormedData, IsFormedList}
use Rattle.odd_attributes.specs.declared.att_def.AttDef.{AttDef}
use Rattle.odd_attributes.specs.declared.att_def.Datatype.{Datatype}
use Rattle.odd_attributes.specs.declared.att_edit.AttEdit.{AttEdit}
use Rattle.odd_attributes.specs.declared.att_edit.AttEdit.TheVariants as edit
use Rattle.odd_attributes.specs.declared.att_edit.AttFields.{AttFields}
use Rattle.odd_attributes.specs.declared.val_edit.ValEdit.{ValEdit}
use Rattle.odd_attributes.specs.declared.val_edit.ValEdit.TheVariants as vals

pub record IsFormedDatatype (d : Datatype) : Type 0 where
  pub item : IsFormedData d.item
  pub bounds : IsFormedBounds d.bounds

abbrev pub IsFormedValEdit : ValEdit → Type 0
IsFormedValEdit (vals.Set list) = IsFormedList list
IsFormedValEdit (vals.Change kind marks) = AreValueMarks marks
IsFormedValEdit vals.Delete = Unit {0}

pub record IsFormedDef (def : AttDef) : Type 0 where
  pub alt : IfSome def.alt IsAttributeName
  pub ns : IfSome def.ns IsLegal
  pub datatype : IfSome def.datatype IsFormedDatatype
  pub vals : IfSome def.vals IsFormedList

pub record AreFormedFields (fields : AttFields) : Type 0 where
  pub alt : IfSome fields.alt IsAttributeName
  pub ns : IfSome fields.ns IsLegal
  pub datatype : IfSome fields.datatype IsFormedDatatype
  pub vals : IfSome fields.vals IsFormedValEdit

abbrev pub IsFormedEdit : AttEdit → Type 0
IsFormedEdit (edit.Set def) = IsFormedDef def
IsFormedEdit (edit.Change fields) = AreFormedFields fields
IsFormedEdit edit.Delete = Unit {0}

-- a finite map from idents of attributes to edits
pub record AreFormedEdits (edits : List (List ℕ × AttEdit)) : Type 0 where
  pub rising : IsTrue (is_sorted text_cmp edits)
  pub each : (ident : List ℕ) (made : AttEdit) → find text_cmp ident edits ≡ Some made → IsAttributeName ident × IsFormedEdit made
