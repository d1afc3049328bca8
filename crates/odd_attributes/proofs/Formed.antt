-- Two lists of attributes of which each breaks no rule break none as one.
use Rattle.std.proofs.Common.{◌≡◌, ℕ, Bool, List, Option, Some, None, refl, subst, sym, ◌∙◌}
use Rattle.std.proofs.lemmas.Cmp.{nat_list_cmp_total}
use Rattle.std.specs.FinMap.{find, nat_cmp-IsAntisymmetric, slice_cmp-IsAntisymmetric}
use Rattle.std.specs.Option.{IfSome}
use Rattle.odd_text.specs.Text.{text_cmp}
use Rattle.odd_tokens.specs.Characters.{IsLegal}
use Rattle.odd_content.specs.FormedData.{AreValueMarks, IsFormedList, IsListed}
use Rattle.odd_forms.specs.Form.{IsAttributeName}
use Rattle.odd_overlay.proofs.Laid.{laid_keyed, laid_set, or_else_holds, zipped_keyed, zipped_rises}
use Rattle.odd_overlay.specs.Marks.{mark_joined, marks_joined}
use Rattle.odd_overlay.specs.Overlaid.{find_joined, joined_at, laid_at}
use Rattle.rng_types.specs.declared.val_list.ListKind.{ListKind}
use Rattle.rng_types.specs.declared.val_list.ValList.{ValList}
use Rattle.odd_attributes.specs.Attributes.{att_joined, atts_joined, def_changed, fields_joined}
use Rattle.odd_attributes.specs.Formed.{AreFormedEdits, AreFormedFields, IsFormedDatatype, IsFormedDef, IsFormedEdit, IsFormedValEdit}
use Rattle.odd_attributes.specs.Values.{val_changed, val_joined, val_laid}
use Rattle.odd_attributes.specs.declared.att_def.AttDef.{AttDef}
use Rattle.odd_attributes.specs.declared.att_edit.AttEdit.{AttEdit}
use Rattle.odd_attributes.specs.declared.att_edit.AttEdit.TheVariants as edit
use Rattle.odd_attributes.specs.declared.att_edit.AttFields.{AttFields}
use Rattle.odd_attributes.specs.declared.val_edit.ValEdit.{ValEdit}
use Rattle.odd_attributes.specs.declared.val_edit.ValEdit.TheVariants as vals

list_formed : (k : Option ListKind) (marks : List (List ℕ × Bool)) (list : ValList) → AreValueMarks marks → IsFormedList list → IsFormedList (val_changed k marks list)
list_formed k marks list marked formed = record { rising = (laid_set marks list.values).rising; listed = laid_keyed IsListed marks list.values marked.1 formed.listed }

marks_formed : (a b : List (List ℕ × Bool)) → AreValueMarks a → AreValueMarks b → AreValueMarks (marks_joined a b)
marks_formed a b h k = (zipped_rises (joined_at mark_joined) a b, zipped_keyed text_cmp (joined_at mark_joined) IsListed a b h.1 k.1)

-- edits of a list of values as one
vals_formed : (a b : ValEdit) → IsFormedValEdit a → IsFormedValEdit b → IsFormedValEdit (val_joined a b)
vals_formed a (vals.Set list) h k = k
vals_formed a vals.Delete h k = tt
vals_formed (vals.Set list) (vals.Change l marks) h k = list_formed l marks list k h
vals_formed (vals.Change j before) (vals.Change l marks) h k = marks_formed before marks h k
vals_formed vals.Delete (vals.Change l marks) h k = tt

both_formed : (a b : Option ValEdit) → IfSome a IsFormedValEdit → IfSome b IsFormedValEdit → IfSome (joined_at val_joined a b) IsFormedValEdit
both_formed None b h k = k
both_formed (Some a) None h k = h
both_formed (Some a) (Some b) h k = vals_formed a b h k

-- an edit over a list
pub laid_formed : (a : Option ValEdit) (list : Option ValList) → IfSome a IsFormedValEdit → IfSome list IsFormedList → IfSome (laid_at val_laid a list) IsFormedList
laid_formed None list h k = k
laid_formed (Some (vals.Set made)) list h k = h
laid_formed (Some vals.Delete) list h k = tt
laid_formed (Some (vals.Change l marks)) None h k = tt
laid_formed (Some (vals.Change l marks)) (Some list) h k = list_formed l marks list h k

pub def_formed : (fields : AttFields) (def : AttDef) → AreFormedFields fields → IsFormedDef def → IsFormedDef (def_changed fields def)
def_formed fields def h k = record {
  alt = or_else_holds IsAttributeName fields.alt def.alt h.alt k.alt;
  ns = or_else_holds IsLegal fields.ns def.ns h.ns k.ns;
  datatype = or_else_holds IsFormedDatatype fields.datatype def.datatype h.datatype k.datatype;
  vals = laid_formed fields.vals def.vals h.vals k.vals;
}

fields_formed : (a b : AttFields) → AreFormedFields a → AreFormedFields b → AreFormedFields (fields_joined a b)
fields_formed a b h k = record {
  alt = or_else_holds IsAttributeName b.alt a.alt k.alt h.alt;
  ns = or_else_holds IsLegal b.ns a.ns k.ns h.ns;
  datatype = or_else_holds IsFormedDatatype b.datatype a.datatype k.datatype h.datatype;
  vals = both_formed a.vals b.vals h.vals k.vals;
}

-- edits of an attribute as one
edits_formed : (a b : AttEdit) → IsFormedEdit a → IsFormedEdit b → IsFormedEdit (att_joined a b)
edits_formed a (edit.Set def) h k = k
edits_formed a edit.Delete h k = tt
edits_formed (edit.Set def) (edit.Change fields) h k = def_formed fields def k h
edits_formed (edit.Change before) (edit.Change fields) h k = fields_formed before fields h k
edits_formed edit.Delete (edit.Change fields) h k = tt

pub joined_formed : (a b : List (List ℕ × AttEdit)) → AreFormedEdits a → AreFormedEdits b → AreFormedEdits (atts_joined a b)
joined_formed a b h k = record {
  rising = zipped_rises (joined_at att_joined) a b;
  each = λ ident made e.
      by ident made (find text_cmp ident a) (find text_cmp ident b) (h.each ident) (k.each ident)
      (sym (find_joined text_cmp nat_list_cmp_total (slice_cmp-IsAntisymmetric nat_cmp-IsAntisymmetric) att_joined a b ident) ∙ e);
}
  where
    Formed : List ℕ → AttEdit → Type 0
    Formed ident made = IsAttributeName ident × IsFormedEdit made

    by : (ident : List ℕ) (made : AttEdit) (o p : Option AttEdit) → ((m : AttEdit) → o ≡ Some m → Formed ident m) → ((m : AttEdit) → p ≡ Some m → Formed ident m)
        → joined_at att_joined o p ≡ Some made → Formed ident made
    by ident made None p one other e = other made e
    by ident made (Some x) None one other e = one made e
    by ident made (Some x) (Some y) one other e =
        let is : att_joined x y ≡ made = cc in
        let f = one x refl in
        let g = other y refl in
        (f.0, subst IsFormedEdit is (edits_formed x y f.1 g.1))
