-- An `attDef` that is printed of an edit of an attribute is read as it, and breaks nothing.
use Rattle.std.proofs.Common.{◌≡◌, ℕ, Bool, true, false, List, [], ◌∷◌, Option, Some, None, refl, sym, ap, subst, ◌∙◌}
use Rattle.std.specs.Prelude.{IsTrue, codes, unwrap_or}
use Rattle.std.specs.Option.{IfSome, option_map}
use Rattle.odd_tokens.proofs.Ascii.{is_printable}
use Rattle.odd_tokens.specs.Characters.{IsLegal}
use Rattle.odd_text.specs.Same.{is_same}
use Rattle.odd_tree.specs.Elements.{children_of, given}
use Rattle.odd_tree.specs.Markup.{Markup}
use Rattle.odd_tree.specs.declared.tree.Tree.{Tree}
use Rattle.odd_tree.proofs.PrintedTrees.{IsPlain, Shows}
use Rattle.rng_types.specs.declared.val_list.ValList.{ValList}
use Rattle.rng_values.specs.Treated.{collapsed_text}
use Rattle.odd_forms.specs.Form.{IsAttributeName, Suits}
use Rattle.odd_forms.specs.Form as kinds
use Rattle.odd_forms.specs.Names.{first_named, tei, tei_namespace}
use Rattle.odd_forms.specs.Table.{form_at}
use Rattle.odd_forms.specs.Texts.{collapsed_in}
use Rattle.odd_text.specs.Same.{is_among}
use Rattle.odd_forms.specs.declared.element.Element.TheVariants as kind
use Rattle.odd_content.specs.FormedData.{IsFormedList}
use Rattle.odd_overlay.specs.Overlaid.{laid_at}
use Rattle.odd_attributes.specs.declared.att_def.AttDef.{AttDef}
use Rattle.odd_attributes.specs.declared.att_def.Datatype.{Datatype}
use Rattle.odd_attributes.specs.declared.att_edit.AttEdit.{AttEdit}
use Rattle.odd_attributes.specs.declared.att_edit.AttEdit.TheVariants as edit
use Rattle.odd_attributes.specs.declared.att_edit.AttFields.{AttFields}
use Rattle.odd_attributes.specs.declared.val_edit.ValEdit.{ValEdit}
use Rattle.odd_attributes.specs.declared.val_edit.ValEdit.TheVariants as list
use Rattle.odd_attributes.specs.Formed.{AreFormedFields, IsFormedDatatype, IsFormedDef, IsFormedEdit, IsFormedValEdit}
use Rattle.odd_attributes.specs.Giving.{alt_given, datatype_given, datatype_in, def_of, edit_of, fields_of, usage_given, val_edit_given, val_edit_of}
use Rattle.odd_attributes.specs.Values.{val_laid}
use Rattle.odd_emit.specs.Attributes.{alt_markup, datatype_markup, edit_markup, ident_said, ns_said, set_markup, usage_value, vals_markup}
use Rattle.odd_emit.specs.Contents.{list_markup, mode_said}
use Rattle.odd_emit.specs.Saying.{Said, a_text, present, says_if, spoken, written}
use Rattle.merged_laws.proofs.Datatypes.{datatype_back, datatype_plain, datatype_sound}
use Rattle.merged_laws.proofs.Fits.{IsFormedIfThere, child_called, fits}
use Rattle.merged_laws.proofs.Lines.{line_plain, line_sound, line_told, word_collapsed}
use Rattle.merged_laws.proofs.Present.{AreNamed, IfThere, IsFoundAs, IsReadBy, all_present, first_gives, first_present, once_present}
use Rattle.merged_laws.proofs.Says.{IsPlaced, IsSound, Says, says_plain, says_told, sound}
use Rattle.merged_laws.proofs.Told.{IsTold, name_of}
use Rattle.merged_laws.proofs.ValueEdits.{by_mode, modes, vals_back, vals_named, vals_plain, vals_sound}
use Rattle.merged_laws.proofs.Values.{attribute_word}

-- A definition is written as the fields that it gives, all of them

abbrev fields_set : AttDef → AttFields
fields_set def = record { alt = def.alt; ns = def.ns; needed = Some def.needed; datatype = def.datatype; vals = option_map (λ l. list.Set l) def.vals }

abbrev fields_said : List ℕ → List ℕ → AttFields → List Said
fields_said ident mode fields = ident_said ident ∷ mode_said mode ∷ says_if (codes "usage") (option_map usage_value fields.needed) ∷ ns_said fields.ns ∷ []

abbrev fields_held : AttFields → List (Option Markup)
fields_held fields = alt_markup fields.alt ∷ option_map datatype_markup fields.datatype ∷ option_map vals_markup fields.vals ∷ []

abbrev fields_markup : List ℕ → List ℕ → AttFields → Markup
fields_markup ident mode fields = spoken (codes "attDef") (fields_said ident mode fields) (present (fields_held fields))

lists_same : (l : Option ValList) → option_map list_markup l ≡ option_map vals_markup (option_map (λ x. list.Set x) l)
lists_same None = refl
lists_same (Some l) = refl

set_same : (ident : List ℕ) (def : AttDef) → set_markup ident def ≡ fields_markup ident (codes "add") (fields_set def)
set_same ident def =
    ap (λ m. spoken (codes "attDef") (fields_said ident (codes "add") (fields_set def)) (present (alt_markup def.alt ∷ option_map datatype_markup def.datatype ∷ m ∷ []))) (lists_same def.vals)

lists_formed : (l : Option ValList) → IfSome l IsFormedList → IfSome (option_map (λ x. list.Set x) l) IsFormedValEdit
lists_formed None h = h
lists_formed (Some l) h = h

set_formed : (def : AttDef) → IsFormedDef def → AreFormedFields (fields_set def)
set_formed def f = record { alt = f.alt; ns = f.ns; datatype = f.datatype; vals = lists_formed def.vals f.vals }

-- and the definition is made of these again
abbrev def_by : AttFields → AttDef
def_by fields = record { alt = fields.alt; ns = fields.ns; needed = unwrap_or fields.needed false; datatype = fields.datatype; vals = laid_at val_laid fields.vals None }

lists_laid : (l : Option ValList) → laid_at val_laid (option_map (λ x. list.Set x) l) None ≡ l
lists_laid None = refl
lists_laid (Some l) = refl

set_again : (def : AttDef) → def_by (fields_set def) ≡ def
set_again def = λ i. record { alt = def.alt; ns = def.ns; needed = def.needed; datatype = def.datatype; vals = lists_laid def.vals i }

-- What is said of it

usage_right : (ident mode : List ℕ) (usage : Option Bool) (ns : Option (List ℕ))
    → fits (form_at kind.AttDef) (ident_said ident ∷ mode_said mode ∷ says_if (codes "usage") (option_map usage_value usage) ∷ ns_said ns ∷ []) ≡ true
usage_right ident mode None ns = refl
usage_right ident mode (Some true) ns = refl
usage_right ident mode (Some false) ns = refl

usage_formed : (usage : Option Bool) → IsFormedIfThere (kinds.one_of (codes "req" ∷ codes "rec" ∷ codes "opt" ∷ [])) (option_map usage_value usage)
usage_formed None = tt
usage_formed (Some true) = (refl, refl)
usage_formed (Some false) = (refl, refl)

usage_back : (usage : Option Bool) → option_map (λ word. is_same word (codes "req")) (option_map written (option_map usage_value usage)) ≡ usage
usage_back None = refl
usage_back (Some true) = refl
usage_back (Some false) = refl

ns_formed : (ns : Option (List ℕ)) → IfSome ns IsLegal → IsFormedIfThere kinds.text (option_map a_text ns)
ns_formed None h = tt
ns_formed (Some x) h = h

ns_back : (ns : Option (List ℕ)) → option_map written (option_map a_text ns) ≡ ns
ns_back None = refl
ns_back (Some x) = refl

-- What is in it, each in its place

abbrev places : List (List ℕ)
places = codes "altIdent" ∷ codes "datatype" ∷ codes "valList" ∷ []

-- the name in documents
alt_named : (alt : Option (List ℕ)) → IfThere (λ m. name_of m ≡ codes "altIdent") (alt_markup alt)
alt_named None = tt
alt_named (Some name) = refl

alt_plain : (alt : Option (List ℕ)) → IfSome alt IsAttributeName → IfThere IsPlain (alt_markup alt)
alt_plain None h = tt
alt_plain (Some name) h = line_plain kind.AttAltIdent name (attribute_word name h).legal

alt_placed : (left : ℕ) (alt : Option (List ℕ)) → IfSome alt IsAttributeName → IfThere (IsPlaced kind.AttDef left) (alt_markup alt)
alt_placed left None h = tt
alt_placed left (Some name) h =
    let suits : Suits kinds.attribute_name (collapsed_text name) = subst IsAttributeName (sym (word_collapsed name (attribute_word name h))) h in
    (kind.AttAltIdent, refl, line_sound kind.AttAltIdent kinds.attribute_name name refl refl refl refl suits left refl)

alt_read : (alt : Option (List ℕ)) → IfSome alt IsAttributeName → IsReadBy collapsed_in (alt_markup alt) alt
alt_read None h = refl
alt_read (Some name) h = (name, refl, λ u s. ap collapsed_text (line_told (codes "altIdent") name u s).content_is ∙ word_collapsed name (attribute_word name h))

-- the datatype
datatype_named : (d : Option Datatype) → IfThere (λ m. name_of m ≡ codes "datatype") (option_map datatype_markup d)
datatype_named None = tt
datatype_named (Some d) = refl

datatype_well : (d : Option Datatype) → IfSome d IsFormedDatatype → IfThere IsPlain (option_map datatype_markup d)
datatype_well None f = tt
datatype_well (Some d) f = datatype_plain d f

datatype_placed : (left : ℕ) (d : Option Datatype) → IfSome d IsFormedDatatype → IfThere (IsPlaced kind.AttDef left) (option_map datatype_markup d)
datatype_placed left None f = tt
datatype_placed left (Some d) f = (kind.Datatype, refl, datatype_sound d f left)

datatype_read : (d : Option Datatype) → IfSome d IsFormedDatatype → (ts : List Tree) (found : Option Tree) → IsFoundAs (codes "datatype") ts (option_map datatype_markup d) found → datatype_in found ≡ d
datatype_read None f ts found is = ap datatype_in is
datatype_read (Some d) f ts found is = ap datatype_in is.1 ∙ datatype_back d f is.0 is.3

-- the list of values
list_named : (v : Option ValEdit) → IfThere (λ m. name_of m ≡ codes "valList") (option_map vals_markup v)
list_named None = tt
list_named (Some v) = vals_named v

list_well : (v : Option ValEdit) → IfSome v IsFormedValEdit → IfThere IsPlain (option_map vals_markup v)
list_well None f = tt
list_well (Some v) f = vals_plain v f

list_placed : (left : ℕ) (v : Option ValEdit) → IfSome v IsFormedValEdit → IfThere (IsPlaced kind.AttDef left) (option_map vals_markup v)
list_placed left None f = tt
list_placed left (Some v) f = (kind.AttValList, ap (λ name. child_called kind.AttDef (tei name)) (vals_named v), vals_sound left v f)

list_read : (v : Option ValEdit) → IfSome v IsFormedValEdit → IsReadBy val_edit_of (option_map vals_markup v) v
list_read None f = refl
list_read (Some v) f = (v, refl, λ u s. vals_back v u f s)

-- An edit that gives fields

module _ (ident mode : List ℕ) (fields : AttFields) (name : IsAttributeName ident) (known : IsTrue (is_among modes mode)) (printable : IsTrue (is_printable mode)) (f : AreFormedFields fields) where
  held_named : AreNamed places (fields_held fields)
  held_named = (alt_named fields.alt, (datatype_named fields.datatype, (list_named fields.vals, tt)))

  fields_says : Says kind.AttDef (fields_said ident mode fields) (present (fields_held fields))
  fields_says = record {
    sayable = refl;
    right = usage_right ident mode fields.needed fields.ns;
    formed = (name, ((known, printable), (usage_formed fields.needed, (ns_formed fields.ns f.ns, tt))));
    met = λ binds. tt;
    few = once_present (form_at kind.AttDef).once places (fields_held fields) held_named refl;
  }

  fields_plain : IsPlain (fields_markup ident mode fields)
  fields_plain =
      says_plain kind.AttDef (fields_said ident mode fields) (present (fields_held fields)) fields_says
      (all_present IsPlain (fields_held fields) (alt_plain fields.alt f.alt, (datatype_well fields.datatype f.datatype, (list_well fields.vals f.vals, tt))))

  fields_sound : (left : ℕ) → IsSound kind.AttDef left (fields_markup ident mode fields)
  fields_sound left =
      sound kind.AttDef left (fields_said ident mode fields) (present (fields_held fields)) fields_says (λ e none. cc)
      (all_present (IsPlaced kind.AttDef left) (fields_held fields)
      (alt_placed left fields.alt f.alt, (datatype_placed left fields.datatype f.datatype, (list_placed left fields.vals f.vals, tt))))

  fields_told : (t : Tree) → Shows tei_namespace [] (fields_markup ident mode fields) t → IsTold (codes "attDef") (fields_said ident mode fields) (present (fields_held fields)) t
  fields_told t s = says_told kind.AttDef (fields_said ident mode fields) (present (fields_held fields)) t fields_says s

  -- a tree that shows it gives them
  module _ (t : Tree) (told : IsTold (codes "attDef") (fields_said ident mode fields) (present (fields_held fields)) t) where
    alt_back : alt_given t ≡ fields.alt
    alt_back = first_gives collapsed_in (codes "altIdent") places (fields_held fields) t fields.alt held_named refl told.children (alt_read fields.alt f.alt)

    datatype_is : datatype_given t ≡ fields.datatype
    datatype_is =
        datatype_read fields.datatype f.datatype (children_of t) (first_named (codes "datatype") t)
        (first_present (codes "datatype") places (fields_held fields) (children_of t) held_named refl told.children)

    list_is : val_edit_given t ≡ fields.vals
    list_is = first_gives val_edit_of (codes "valList") places (fields_held fields) t fields.vals held_named refl told.children (list_read fields.vals f.vals)

    usage_is : usage_given t ≡ fields.needed
    usage_is = ap (option_map (λ word. is_same word (codes "req"))) (told.given (codes "usage")) ∙ usage_back fields.needed

    ns_is : given t (codes "ns") ≡ fields.ns
    ns_is = told.given (codes "ns") ∙ ns_back fields.ns

    fields_back : fields_of t ≡ fields
    fields_back = λ i. record { alt = alt_back i; ns = ns_is i; needed = usage_is i; datatype = datatype_is i; vals = list_is i }

-- An edit that deletes

abbrev delete_said : List ℕ → List Said
delete_said ident = ident_said ident ∷ mode_said (codes "delete") ∷ []

delete_says : (ident : List ℕ) → IsAttributeName ident → Says kind.AttDef (delete_said ident) []
delete_says ident name = record { sayable = refl; right = refl; formed = (name, ((refl, refl), tt)); met = λ binds. tt; few = once_present (form_at kind.AttDef).once [] [] tt refl }

-- Each edit

-- its markup is plain
pub edit_plain : (ident : List ℕ) (e : AttEdit) → IsAttributeName ident → IsFormedEdit e → IsPlain (edit_markup (ident, e))
edit_plain ident (edit.Set def) name f = subst IsPlain (sym (set_same ident def)) (fields_plain ident (codes "add") (fields_set def) name refl refl (set_formed def f))
edit_plain ident (edit.Change fields) name f = fields_plain ident (codes "change") fields name refl refl f
edit_plain ident edit.Delete name f = says_plain kind.AttDef (delete_said ident) [] (delete_says ident name) tt

-- it breaks nothing
pub edit_sound : (left : ℕ) (ident : List ℕ) (e : AttEdit) → IsAttributeName ident → IsFormedEdit e → IsSound kind.AttDef left (edit_markup (ident, e))
edit_sound left ident (edit.Set def) name f =
    subst (IsSound kind.AttDef left) (sym (set_same ident def)) (fields_sound ident (codes "add") (fields_set def) name refl refl (set_formed def f) left)
edit_sound left ident (edit.Change fields) name f = fields_sound ident (codes "change") fields name refl refl f left
edit_sound left ident edit.Delete name f = sound kind.AttDef left (delete_said ident) [] (delete_says ident name) (λ e none. cc) tt

-- what is told of a tree that shows a definition
set_told : (ident : List ℕ) (def : AttDef) (t : Tree) → IsAttributeName ident → IsFormedDef def → Shows tei_namespace [] (set_markup ident def) t
    → IsTold (codes "attDef") (fields_said ident (codes "add") (fields_set def)) (present (fields_held (fields_set def))) t
set_told ident def t name f s = fields_told ident (codes "add") (fields_set def) name refl refl (set_formed def f) t (subst (λ m. Shows tei_namespace [] m t) (set_same ident def) s)

-- a tree that shows an edit has its ident
pub edit_ident : (ident : List ℕ) (e : AttEdit) (t : Tree) → IsAttributeName ident → IsFormedEdit e → Shows tei_namespace [] (edit_markup (ident, e)) t → given t (codes "ident") ≡ Some ident
edit_ident ident (edit.Set def) t name f s = let told = set_told ident def t name f s in told.given (codes "ident")
edit_ident ident (edit.Change fields) t name f s = let told = fields_told ident (codes "change") fields name refl refl f t s in told.given (codes "ident")
edit_ident ident edit.Delete t name f s = let told = says_told kind.AttDef (delete_said ident) [] t (delete_says ident name) s in told.given (codes "ident")

-- and gives the edit
pub edit_back : (ident : List ℕ) (e : AttEdit) (t : Tree) → IsAttributeName ident → IsFormedEdit e → Shows tei_namespace [] (edit_markup (ident, e)) t → edit_of t ≡ e
edit_back ident (edit.Set def) t name f s =
    let told = set_told ident def t name f s in
    by_mode t (codes "add") edit.Delete (edit.Change (fields_of t)) (edit.Set (def_of t)) (told.given (codes "mode"))
    ∙ ap (λ fields. edit.Set (def_by fields)) (fields_back ident (codes "add") (fields_set def) name refl refl (set_formed def f) t told) ∙ ap (λ d. edit.Set d) (set_again def)
edit_back ident (edit.Change fields) t name f s =
    let told = fields_told ident (codes "change") fields name refl refl f t s in
    by_mode t (codes "change") edit.Delete (edit.Change (fields_of t)) (edit.Set (def_of t)) (told.given (codes "mode"))
    ∙ ap (λ x. edit.Change x) (fields_back ident (codes "change") fields name refl refl f t told)
edit_back ident edit.Delete t name f s =
    let told = says_told kind.AttDef (delete_said ident) [] t (delete_says ident name) s in
    by_mode t (codes "delete") edit.Delete (edit.Change (fields_of t)) (edit.Set (def_of t)) (told.given (codes "mode"))
