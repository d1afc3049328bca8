-- The edits that an `attList` gives which breaks no rule are formed.
use Rattle.std.proofs.Common.{◌≡◌, ℕ, Bool, true, false, ◌&&◌, if◌then◌else◌, List, [], ◌∷◌, ◌++◌, Option, Some, None, ⊎_elim, codes, drop, find, fold, take, refl, sym, ap, subst, ◌∙◌}
use Rattle.std.proofs.lemmas.Bool.{both_ways, cases_Bool, cond_both}
use Rattle.std.proofs.lemmas.Cmp.{nat_list_cmp_total}
use Rattle.std.proofs.lemmas.List.{take-append-drop}
use Rattle.std.proofs.lemmas.List.Elements.{Contains-append_cases}
use Rattle.std.proofs.lemmas.Map.Views.{tells_apart}
use Rattle.std.proofs.lemmas.Option.{same_Some}
use Rattle.std.specs.Cmp.Lexicographic.{same_text}
use Rattle.std.specs.FinMap.{nat_cmp-IsAntisymmetric, put, slice_cmp-IsAntisymmetric}
use Rattle.std.specs.FinMap as maps
use Rattle.std.specs.Option.{IfSome, option_map}
use Rattle.std.specs.Ordering.{eq_by_cmp}
use Rattle.odd_text.proofs.Entries.{put_rises, put_sets}
use Rattle.odd_text.specs.Text.{text_cmp}
use Rattle.odd_text.specs.declared.name.Name.{Name}
use Rattle.odd_tokens.specs.Characters.{IsLegal}
use Rattle.odd_text.specs.Same.{is_same}
use Rattle.odd_text.proofs.InList.{contained, first_or_later, nothing_stands, standing, stands_first, stands_later}
use Rattle.odd_tree.proofs.PrintedTrees.{same_from}
use Rattle.odd_text.specs.Standing.{StandsIn}
use Rattle.odd_tree.specs.Elements.{children_of, given}
use Rattle.odd_tree.specs.Formed.{IsFormed}
use Rattle.odd_tree.specs.declared.tree.Tree.{Tree, out-Tree}
use Rattle.rng_types.specs.Bounds.{IsFormedBounds}
use Rattle.rng_types.specs.declared.bounds.Bounds.{Bounds}
use Rattle.rng_types.specs.declared.item.Item.{Item}
use Rattle.odd_forms.proofs.Children.{one_named}
use Rattle.odd_forms.proofs.Colon.{name_decides, xml_named}
use Rattle.odd_forms.specs.Children.{IsChild}
use Rattle.odd_forms.specs.Deep.{DeepFault}
use Rattle.odd_forms.specs.Excepting.{is_name}
use Rattle.odd_forms.specs.Faults.{DemandFault, FormFault, OwnFault}
use Rattle.odd_forms.specs.Form.{IsAttributeName, attribute_name, own_text}
use Rattle.odd_forms.specs.Listing.{Lists, ListsAmong, is_definition, is_list}
use Rattle.odd_forms.specs.Names.{first_named, is_one_of, tei, tei_namespace}
use Rattle.odd_forms.specs.Table.{form_at, needed}
use Rattle.odd_forms.specs.Tags.{tags_in}
use Rattle.odd_forms.specs.Texts.{collapsed_in}
use Rattle.odd_text.specs.Same.{is_among}
use Rattle.odd_forms.specs.declared.element.Element.{Element}
use Rattle.odd_forms.specs.declared.element.Element.TheVariants as element
use Rattle.odd_content.proofs.FormedData.{IsValued, all_valued, data_formed, list_formed, marks_formed}
use Rattle.odd_content.proofs.FormedTrees.{child_formed, tag_formed}
use Rattle.odd_content.proofs.Unbroken.{IsUnbroken, bounds_formed, by_text, child_kept, decided, legal_given, suited}
use Rattle.odd_content.specs.FormedData.{IsFormedData}
use Rattle.odd_content.specs.Values.{kind_in, list_given, marks_in}
use Rattle.odd_attributes.specs.Formed.{AreFormedEdits, AreFormedFields, IsFormedDatatype, IsFormedDef, IsFormedEdit, IsFormedValEdit}
use Rattle.odd_attributes.specs.Giving.{AreEditsOf, alt_given, datatype_by, datatype_given, datatype_in, def_of, edit_of, fields_of, is_in_mode, val_edit_given, val_edit_of, with_definition, with_ident}
use Rattle.odd_attributes.specs.declared.att_edit.AttEdit.{AttEdit}
use Rattle.odd_attributes.specs.declared.att_edit.AttEdit.TheVariants as edit
use Rattle.odd_attributes.specs.declared.val_edit.ValEdit.TheVariants as vals
use Rattle.odd_attributes.proofs.Formed.{laid_formed}
use Rattle.odd_attributes.proofs.ReadLists.{IsReadAs, IsSound, IsUnbrokenSomewhere, child_sound, children_sound, ident_sound}

-- what is found among items is one of them, and passes the test
found : {A : Type 0} (test : A → Bool) (xs : List A) (x : A) → find test xs ≡ Some x → StandsIn xs x × (test x ≡ true)
found test [] x e = cc
found test (y ∷ ys) x e =
    ⊎_elim (λ h. let same : y ≡ x = same_Some _ _ (rw h at e) in (subst (StandsIn (y ∷ ys)) same (stands_first y ys), subst (λ z. test z ≡ true) same h))
    (λ h. let f = found test ys x (rw h at e) in (stands_later y x ys f.0, f.1)) (cases_Bool (test y))

-- what holds of the first child of a name
pub by_child : (local : List ℕ) (t : Tree) (P : Option Tree → Type 0) → P None → ((child : Tree) → StandsIn (children_of t) child → is_one_of (local ∷ []) child ≡ true → P (Some child))
    → P (first_named local t)
by_child local t P none some = by (first_named local t) (found (is_one_of (local ∷ [])) (children_of t))
  where
    by : (o : Option Tree) → ((child : Tree) → o ≡ Some child → StandsIn (children_of t) child × (is_one_of (local ∷ []) child ≡ true)) → P o
    by None told = none
    by (Some child) told = let f = told child refl in some child f.0 f.1

-- the kind of a child of this name
abbrev pub kind_named : Element → Name → Option Element
kind_named parent name = find (λ e. is_same name.ns tei_namespace && is_among ((form_at e).name ∷ []) name.local) ((form_at parent).many ++ (form_at parent).once)

pub is_kind : (parent kind : Element) (local : List ℕ) (child : Tree) → kind_named parent (tei local) ≡ Some kind → is_one_of (local ∷ []) child ≡ true → IsChild parent kind child
is_kind parent kind local child known is = ap (kind_named parent) (one_named local child is) ∙ known

-- what can't be but the ident of an attribute is one
attribute_named : (v : List ℕ) → ((IsAttributeName v → ⊥) → ⊥) → IsAttributeName v
attribute_named v sure =
    ⊎_elim (λ plain. IsAttributeName.plain ((name_decides v).0 plain))
    (λ other. ⊎_elim (λ begun. after (sym (take-append-drop 4 v) ∙ ap (λ front. front ++ drop 4 v) (same_text (take 4 v) (codes "xml:") (sym begun)))) (λ not_begun. absurd (sure (neither other not_begun)))
    (cases_Bool (is_same (take 4 v) (codes "xml:")))) (cases_Bool (is_name v))
  where
    after : v ≡ codes "xml:" ++ drop 4 v → IsAttributeName v
    after is = IsAttributeName.of_xml (drop 4 v) is (decided (is_name (drop 4 v)) (name_decides (drop 4 v)) (λ no. sure (λ named. no ((xml_named v (drop 4 v) is).1 named))))

    neither : is_name v ≡ false → is_same (take 4 v) (codes "xml:") ≡ false → IsAttributeName v → ⊥
    neither other begun (IsAttributeName.plain n) = both_ways (is_name v) other ((name_decides v).1 n)
    neither other begun (IsAttributeName.of_xml local is n) = both_ways (is_same (take 4 v) (codes "xml:")) begun (same_from (take 4 v) (codes "xml:") (ap (take 4) is))

-- a formed item with formed bounds
with_bounds : (b : Bounds) (o : Option Item) → IsFormedBounds b → IfSome o IsFormedData → IfSome (option_map (λ item. record { item = item; bounds = b }) o) IsFormedDatatype
with_bounds b None bound formed = tt
with_bounds b (Some item) bound formed = record { item = formed; bounds = bound }

-- the edit of a list whose values may be listed
val_formed : (list : Tree) → ((child : Tree) → StandsIn (children_of list) child → IsValued child) → IsFormedValEdit (val_edit_of list)
val_formed list valued =
    let change = vals.Change (kind_in (out-Tree list).attrs) (marks_in false (tags_in list)) in
    let set = vals.Set (list_given list) in
    cond_both (is_in_mode (codes "delete") list) vals.Delete (if is_in_mode (codes "change") list then change else set) IsFormedValEdit (λ deleted. tt)
    (λ kept. cond_both (is_in_mode (codes "change") list) change set IsFormedValEdit (λ changed. marks_formed false list valued) (λ other. list_formed list valued))

-- an `attDef` that breaks nothing, as it is read
module _ {first end : ℕ} {def : Tree} (sound : IsSound element.AttDef def) (formed : IsFormed first end def) where
  -- no child of a kind does
  abbrev inside : (child : Tree) → StandsIn (children_of def) child → (kind : Element) → IsChild element.AttDef kind child → IsUnbrokenSomewhere kind child
  inside child s kind is = children_sound def sound child s kind is

  alt_formed : IfSome (alt_given def) IsAttributeName
  alt_formed = by_child (codes "altIdent") def (λ o. IfSome (option_map collapsed_in o) IsAttributeName) tt (λ alt s is.
      attribute_named (collapsed_in alt) (λ no. (inside alt s element.AttAltIdent (is_kind element.AttDef element.AttAltIdent (codes "altIdent") alt refl is)).2 1
      (DeepFault.itself (FormFault.own (OwnFault.demand (own_text attribute_name) (stands_first _ _) (DemandFault.not_of_kind no))))))

  datatype_formed : IfSome (datatype_given def) IsFormedDatatype
  datatype_formed = by_child (codes "datatype") def (λ o. IfSome (datatype_in o) IsFormedDatatype) tt (λ d s is.
      let within = (inside d s element.Datatype (is_kind element.AttDef element.Datatype (codes "datatype") d refl is)).2 in
      by_child (codes "dataRef") d (λ o. IfSome (datatype_by d o) IsFormedDatatype) tt (λ ref r of.
      with_bounds _ _ (bounds_formed within (stands_first _ _) (stands_later _ _ _ (stands_first _ _)) (stands_first _ _))
      (data_formed (child_kept within ref r element.AttDataRef (is_kind element.Datatype element.AttDataRef (codes "dataRef") ref refl of)) (child_formed (child_formed formed d s).2 ref r).2 (stands_first _ _)
      (stands_later _ _ _ (stands_later _ _ _ (stands_later _ _ _ (stands_later _ _ _ (stands_first _ _))))))))

  vals_formed : IfSome (val_edit_given def) IsFormedValEdit
  vals_formed = by_child (codes "valList") def (λ o. IfSome (option_map val_edit_of o) IsFormedValEdit) tt (λ list s is.
      val_formed list (all_valued (inside list s element.AttValList (is_kind element.AttDef element.AttValList (codes "valList") list refl is)).2 (child_formed formed list s).2 element.AttValItem
      (λ child item. is_kind element.AttValList element.AttValItem (codes "valItem") child refl item) (stands_first _ _)))

  fields_formed : AreFormedFields (fields_of def)
  fields_formed = record {
    alt = alt_formed;
    ns = by_text (given def (codes "ns")) (λ o. IfSome o IsLegal) (λ none. tt) (λ ns is. legal_given def (codes "ns") ns (tag_formed formed) is);
    datatype = datatype_formed;
    vals = vals_formed;
  }

  def_formed : IsFormedDef (def_of def)
  def_formed =
      record { alt = fields_formed.alt; ns = fields_formed.ns; datatype = fields_formed.datatype; vals = laid_formed (val_edit_given def) None fields_formed.vals tt }

  edit_formed : IsFormedEdit (edit_of def)
  edit_formed =
      cond_both (is_in_mode (codes "delete") def) edit.Delete (if is_in_mode (codes "change") def then edit.Change (fields_of def) else edit.Set (def_of def)) IsFormedEdit (λ deleted. tt)
      (λ kept. cond_both (is_in_mode (codes "change") def) (edit.Change (fields_of def)) (edit.Set (def_of def)) IsFormedEdit (λ changed. fields_formed) (λ other. def_formed))

  ident_named : (ident : List ℕ) → given def (codes "ident") ≡ Some ident → IsAttributeName ident
  ident_named ident is =
      attribute_named ident (suited (needed (codes "ident") attribute_name) def ident refl is (ident_sound def sound))

-- what is listed is sound, where the children that are definitions are, and the lists
mutual
  all_sound : {list : Tree} {defs : List Tree} → Lists list defs → (e : Element) → kind_named e (tei (codes "attDef")) ≡ Some element.AttDef
      → kind_named e (tei (codes "attList")) ≡ Some element.NestedAttList → IsSound e list → (def : Tree) → StandsIn defs def → IsSound element.AttDef def
  all_sound (Lists.list {t = list} among) e of_def of_list sound =
      among_sound among (λ t s is. child_sound e element.AttDef list t sound s (is_kind e element.AttDef (codes "attDef") t of_def is))
      (λ t s is. child_sound e element.NestedAttList list t sound s (is_kind e element.NestedAttList (codes "attList") t of_list is))

  among_sound : {ts defs : List Tree} → ListsAmong ts defs → ((t : Tree) → StandsIn ts t → is_definition t ≡ true → IsSound element.AttDef t)
      → ((t : Tree) → StandsIn ts t → is_list t ≡ true → IsSound element.NestedAttList t) → (def : Tree) → StandsIn defs def → IsSound element.AttDef def
  among_sound ListsAmong.nothing one list def s = absurd (nothing_stands def s)
  among_sound (ListsAmong.definition {t = t} {ts = ts} {defs = defs} is rest) one list def s =
      ⊎_elim (λ same. subst (IsSound element.AttDef) (sym same) (one t (stands_first t ts) is))
      (λ later. among_sound rest (λ u h. one u (stands_later t u ts h)) (λ u h. list u (stands_later t u ts h)) def later) (first_or_later t def defs s)
  among_sound (ListsAmong.nested {t = t} {ts = ts} {inner = inner} {later = later} never is inside rest whole) one list def s =
      ⊎_elim (λ here. all_sound inside element.NestedAttList refl refl (list t (stands_first t ts) is) def (standing inner def here))
      (λ there. among_sound rest (λ u h. one u (stands_later t u ts h)) (λ u h. list u (stands_later t u ts h)) def (standing later def there)) (Contains-append_cases inner later def (contained (inner ++ later) def (subst (λ ds. StandsIn ds def) whole s)))
  among_sound (ListsAmong.other {t = t} {ts = ts} never not_list rest) one list def s =
      among_sound rest (λ u h. one u (stands_later t u ts h)) (λ u h. list u (stands_later t u ts h)) def s

-- a formed edit at the ident of an attribute
put_formed : (ident : List ℕ) (made : AttEdit) (edits : List (List ℕ × AttEdit)) → IsAttributeName ident → IsFormedEdit made → AreFormedEdits edits → AreFormedEdits (put text_cmp ident made edits)
put_formed ident made edits named here formed = record {
  rising = put_rises text_cmp nat_list_cmp_total ident made edits (put text_cmp ident made edits) formed.rising refl;
  each = λ asked other is. by asked other (formed.each asked other) (sym (put_sets text_cmp nat_list_cmp_total ident made edits (put text_cmp ident made edits) refl asked) ∙ is);
}
  where
    by : (asked : List ℕ) (other : AttEdit) → (maps.find text_cmp asked edits ≡ Some other → IsAttributeName asked × IsFormedEdit other)
        → (if eq_by_cmp text_cmp asked ident then Some made else maps.find text_cmp asked edits) ≡ Some other → IsAttributeName asked × IsFormedEdit other
    by asked other before is =
        ⊎_elim
        (λ h. (subst IsAttributeName (sym (tells_apart (slice_cmp-IsAntisymmetric nat_cmp-IsAntisymmetric) asked ident h)) named, subst IsFormedEdit (same_Some _ _ (rw h at is)) here))
        (λ h. before (rw h at is)) (cases_Bool (eq_by_cmp text_cmp asked ident))

-- the edits of sound definitions
definitions_formed : (edits : List (List ℕ × AttEdit)) (defs : List Tree) → ((def : Tree) → StandsIn defs def → IsSound element.AttDef def) → AreFormedEdits edits
    → AreFormedEdits (fold with_definition edits defs)
definitions_formed edits [] sound formed = formed
definitions_formed edits (def ∷ defs) sound formed =
    let here = sound def (stands_first def defs) in
    let formed_here = here.formed.2 in
    definitions_formed (with_definition edits def) defs (λ later s. sound later (stands_later def later defs s))
    (by_text (given def (codes "ident")) (λ o. AreFormedEdits (with_ident o (edit_of def) edits)) (λ none. formed)
    (λ ident is. put_formed ident (edit_of def) edits (ident_named here formed_here ident is) (edit_formed here formed_here) formed))

-- the edits of a list whose reading breaks nothing
pub read_formed : (list read : Tree) (edits : List (List ℕ × AttEdit)) {first end : ℕ} → IsReadAs element.AttList list read → IsUnbroken (DeepFault element.AttList 60 [] read)
    → IsFormed first end list → AreEditsOf list edits → AreFormedEdits edits
read_formed list read edits {first} {end} is_read unbroken formed of =
    let sound : IsSound element.AttList list = record { read = read; is_read = is_read; unbroken = (60, [], unbroken); formed = (first, end, formed) } in
    subst AreFormedEdits (sym of.are) (definitions_formed [] of.defs (all_sound of.listed element.AttList refl refl sound) (record { rising = refl; each = λ ident made e. cc }))

-- and of one that is read whole
pub attlist_formed : (list : Tree) (edits : List (List ℕ × AttEdit)) {first end : ℕ} → IsUnbroken (DeepFault element.AttList 60 [] list) → IsFormed first end list → AreEditsOf list edits
    → AreFormedEdits edits
attlist_formed list edits unbroken formed of = read_formed list list edits IsReadAs.whole unbroken formed of
