-- A `valList` that is printed of an edit of a list of values is read as it, and breaks nothing.
use Rattle.std.proofs.Common.{◌≡◌, ℕ, Bool, true, false, if◌then◌else◌, List, [], ◌∷◌, map, Option, Some, None, refl, sym, ap, ap₂, subst, ◌∙◌}
use Rattle.std.specs.Prelude.{IsTrue, codes, unwrap_or}
use Rattle.std.specs.FinMap.{put}
use Rattle.std.specs.Option.{option_map}
use Rattle.std.proofs.lemmas.Cmp.{nat_list_cmp_total}
use Rattle.std.proofs.lemmas.List.Elements.{All-contains}
use Rattle.odd_text.specs.Text.{text_cmp}
use Rattle.odd_tokens.proofs.Ascii.{is_printable}
use Rattle.odd_text.specs.Same.{is_same}
use Rattle.odd_text.specs.Standing.{StandsIn}
use Rattle.odd_tree.specs.Elements.{given}
use Rattle.odd_tree.specs.declared.tree.Tree.{Tree, out-Tree}
use Rattle.odd_text.proofs.InList.{contained, stands_first, stands_later, stands_map}
use Rattle.odd_tree.proofs.PrintedTrees.{IsPlain, Shows}
use Rattle.rng_types.specs.declared.val_list.ListKind.{ListKind}
use Rattle.rng_values.specs.Treated.{collapsed_text}
use Rattle.odd_forms.specs.Form as kinds
use Rattle.odd_forms.specs.Names.{tei_namespace}
use Rattle.odd_forms.specs.Table.{form_at}
use Rattle.odd_forms.specs.Tags.{tags_in}
use Rattle.odd_text.specs.Same.{is_among}
use Rattle.odd_forms.specs.declared.element.Element.TheVariants as kind
use Rattle.odd_text.proofs.SetOf.{none_rising}
use Rattle.odd_content.specs.FormedData.{AreValueMarks, IsListed}
use Rattle.odd_content.specs.Values.{kind_in, kind_named, list_given, marks_in, with_value}
use Rattle.odd_overlay.specs.Tabled.{keys_of}
use Rattle.odd_attributes.specs.declared.val_edit.ValEdit.{ValEdit}
use Rattle.odd_attributes.specs.declared.val_edit.ValEdit.TheVariants as vals
use Rattle.odd_attributes.specs.Formed.{IsFormedValEdit}
use Rattle.odd_attributes.specs.Giving.{is_in_mode, val_edit_of}
use Rattle.odd_emit.specs.Attributes.{kind_value, mark_markup, mark_word, vals_markup}
use Rattle.odd_emit.specs.Contents.{mode_said, type_said, value_markup}
use Rattle.odd_emit.specs.Saying.{Said, a_text, says, says_if, written}
use Rattle.merged_laws.proofs.Fits.{IsFormedIfThere, NoneAlike, fits, value_tagged, values_tagged}
use Rattle.merged_laws.proofs.Keyed.{keys_rise}
use Rattle.merged_laws.proofs.Kids.{none_twice, tags_give}
use Rattle.merged_laws.proofs.Puts.{AllPut, puts_all}
use Rattle.merged_laws.proofs.Says.{IsPlaced, IsSound, Says, says_plain, says_told, sound}
use Rattle.merged_laws.proofs.Told.{all_made_of, name_of, tag_said}
use Rattle.merged_laws.proofs.ValueLists.{all_collapsed, att_list_sound, list_among, list_back, list_named, list_plain, list_printable, list_says, listed_filled}

-- What is read by the `mode`

-- the words of it, as the form lists them
abbrev pub modes : List (List ℕ)
modes = codes "add" ∷ codes "delete" ∷ codes "change" ∷ codes "replace" ∷ []

pub by_mode : {A : Type 0} (t : Tree) (word : List ℕ) (deleted changed set : A) → given t (codes "mode") ≡ Some word
    → (if is_in_mode (codes "delete") t then deleted else if is_in_mode (codes "change") t then changed else set)
    ≡ (if is_same word (codes "delete") then deleted else if is_same word (codes "change") then changed else set)
by_mode t word deleted changed set g =
    ap (λ o. if is_same (unwrap_or o (codes "add")) (codes "delete") then deleted else if is_same (unwrap_or o (codes "add")) (codes "change") then changed else set) g

-- Values that are put in or taken out

mark_among : (is_put : Bool) → IsTrue (is_among modes (mark_word is_put))
mark_among true = refl
mark_among false = refl

mark_printable : (is_put : Bool) → IsTrue (is_printable (mark_word is_put))
mark_printable true = refl
mark_printable false = refl

abbrev mark_said : List ℕ × Bool → List Said
mark_said mark = says (codes "ident") (a_text mark.0) ∷ mode_said (mark_word mark.1) ∷ []

mark_says : (mark : List ℕ × Bool) → IsListed mark.0 → Says kind.AttValItem (mark_said mark) []
mark_says mark h = record {
  sayable = refl;
  right = refl;
  formed = ((h.legal, listed_filled mark.0 h), ((mark_among mark.1, mark_printable mark.1), tt));
  met = λ binds. tt;
  few = tt;
}

mark_put : (mark : List ℕ × Bool) → IsListed mark.0 → (made : List (List ℕ × Bool)) → with_value false made (tag_said (mark_markup mark)) ≡ put text_cmp mark.0 mark.1 made
mark_put (value, true) h made = ap (λ word. put text_cmp word true made) h.collapsed
mark_put (value, false) h made = ap (λ word. put text_cmp word false made) h.collapsed

marks_put : (marks : List (List ℕ × Bool)) → ((mark : List ℕ × Bool) → StandsIn marks mark → IsListed mark.0) → AllPut (with_value false) (map tag_said (map mark_markup marks)) marks
marks_put [] h = tt
marks_put (mark ∷ marks) h = (mark_put mark (h mark (stands_first mark marks)), marks_put marks (λ m s. h m (stands_later mark m marks s)))

-- The type of a list, where it is put

abbrev change_said : Option ListKind → List Said
change_said k = says_if (codes "type") (kind_value k) ∷ mode_said (codes "change") ∷ []

type_right : (k : Option ListKind) → fits (form_at kind.AttValList) (change_said k) ≡ true
type_right None = refl
type_right (Some k) = refl

type_formed : (k : Option ListKind) → IsFormedIfThere (kinds.one_of (codes "closed" ∷ codes "semi" ∷ codes "open" ∷ [])) (kind_value k)
type_formed None = tt
type_formed (Some k) = (list_among k, list_printable k)

type_back : (k : Option ListKind) → option_map kind_named (option_map written (kind_value k)) ≡ k
type_back None = refl
type_back (Some k) = ap (λ l. Some l) (list_named k)

-- A list that is changed

module _ (k : Option ListKind) (marks : List (List ℕ × Bool)) (f : AreValueMarks marks) where
  each_mark : (mark : List ℕ × Bool) → StandsIn marks mark → IsListed mark.0
  each_mark mark s = All-contains (λ (m : List ℕ × Bool). IsListed m.0) marks mark f.1 (contained marks mark s)

  each_key : (value : List ℕ) → StandsIn (keys_of marks) value → IsListed value
  each_key value s = let at = stands_map (λ (m : List ℕ × Bool). m.0) marks value s in subst IsListed (sym at.2) (each_mark at.0 at.1)

  -- no value stands twice
  marks_apart : NoneAlike (map collapsed_text (values_tagged kind.AttValItem (codes "ident") (map tag_said (map mark_markup marks))))
  marks_apart =
      let are : values_tagged kind.AttValItem (codes "ident") (map tag_said (map mark_markup marks)) ≡ keys_of marks =
      tags_give mark_markup (value_tagged kind.AttValItem (codes "ident")) (λ (m : List ℕ × Bool). m.0) (λ m. refl) marks in
      subst (λ values. NoneAlike (map collapsed_text values)) (sym are)
      (subst NoneAlike (sym (all_collapsed (keys_of marks) each_key)) (none_twice text_cmp nat_list_cmp_total (keys_of marks) (keys_rise text_cmp marks f.0)))

  change_says : Says kind.AttValList (change_said k) (map mark_markup marks)
  change_says = record { sayable = refl; right = type_right k; formed = (type_formed k, ((refl, refl), tt)); met = λ binds. (marks_apart, tt); few = tt }

  change_plain : IsPlain (vals_markup (vals.Change k marks))
  change_plain =
      says_plain kind.AttValList (change_said k) (map mark_markup marks) change_says
      (all_made_of mark_markup IsPlain marks (λ m s. says_plain kind.AttValItem (mark_said m) [] (mark_says m (each_mark m s)) tt))

  change_sound : (left : ℕ) → IsSound kind.AttValList left (vals_markup (vals.Change k marks))
  change_sound left =
      sound kind.AttValList left (change_said k) (map mark_markup marks) change_says (λ e none. cc)
      (all_made_of mark_markup (IsPlaced kind.AttValList left) marks
      (λ m s. (kind.AttValItem, refl, sound kind.AttValItem left (mark_said m) [] (mark_says m (each_mark m s)) (λ e none. cc) tt)))

  change_back : (t : Tree) → Shows tei_namespace [] (vals_markup (vals.Change k marks)) t → val_edit_of t ≡ vals.Change k marks
  change_back t s =
      let told = says_told kind.AttValList (change_said k) (map mark_markup marks) t change_says s in
      let kind_is : kind_in (out-Tree t).attrs ≡ k = ap (option_map kind_named) (told.given (codes "type")) ∙ type_back k in
      let marks_are : marks_in false (tags_in t) ≡ marks =
      ap (marks_in false) told.tags ∙ puts_all (with_value false) (map tag_said (map mark_markup marks)) marks [] (marks_put marks each_mark) f.0 in
      by_mode t (codes "change") vals.Delete (vals.Change (kind_in (out-Tree t).attrs) (marks_in false (tags_in t))) (vals.Set (list_given t)) (told.given (codes "mode"))
      ∙ ap₂ (λ l m. vals.Change l m) kind_is marks_are

-- A list that is deleted

abbrev delete_said : List Said
delete_said = mode_said (codes "delete") ∷ []

delete_says : Says kind.AttValList delete_said []
delete_says = record { sayable = refl; right = refl; formed = ((refl, refl), tt); met = λ binds. (none_twice text_cmp nat_list_cmp_total [] (none_rising text_cmp), tt); few = tt }

-- Each edit

pub vals_named : (v : ValEdit) → name_of (vals_markup v) ≡ codes "valList"
vals_named (vals.Set l) = refl
vals_named (vals.Change k marks) = refl
vals_named vals.Delete = refl

-- its markup is plain
pub vals_plain : (v : ValEdit) → IsFormedValEdit v → IsPlain (vals_markup v)
vals_plain (vals.Set l) f = list_plain l f
vals_plain (vals.Change k marks) f = change_plain k marks f
vals_plain vals.Delete f = says_plain kind.AttValList delete_said [] delete_says tt

-- it breaks nothing
pub vals_sound : (left : ℕ) (v : ValEdit) → IsFormedValEdit v → IsSound kind.AttValList left (vals_markup v)
vals_sound left (vals.Set l) f = att_list_sound l f left
vals_sound left (vals.Change k marks) f = change_sound k marks f left
vals_sound left vals.Delete f = sound kind.AttValList left delete_said [] delete_says (λ e none. cc) tt

-- a tree that shows it gives it
pub vals_back : (v : ValEdit) (t : Tree) → IsFormedValEdit v → Shows tei_namespace [] (vals_markup v) t → val_edit_of t ≡ v
vals_back (vals.Set l) t f s =
    let told = says_told kind.ValList (type_said l.kind ∷ mode_said (codes "add") ∷ []) (map value_markup l.values) t (list_says l f) s in
    by_mode t (codes "add") vals.Delete (vals.Change (kind_in (out-Tree t).attrs) (marks_in false (tags_in t))) (vals.Set (list_given t)) (told.given (codes "mode"))
    ∙ ap (λ m. vals.Set m) (list_back l t f s)
vals_back (vals.Change k marks) t f s = change_back k marks f t s
vals_back vals.Delete t f s =
    let told = says_told kind.AttValList delete_said [] t delete_says s in
    by_mode t (codes "delete") vals.Delete (vals.Change (kind_in (out-Tree t).attrs) (marks_in false (tags_in t))) (vals.Set (list_given t)) (told.given (codes "mode"))
