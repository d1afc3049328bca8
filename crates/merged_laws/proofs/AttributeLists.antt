-- An `attList` that is printed of the edits of attributes is read as them, and breaks nothing.
use Rattle.std.proofs.Common.{◌≡◌, ◌&&◌, ℕ, true, List, [], ◌∷◌, map, Option, Some, refl, sym, ap, subst, ◌∙◌}
use Rattle.std.specs.Prelude.{codes}
use Rattle.std.specs.FinMap.{put}
use Rattle.std.specs.List.{filter_map, list_all}
use Rattle.std.proofs.lemmas.Bool.{and_from}
use Rattle.std.proofs.lemmas.Cmp.{nat_list_cmp_total}
use Rattle.odd_text.specs.Text.{text_cmp}
use Rattle.odd_text.specs.declared.name.Name.{Name}
use Rattle.odd_text.specs.Same.{is_same}
use Rattle.odd_text.specs.Standing.{StandsIn}
use Rattle.odd_tree.specs.Elements.{children_of}
use Rattle.odd_tree.specs.Markup.{Markup}
use Rattle.odd_tree.specs.declared.tree.Tree.{Tree}
use Rattle.odd_text.proofs.InList.{stands_first, stands_later}
use Rattle.odd_tree.proofs.PrintedTrees.{IsPlain, Shows}
use Rattle.odd_forms.specs.Form.{IsAttributeName}
use Rattle.odd_forms.specs.Listing.{ListsAmong, is_definition}
use Rattle.odd_forms.specs.Listing as listing
use Rattle.odd_forms.specs.Names.{first_named, tei, tei_namespace}
use Rattle.odd_forms.specs.Tags.{is_tagged}
use Rattle.odd_text.specs.Same.{is_among}
use Rattle.odd_forms.specs.declared.element.Element.{Element}
use Rattle.odd_forms.specs.declared.element.Element.TheVariants as kind
use Rattle.odd_overlay.specs.Tabled.{keys_of}
use Rattle.odd_attributes.specs.declared.att_edit.AttEdit.{AttEdit}
use Rattle.odd_attributes.specs.declared.att_edit.AttEdit.TheVariants as edit
use Rattle.odd_attributes.specs.Formed.{AreFormedEdits, IsFormedEdit}
use Rattle.odd_attributes.specs.Giving.{AreEditsGiven, AreEditsOf, edit_of, with_definition, with_ident}
use Rattle.odd_emit.specs.Attributes.{edit_markup, edits_markup}
use Rattle.odd_emit.specs.Saying.{present, spoken}
use Rattle.merged_laws.proofs.Definitions.{edit_back, edit_ident, edit_plain, edit_sound}
use Rattle.merged_laws.proofs.Fits.{NoneAlike, child_called, ident_tagged}
use Rattle.merged_laws.proofs.Keyed.{entry_found, keys_rise}
use Rattle.merged_laws.proofs.Kids.{none_twice, tags_give}
use Rattle.merged_laws.proofs.Present.{AreNamed, IfThere, IsFoundAs, child_of, first_present}
use Rattle.merged_laws.proofs.Puts.{AllPut, puts_all}
use Rattle.merged_laws.proofs.Said.{are_apart}
use Rattle.merged_laws.proofs.Says.{IsPlaced, IsSound, Says, says_plain, says_told, sound}
use Rattle.merged_laws.proofs.Told.{AreShown, all_made_of, name_of, shown_name, tag_said}

-- Each entry is an `attDef` with its ident

abbrev Entry : Type 0
Entry = List ℕ × AttEdit

entry_named : (e : Entry) → name_of (edit_markup e) ≡ codes "attDef"
entry_named (ident, edit.Set def) = refl
entry_named (ident, edit.Change fields) = refl
entry_named (ident, edit.Delete) = refl

entry_ident : (e : Entry) → ident_tagged (tag_said (edit_markup e)) ≡ Some e.0
entry_ident (ident, edit.Set def) = refl
entry_ident (ident, edit.Change fields) = refl
entry_ident (ident, edit.Delete) = refl

-- where a name is that of an `attDef`, the tag is one
of_def : (name : List ℕ) → name ≡ codes "attDef" → (is_same tei_namespace tei_namespace && is_among (codes "attDef" ∷ []) name) ≡ true
of_def name is = ap (λ n. is_same tei_namespace tei_namespace && is_among (codes "attDef" ∷ []) n) is

all_defs : (edits : List Entry) → list_all (is_tagged (codes "attDef")) (map tag_said (map edit_markup edits)) ≡ true
all_defs [] = refl
all_defs (e ∷ edits) =
    and_from (is_tagged (codes "attDef") (tag_said (edit_markup e))) (list_all (is_tagged (codes "attDef")) (map tag_said (map edit_markup edits))) (of_def (name_of (edit_markup e)) (entry_named e)) (all_defs edits)

shown_def : (e : Entry) (t : Tree) → Shows tei_namespace [] (edit_markup e) t → is_definition t ≡ true
shown_def e t s = ap (λ (n : Name). is_same n.ns tei_namespace && is_among (codes "attDef" ∷ []) n.local) (shown_name (edit_markup e) t s) ∙ of_def (name_of (edit_markup e)) (entry_named e)

-- so each child is listed
defs_listed : (edits : List Entry) (ts : List Tree) → AreShown (map edit_markup edits) ts → ListsAmong ts ts
defs_listed [] [] s = listing.nothing
defs_listed [] (t ∷ ts) s = absurd s
defs_listed (e ∷ edits) [] s = absurd s
defs_listed (e ∷ edits) (t ∷ ts) s = listing.definition (shown_def e t s.0) (defs_listed edits ts s.1)

-- Formed entries

abbrev IsFormedEntry : Entry → Type 0
IsFormedEntry e = IsAttributeName e.0 × IsFormedEdit e.1

each_formed : (edits : List Entry) → AreFormedEdits edits → (e : Entry) → StandsIn edits e → IsFormedEntry e
each_formed edits f e s = f.each e.0 e.1 (entry_found text_cmp nat_list_cmp_total edits e f.rising s)

entry_plain : (e : Entry) → IsFormedEntry e → IsPlain (edit_markup e)
entry_plain (ident, e) f = edit_plain ident e f.0 f.1

entry_placed : (left : ℕ) (e : Entry) → IsFormedEntry e → IsPlaced kind.AttList left (edit_markup e)
entry_placed left (ident, e) f = (kind.AttDef, ap (λ name. child_called kind.AttList (tei name)) (entry_named (ident, e)), edit_sound left ident e f.0 f.1)

-- what each child puts in
entry_put : (e : Entry) (t : Tree) → IsFormedEntry e → Shows tei_namespace [] (edit_markup e) t → (made : List Entry) → with_definition made t ≡ put text_cmp e.0 e.1 made
entry_put (ident, e) t f s made =
    ap (λ o. with_ident o (edit_of t) made) (edit_ident ident e t f.0 f.1 s) ∙ ap (λ x. put text_cmp ident x made) (edit_back ident e t f.0 f.1 s)

entries_put : (edits : List Entry) (ts : List Tree) → ((e : Entry) → StandsIn edits e → IsFormedEntry e) → AreShown (map edit_markup edits) ts → AllPut with_definition ts edits
entries_put [] [] f s = tt
entries_put [] (t ∷ ts) f s = absurd s
entries_put (e ∷ edits) [] f s = absurd s
entries_put (e ∷ edits) (t ∷ ts) f s = (entry_put e t (f e (stands_first e edits)) s.0, entries_put edits ts (λ x k. f x (stands_later e x edits k)) s.1)

-- The list

module _ (edits : List Entry) (f : AreFormedEdits edits) where
  -- no ident stands twice
  idents_apart : NoneAlike (filter_map ident_tagged (map tag_said (map edit_markup edits)))
  idents_apart =
      subst NoneAlike (sym (tags_give edit_markup ident_tagged (λ (e : Entry). e.0) entry_ident edits)) (none_twice text_cmp nat_list_cmp_total (keys_of edits) (keys_rise text_cmp edits f.rising))

  list_says : Says kind.AttList [] (map edit_markup edits)
  list_says = record { sayable = refl; right = refl; formed = tt; met = λ binds. ((all_defs edits, idents_apart), tt); few = tt }

  -- its markup is plain
  pub att_list_plain : IsPlain (spoken (codes "attList") [] (map edit_markup edits))
  att_list_plain =
      says_plain kind.AttList [] (map edit_markup edits) list_says (all_made_of edit_markup IsPlain edits (λ e s. entry_plain e (each_formed edits f e s)))

  -- it breaks nothing
  pub att_list_sound : (left : ℕ) → IsSound kind.AttList left (spoken (codes "attList") [] (map edit_markup edits))
  att_list_sound left =
      sound kind.AttList left [] (map edit_markup edits) list_says (λ e none. cc)
      (all_made_of edit_markup (IsPlaced kind.AttList left) edits (λ e s. entry_placed left e (each_formed edits f e s)))

  -- a tree that shows it gives the edits
  pub att_list_back : (t : Tree) → Shows tei_namespace [] (spoken (codes "attList") [] (map edit_markup edits)) t → AreEditsOf t edits
  att_list_back t s =
      let told = says_told kind.AttList [] (map edit_markup edits) t list_says s in
      record {
        defs = children_of t;
        listed = listing.list (defs_listed edits (children_of t) told.children);
        are = sym (puts_all with_definition (children_of t) edits [] (entries_put edits (children_of t) (each_formed edits f) told.children) f.rising);
      }

-- Where there is an edit

pub edits_named : (edits : List Entry) → IfThere (λ m. name_of m ≡ codes "attList") (edits_markup edits)
edits_named [] = tt
edits_named (e ∷ edits) = refl

pub edits_plain : (edits : List Entry) → AreFormedEdits edits → IfThere IsPlain (edits_markup edits)
edits_plain [] f = tt
edits_plain (e ∷ edits) f = att_list_plain (e ∷ edits) f

-- in a declaration where an `attList` may stand
pub edits_placed : (parent : Element) (left : ℕ) (edits : List Entry) → child_called parent (tei (codes "attList")) ≡ Some kind.AttList → AreFormedEdits edits → IfThere (IsPlaced parent left) (edits_markup edits)
edits_placed parent left [] is f = tt
edits_placed parent left (e ∷ edits) is f = (kind.AttList, is, att_list_sound (e ∷ edits) f left)

edits_found : (edits : List Entry) → AreFormedEdits edits → (ts : List Tree) (found : Option Tree) → IsFoundAs (codes "attList") ts (edits_markup edits) found → AreEditsGiven found edits
edits_found [] f ts found is = subst (λ o. AreEditsGiven o []) (sym is) refl
edits_found (e ∷ edits) f ts found is = subst (λ o. AreEditsGiven o (e ∷ edits)) (sym is.1) (att_list_back (e ∷ edits) f is.0 is.3)

-- a declaration gives them by the child that may be there
pub edits_given : (edits : List Entry) (names : List (List ℕ)) (ms : List (Option Markup)) (t : Tree) → AreFormedEdits edits → AreNamed names ms → are_apart names ≡ true → AreShown (present ms) (children_of t)
    → child_of names ms (codes "attList") ≡ edits_markup edits → AreEditsGiven (first_named (codes "attList") t) edits
edits_given edits names ms t f named apart shown is =
    edits_found edits f (children_of t) (first_named (codes "attList") t)
    (subst (λ m. IsFoundAs (codes "attList") (children_of t) m (first_named (codes "attList") t)) is (first_present (codes "attList") names ms (children_of t) named apart shown))
