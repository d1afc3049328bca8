-- An `attList` as it is read, with `aside` or without, and what is read of the elements in it: what stands in an `attDef` is read as it is.
use Rattle.std.proofs.Common.{◌≡◌, ℕ, ⊎_elim, Bool, true, false, List, [], ◌∷◌, ◌++◌, ◌&&◌, Option, None, Some, find, codes, refl, ap, subst, ◌∙◌}
use Rattle.std.proofs.lemmas.Bool.{and_parts, both_ways}
use Rattle.std.specs.List.{list_all, list_any}
use Rattle.odd_text.specs.declared.name.Bind.{Bind}
use Rattle.odd_text.specs.declared.name.Name.{Name}
use Rattle.odd_text.specs.Same.{is_same}
use Rattle.odd_text.proofs.InList.{first_or_later, nothing_stands, standing, stands_first}
use Rattle.odd_tree.proofs.PrintedTrees.{same_from}
use Rattle.odd_text.specs.Standing.{StandsIn}
use Rattle.odd_tree.specs.Elements.{attribute_value, children_of}
use Rattle.odd_tree.specs.Formed.{IsFormed}
use Rattle.odd_tree.specs.declared.tree.Tree.{Tree, out-Tree}
use Rattle.odd_forms.proofs.Children.{found_among}
use Rattle.odd_text.proofs.Least.{any_stands}
use Rattle.odd_forms.specs.Children.{IsChild}
use Rattle.odd_forms.specs.Deep.{DeepFault}
use Rattle.odd_forms.specs.Faults.{AttributeFault}
use Rattle.odd_forms.specs.Form.{AttributeForm, attribute_name}
use Rattle.odd_text.specs.Least.{IsLeast}
use Rattle.odd_forms.specs.Names.{tei_namespace}
use Rattle.odd_forms.specs.Table.{form_at, needed}
use Rattle.odd_text.specs.Same.{is_among}
use Rattle.odd_forms.specs.declared.element.Element.{Element}
use Rattle.odd_forms.specs.declared.element.Element.TheVariants as element
use Rattle.odd_items.proofs.AllLeft.{all_left}
use Rattle.odd_items.proofs.ConstraintsLeft.{child_left}
use Rattle.odd_items.proofs.Remaining.{one_left}
use Rattle.odd_items.specs.Constraints.{IsConstraintIn, IsReadIn, LeavesOutConstraints}
use Rattle.odd_items.specs.Constraints as inner
use Rattle.odd_items.specs.Without.{IsWithout}
use Rattle.odd_items.specs.Without as left
use Rattle.odd_content.proofs.FormedTrees.{IsFormedSomewhere, child_formed}
use Rattle.odd_content.proofs.Unbroken.{IsUnbroken, attribute_kept, child_kept}
use Rattle.odd_attributes.specs.Giving.{AttListFault, IsListRead}
use Rattle.odd_attributes.specs.Giving as giving

-- a list is read as one tree
pub one_read : (list t u : Tree) (aside : Bool) → IsListRead list aside t → IsListRead list aside u → t ≡ u
one_read list t u aside giving.whole giving.whole = refl
one_read list t u aside (giving.without {count = m} is) (giving.without {count = n} also) = (one_left (IsConstraintIn element.AttList list) list t u m n is also).0

-- the least rule that is broken by what is read of a list is the least that the list breaks as it is read
pub least_read : (list read : Tree) (aside : Bool) (fault : Option ℕ) → IsListRead list aside read → IsLeast (DeepFault element.AttList 60 [] read) fault
    → IsLeast (AttListFault list aside) fault
least_read list read aside fault is least = by fault least
  where
    there : (rule : ℕ) → AttListFault list aside rule → DeepFault element.AttList 60 [] read rule
    there rule f = subst (λ t. DeepFault element.AttList 60 [] t rule) (one_read list f.read read aside f.is_read is) f.breaks

    by : (fault : Option ℕ) → IsLeast (DeepFault element.AttList 60 [] read) fault → IsLeast (AttListFault list aside) fault
    by None least = λ rule f. least rule (there rule f)
    by (Some rule) least = (record { read = read; is_read = is; breaks = least.0 }, λ other f. least.1 other (there other f))

-- an element of the table is read whole, or without the constraints that may not stand in it
pub data IsReadAs (e : Element) (t : Tree) : Tree → Type 0 where
  whole : IsReadAs e t t
  without : {u : Tree} {count : ℕ} → IsWithout (IsConstraintIn e t) t u count → IsReadAs e t u

-- and so is a list
pub list_read : (list t : Tree) (aside : Bool) → IsListRead list aside t → IsReadAs element.AttList list t
list_read list t aside giving.whole = whole
list_read list t aside (giving.without is) = without is

-- an element breaks nothing, under some declarations
abbrev pub IsUnbrokenSomewhere : Element → Tree → Type 0
IsUnbrokenSomewhere e t = (levels : ℕ) × (around : List Bind) × IsUnbroken (DeepFault e levels around t)

-- a formed tree of which what is read breaks nothing as an element of this kind
pub record IsSound (e : Element) (t : Tree) : Type 0 where
  pub read : Tree
  pub is_read : IsReadAs e t read
  pub unbroken : IsUnbrokenSomewhere e read
  pub formed : IsFormedSomewhere t

-- the element of the table is told by the name
abbrev kind_of : List Element → Name → Option Element
kind_of kinds name = find (λ e. is_same name.ns tei_namespace && is_among ((form_at e).name ∷ []) name.local) kinds

-- and so are its children
pub child_sound : (e kind : Element) (t child : Tree) → IsSound e t → StandsIn (children_of t) child → IsChild e kind child → IsSound kind child
child_sound e kind t child sound s is = by sound.read sound.is_read sound.unbroken
  where
    -- what is read of the child is of its kind
    of_kind : (u : Tree) (count : ℕ) → IsWithout (IsConstraintIn kind child) child u count → IsChild e kind u
    of_kind u count (left.element name attrs binds at are) = ap (kind_of ((form_at e).many ++ (form_at e).once)) name ∙ is

    by : (read : Tree) → IsReadAs e t read → IsUnbrokenSomewhere e read → IsSound kind child
    by read whole unbroken = record { read = child; is_read = whole; unbroken = (_, _, child_kept unbroken.2 child s kind is); formed = child_formed sound.formed.2 child s }
    by read (without {count = count} without_is) unbroken =
        let h = child_left sound.formed.0 sound.formed.1 e kind t read count sound.formed.2 without_is child s is in
        record { read = h.0; is_read = without h.3; unbroken = (_, _, child_kept unbroken.2 h.0 h.2 kind (of_kind h.0 h.1 h.3)); formed = child_formed sound.formed.2 child s }

-- what stands in an `attDef`, at any depth
abbrev is_part : Element → Bool
is_part element.AttAltIdent = true
is_part element.Datatype = true
is_part element.AttDataRef = true
is_part element.AttDataFacet = true
is_part element.AttValList = true
is_part element.AttValItem = true
is_part e = false

-- what holds of all items holds of each
each_such : (test : Element → Bool) (xs : List Element) → list_all test xs ≡ true → (x : Element) → StandsIn xs x → test x ≡ true
each_such test [] h x s = absurd (nothing_stands x s)
each_such test (y ∷ ys) h x s =
    let p = and_parts (test y) (list_all test ys) h in
    ⊎_elim (λ e. ap test e ∙ p.0) (λ later. each_such test ys p.1 x later) (first_or_later y x ys s)

-- what stands in such an element is such
parts_inside : (e : Element) → is_part e ≡ true → list_all is_part ((form_at e).many ++ (form_at e).once) ≡ true
parts_inside element.AttAltIdent h = refl
parts_inside element.Datatype h = refl
parts_inside element.AttDataRef h = refl
parts_inside element.AttDataFacet h = refl
parts_inside element.AttValList h = refl
parts_inside element.AttValItem h = refl
parts_inside e h = cc

-- and no constraint is left out there
none_left_out : (e : Element) → is_part e ≡ true → list_any (λ word. is_same word (codes "constraintSpec")) (form_at e).left_out_children ≡ false
none_left_out element.AttAltIdent h = refl
none_left_out element.Datatype h = refl
none_left_out element.AttDataRef h = refl
none_left_out element.AttDataFacet h = refl
none_left_out element.AttValList h = refl
none_left_out element.AttValItem h = refl
none_left_out e h = cc

part_read : {e g : Element} {t u : Tree} → IsReadIn e t g u → is_part e ≡ true → is_part g ≡ true
part_read inner.itself part = part
part_read {e = e} (inner.inside {f = f} child is stands read) part =
    part_read read (each_such is_part ((form_at e).many ++ (form_at e).once) (parts_inside e part) f (found_among ((form_at e).many ++ (form_at e).once) child f is).0)

-- so none is taken out of it
none_inside : (e : Element) (t c : Tree) → is_part e ≡ true → IsConstraintIn e t c → ⊥
none_inside e t c part (inner.child g parent read l s k) = apart g (part_read read part) l
  where
    apart : (g : Element) → is_part g ≡ true → LeavesOutConstraints g → ⊥
    apart g part l =
        let words = (form_at g).left_out_children in
        both_ways (list_any (λ word. is_same word (codes "constraintSpec")) words) (none_left_out g part)
        ((any_stands (λ word. is_same word (codes "constraintSpec")) words).1
        (codes "constraintSpec", standing words (codes "constraintSpec") l, same_from (codes "constraintSpec") (codes "constraintSpec") refl))

-- and it is read as it is
read_same : (e : Element) (t u : Tree) {first end : ℕ} → is_part e ≡ true → IsFormed first end t → IsReadAs e t u → u ≡ t
read_same e t u part formed whole = refl
read_same e t u {first} {end} part formed (without {count = count} is) =
    (one_left (IsConstraintIn e t) t u t count 0 is (all_left (IsConstraintIn e t) (λ c h. none_inside e t c part h) first end t formed)).0

-- so the children of an `attDef` break nothing
pub children_sound : (def : Tree) → IsSound element.AttDef def → (child : Tree) → StandsIn (children_of def) child → (kind : Element) → IsChild element.AttDef kind child
    → IsUnbrokenSomewhere kind child
children_sound def sound child s kind is =
    let form = form_at element.AttDef in
    let part = each_such is_part (form.many ++ form.once) refl kind (found_among (form.many ++ form.once) child kind is).0 in
    let c = child_sound element.AttDef kind def child sound s is in
    subst (IsUnbrokenSomewhere kind) (read_same kind child c.read part c.formed.2 c.is_read) c.unbroken

-- an attribute breaks the same in elements of the same attributes
same_attribute : (a : AttributeForm) (t u : Tree) (rule : ℕ) → (out-Tree u).attrs ≡ (out-Tree t).attrs → AttributeFault a t rule → AttributeFault a u rule
same_attribute a t u rule same (AttributeFault.absent is none) = AttributeFault.absent is (ap (λ attrs. attribute_value attrs a.local) same ∙ none)
same_attribute a t u rule same (AttributeFault.value value is f) = AttributeFault.value value (ap (λ attrs. attribute_value attrs a.local) same ∙ is) f

-- and no more does its ident
pub ident_sound : (def : Tree) → IsSound element.AttDef def → IsUnbroken (AttributeFault (needed (codes "ident") attribute_name) def)
ident_sound def sound rule f = by sound.read sound.is_read sound.unbroken
  where
    by : (read : Tree) → IsReadAs element.AttDef def read → IsUnbrokenSomewhere element.AttDef read → ⊥
    by read whole unbroken = attribute_kept unbroken.2 (needed (codes "ident") attribute_name) (stands_first _ _) rule f
    by read (without (left.element name attrs binds at are)) unbroken =
        attribute_kept unbroken.2 (needed (codes "ident") attribute_name) (stands_first _ _) rule (same_attribute (needed (codes "ident") attribute_name) def read rule attrs f)
