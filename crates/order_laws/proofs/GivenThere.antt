-- What an element says that breaks nothing, one that says the same in another order says too.
use Rattle.std.proofs.Common.{◌≡◌, ℕ, Bool, true, false, not, ◌&&◌, if◌then◌else◌, List, [], ◌∷◌, ◌++◌, map, Option, Some, None, ⊎_elim, refl, sym, ap, ap₂, subst, ◌∙◌}
use Rattle.std.specs.Prelude.{codes, cond, find, unwrap_or}
use Rattle.std.specs.List.{cons_option, filter_map}
use Rattle.std.specs.Option.{option_map}
use Rattle.std.proofs.lemmas.List.Folds.{fold-map}
use Rattle.std.proofs.lemmas.Option.{same_Some}
use Rattle.odd_text.specs.declared.name.Bind.{Bind}
use Rattle.odd_text.specs.Same.{is_same}
use Rattle.odd_text.specs.Standing.{StandsIn}
use Rattle.odd_tree.specs.Elements.{children_of, given, within}
use Rattle.odd_tree.specs.declared.tree.Tree.{Tree, out-Tree}
use Rattle.rng_values.specs.Treated.{collapsed_text}
use Rattle.odd_overlay.specs.Marks.{words_laid}
use Rattle.odd_overlay.specs.Overlaid.{laid_at}
use Rattle.odd_text.proofs.InList.{first_or_later, nothing_stands, stands_first, stands_later}
use Rattle.odd_forms.proofs.Listed.{lists_one}
use Rattle.odd_forms.specs.Deep.{DeepFault}
use Rattle.odd_forms.specs.Faults.{DemandFault, FormFault, OwnFault, idents_of, value_in, values_in}
use Rattle.odd_forms.specs.Listing.{Lists, ListsAmong, is_definition}
use Rattle.odd_forms.specs.Names.{first_named, is_one_of, tei_namespace}
use Rattle.odd_forms.specs.Tags.{Tag, tag_of, tags_in}
use Rattle.odd_forms.specs.Texts.{collapsed_in}
use Rattle.odd_text.specs.Same.{is_among}
use Rattle.odd_forms.specs.Table.{form_at}
use Rattle.odd_forms.specs.declared.element.Element.{Element}
use Rattle.odd_forms.specs.declared.element.Element.TheVariants as element
use Rattle.odd_forms.proofs.Children.{child_named, named_one, one_named}
use Rattle.odd_content.specs.Items.{item_given, item_in}
use Rattle.odd_content.specs.Occurrence.{bounds_in}
use Rattle.odd_content.specs.Values.{has_mode, kind_in, list_given, marks_in, value_tagged, with_mark, with_value}
use Rattle.rng_types.specs.declared.val_list.ListKind.TheVariants as kind
use Rattle.odd_library.specs.Members.{adds, marks_of, membership_of, with_child}
use Rattle.odd_library.specs.Members as members
use Rattle.odd_library.specs.declared.membership.Membership.TheVariants as membership
use Rattle.odd_attributes.specs.Giving.{AreEditsOf, alt_given, datatype_by, datatype_given, datatype_in, edit_of, usage_given, val_edit_given, val_edit_of, with_definition, with_ident}
use Rattle.odd_attributes.specs.Values.{val_laid}
use Rattle.odd_attributes.specs.declared.att_edit.AttEdit.{AttEdit}
use Rattle.odd_attributes.specs.declared.att_edit.AttEdit.TheVariants as edit
use Rattle.odd_attributes.specs.declared.val_edit.ValEdit.TheVariants as vals
use Rattle.odd_content.specs.Condition.{condition_of}
use Rattle.odd_content.specs.Giving.{content_of, joined_parts, key_in, part_content, part_named, pick_in, value_content, words_in}
use Rattle.odd_content.specs.declared.content.Content.{Content}
use Rattle.odd_content.specs.declared.content.Content.TheVariants as content
use Rattle.odd_content.proofs.EachPart.{AreParts, IsPart, parts_given}
use Rattle.order_laws.specs.Reordered.{AreReordered, IsReordered, SaysTheSame, is_loose}
use Rattle.order_laws.proofs.Alike.{same_attrs, same_binds, same_given, same_name, same_one_of, same_within}
use Rattle.order_laws.proofs.Matched.{InOrder, in_order, lists_there, same_children, same_tag, tags_there}
use Rattle.order_laws.proofs.Shuffled.{stands_either}
use Rattle.order_laws.proofs.Folds.{NoneTwice, reordered_among, reordered_fold, with_key}

-- the text says the same, where it counts
pub text_there : {t u : Tree} → IsReordered t u → SaysTheSame t u
text_there (IsReordered.element n a b s c) = s

-- Memberships

-- a mark is put where a `memberOf` has a key
with_member : (b : Bool) (key : Option (List ℕ)) (adds : Bool) (marks : List (List ℕ × Bool)) → (if b then members.with_mark key adds marks else marks) ≡ with_key (if b then key else None) adds marks
with_member true None adds marks = refl
with_member true (Some key) adds marks = refl
with_member false key adds marks = refl

-- the marks of a `classes` that names no class twice
pub marks_there : {t u : Tree} → IsReordered t u → NoneTwice (values_in element.MemberOf (codes "key") t) → marks_of t ≡ marks_of u
marks_there r none =
    reordered_fold (value_in element.MemberOf (codes "key")) adds with_child (λ marks t. with_member (is_one_of (codes "memberOf" ∷ []) t) (given t (codes "key")) (adds t) marks)
    (λ t u s q. (
      ap₂ (λ b o. if b then o else None) (same_one_of (codes "memberOf" ∷ []) q) (same_given (codes "key") q),
      ap (λ o. not (is_same (unwrap_or o (codes "add")) (codes "delete"))) (same_given (codes "mode") q),
    )) none (same_children r)

-- and so the memberships that it gives
pub membership_there : {t u : Tree} → IsReordered t u → NoneTwice (values_in element.MemberOf (codes "key") t) → membership_of t ≡ membership_of u
membership_there r none =
    ap₂ (λ o marks. if is_same (unwrap_or o (codes "replace")) (codes "change") then membership.Change marks else membership.Replace (words_laid marks [])) (same_given (codes "mode") r) (marks_there r none)

-- Values

-- no value of a list stands twice, with white space collapsed
abbrev pub ValuesApart : Tree → Type 0
ValuesApart list = NoneTwice (map collapsed_text (values_in element.ValItem (codes "ident") list))

-- the value whose mark a child gives, in a list that is set or changed
abbrev mark_key : Bool → Tag → Option (List ℕ)
mark_key is_set tag = if not is_set && has_mode (codes "change") tag.attrs then None else value_tagged tag

-- a mark is put where a value is given
with_marked : (b : Bool) (key : Option (List ℕ)) (is_put : Bool) (marks : List (List ℕ × Bool)) → (if b then marks else with_mark key is_put marks) ≡ with_key (if b then None else key) is_put marks
with_marked true key is_put marks = refl
with_marked false None is_put marks = refl
with_marked false (Some key) is_put marks = refl

-- it is the value that the child names
abbrev item_value : Tree → Option (List ℕ)
item_value t = option_map collapsed_text (value_in element.ValItem (codes "ident") t)

-- so a mark is of a value that is named
mark_among : (is_set : Bool) (t : Tree) (k : List ℕ) → mark_key is_set (tag_of t) ≡ Some k → item_value t ≡ Some k
mark_among is_set t k e = by (not is_set && has_mode (codes "change") (out-Tree t).attrs) (is_one_of (codes "valItem" ∷ []) t) (given t (codes "ident")) e
  where
    by : (skips is : Bool) (ident : Option (List ℕ)) → (if skips then None else if is then option_map collapsed_text ident else None) ≡ Some k → option_map collapsed_text (if is then ident else None) ≡ Some k
    by true is ident e = cc
    by false true ident e = e
    by false false ident e = cc

-- what is made of what is given, of each item
mapped_one : {B C : Type 0} (g : B → C) (o : Option B) (ys : List B) (zs : List C) → zs ≡ map g ys → cons_option (option_map g o) zs ≡ map g (cons_option o ys)
mapped_one g None ys zs e = e
mapped_one g (Some y) ys zs e = ap (λ xs. g y ∷ xs) e

-- and of all of them
mapped : {A B C : Type 0} (f : A → Option B) (g : B → C) (xs : List A) → filter_map (λ x. option_map g (f x)) xs ≡ map g (filter_map f xs)
mapped f g [] = refl
mapped f g (x ∷ xs) = mapped_one g (f x) (filter_map f xs) (filter_map (λ y. option_map g (f y)) xs) (mapped f g xs)

-- the marks of a list of values
pub values_there : (is_set : Bool) {t u : Tree} → IsReordered t u → ValuesApart t → marks_in is_set (tags_in t) ≡ marks_in is_set (tags_in u)
values_there is_set {t} {u} r none =
    fold-map (with_value is_set) tag_of [] (children_of t)
    ∙ reordered_among (λ x. mark_key is_set (tag_of x)) item_value (λ x. not (has_mode (codes "delete") (out-Tree x).attrs)) (λ marks x. with_value is_set marks (tag_of x))
    (λ marks x. with_marked (not is_set && has_mode (codes "change") (out-Tree x).attrs) (value_tagged (tag_of x)) (not (has_mode (codes "delete") (out-Tree x).attrs)) marks)
    (mark_among is_set) (λ x y s q. (ap (mark_key is_set) (same_tag q), ap (λ attrs. not (has_mode (codes "delete") attrs)) (same_attrs q)))
    (subst NoneTwice (sym (mapped (value_in element.ValItem (codes "ident")) collapsed_text (children_of t))) none) (same_children r)
    ∙ sym (fold-map (with_value is_set) tag_of [] (children_of u))

-- and so a list that is set
pub list_there : {t u : Tree} → IsReordered t u → ValuesApart t → list_given t ≡ list_given u
list_there r none = λ i. record { kind = unwrap_or (kind_in (same_attrs r i)) kind.Open; values = words_laid (values_there true r none i) [] }

-- and an edit of a list
pub val_edit_there : {t u : Tree} → IsReordered t u → ValuesApart t → val_edit_of t ≡ val_edit_of u
val_edit_there r none = λ i.
    if has_mode (codes "delete") (same_attrs r i) then vals.Delete
    else if has_mode (codes "change") (same_attrs r i) then vals.Change (kind_in (same_attrs r i)) (values_there false r none i) else vals.Set (list_there r none i)

-- Children in order

-- whether the children of an element stand in any order is told by its name
loose_by : (local : List ℕ) (t : Tree) → is_one_of (local ∷ []) t ≡ true
    → is_loose t ≡ is_among (codes "schemaSpec" ∷ codes "specGrp" ∷ codes "attList" ∷ codes "classes" ∷ codes "valList" ∷ []) local
loose_by local t h = ap (λ n. is_same n.ns tei_namespace && is_among (codes "schemaSpec" ∷ codes "specGrp" ∷ codes "attList" ∷ codes "classes" ∷ codes "valList" ∷ []) n.local) (one_named local t h)

-- so the children of one of another name are in order
pub fixed_there : (local : List ℕ) {t u : Tree} → is_among (codes "schemaSpec" ∷ codes "specGrp" ∷ codes "attList" ∷ codes "classes" ∷ codes "valList" ∷ []) local ≡ false → is_one_of (local ∷ []) t ≡ true → IsReordered t u
    → InOrder (children_of t) (children_of u)
fixed_there local {t} fixed named r = in_order (loose_by local t named ∙ fixed) (same_children r)

-- the child that is found in the one list and the one in the other
pub data IsFound (locals : List (List ℕ)) : Option Tree → Option Tree → Type 0 where
  none : IsFound locals None None
  some : {t u : Tree} → is_one_of locals t ≡ true → IsReordered t u → IsFound locals (Some t) (Some u)

-- in order the first ones of a name are found
pub first_found : (locals : List (List ℕ)) {ts us : List Tree} → InOrder ts us → IsFound locals (find (is_one_of locals) ts) (find (is_one_of locals) us)
first_found locals InOrder.none = IsFound.none
first_found locals (InOrder.each {t = t} {u = u} {ts = ts} {us = us} r rest) =
    subst (λ b. IsFound locals (find (is_one_of locals) (t ∷ ts)) (cond b (Some u) (find (is_one_of locals) us))) (same_one_of locals r) (by (is_one_of locals t) refl (first_found locals rest))
  where
    by : (b : Bool) → is_one_of locals t ≡ b → IsFound locals (find (is_one_of locals) ts) (find (is_one_of locals) us)
        → IsFound locals (cond b (Some t) (find (is_one_of locals) ts)) (cond b (Some u) (find (is_one_of locals) us))
    by true e later = IsFound.some e r
    by false e later = later

-- Attributes

-- a name in documents, of any element whose children are in order
alt_found : {o p : Option Tree} → IsFound (codes "altIdent" ∷ []) o p → option_map collapsed_in o ≡ option_map collapsed_in p
alt_found IsFound.none = refl
alt_found (IsFound.some is r) = ap Some (text_there r is)

pub alt_in_order : (t u : Tree) → InOrder (children_of t) (children_of u) → alt_given t ≡ alt_given u
alt_in_order t u order = alt_found (first_found (codes "altIdent" ∷ []) order)

-- what a `dataRef` says
item_there : {t u : Tree} → is_one_of (codes "dataRef" ∷ []) t ≡ true → IsReordered t u → item_given t ≡ item_given u
item_there is r = ap₂ item_in (same_attrs r) (tags_there (fixed_there (codes "dataRef") refl is r))

-- a datatype by its `dataRef`
ref_found : (d e : Tree) {o p : Option Tree} → IsReordered d e → IsFound (codes "dataRef" ∷ []) o p → datatype_by d o ≡ datatype_by e p
ref_found d e r IsFound.none = refl
ref_found d e r (IsFound.some is q) = ap₂ (λ attrs item. option_map (λ x. record { item = x; bounds = bounds_in attrs }) item) (same_attrs r) (item_there is q)

-- a datatype
datatype_found : {o p : Option Tree} → IsFound (codes "datatype" ∷ []) o p → datatype_in o ≡ datatype_in p
datatype_found IsFound.none = refl
datatype_found (IsFound.some {t = t} {u = u} is r) = ref_found t u r (first_found (codes "dataRef" ∷ []) (fixed_there (codes "datatype") refl is r))

-- an edit of a list of values, of which none stands twice
vals_found : {o p : Option Tree} → IsFound (codes "valList" ∷ []) o p → ((list : Tree) → o ≡ Some list → ValuesApart list) → option_map val_edit_of o ≡ option_map val_edit_of p
vals_found IsFound.none apart = refl
vals_found (IsFound.some {t = t} is r) apart = ap Some (val_edit_there r (apart t refl))

-- no value stands twice in the list of values of an `attDef`
abbrev pub ListApart : Tree → Type 0
ListApart def = (list : Tree) → first_named (codes "valList") def ≡ Some list → ValuesApart list

module _ {t u : Tree} (is : is_one_of (codes "attDef" ∷ []) t ≡ true) (r : IsReordered t u) where
  -- the children of an `attDef` are in order
  children_fixed : InOrder (children_of t) (children_of u)
  children_fixed = fixed_there (codes "attDef") refl is r

  -- the name in documents that it gives, and then its datatype and its usage
  pub alt_there : alt_given t ≡ alt_given u
  alt_there = alt_in_order t u children_fixed

  pub datatype_there : datatype_given t ≡ datatype_given u
  datatype_there = datatype_found (first_found (codes "datatype" ∷ []) children_fixed)

  usage_there : usage_given t ≡ usage_given u
  usage_there = ap (option_map (λ word. is_same word (codes "req"))) (same_given (codes "usage") r)

  module _ (apart : ListApart t) where
    -- the edit of its list of values
    pub vals_there : val_edit_given t ≡ val_edit_given u
    vals_there = vals_found (first_found (codes "valList" ∷ []) children_fixed) apart

    -- the edit that an `attDef` says
    pub edit_there : edit_of t ≡ edit_of u
    edit_there = λ i.
        if has_mode (codes "delete") (same_attrs r i) then edit.Delete
        else if has_mode (codes "change") (same_attrs r i) then edit.Change (record {
          alt = alt_there i;
          ns = same_given (codes "ns") r i;
          needed = usage_there i;
          datatype = datatype_there i;
          vals = vals_there i;
        })
        else edit.Set (record {
          alt = alt_there i;
          ns = same_given (codes "ns") r i;
          needed = unwrap_or (usage_there i) false;
          datatype = datatype_there i;
          vals = laid_at val_laid (vals_there i) None;
        })

-- Lists of attributes

-- what reordered lists list is reordered
listed_there : {t u : Tree} {defs others : List Tree} → IsReordered t u → Lists t defs → Lists u others → AreReordered true defs others
listed_there {defs = defs} r l o = let f = lists_there r l in subst (AreReordered true defs) (lists_one f.1 o) f.2

mutual
  -- what is listed is an `attDef`
  pub listed_named : {t def : Tree} {defs : List Tree} → Lists t defs → StandsIn defs def → is_definition def ≡ true
  listed_named (Lists.list f) s = among_named f s

  -- and so is what is listed among children
  among_named : {def : Tree} {ts defs : List Tree} → ListsAmong ts defs → StandsIn defs def → is_definition def ≡ true
  among_named {def} ListsAmong.nothing s = absurd (nothing_stands def s)
  among_named {def} (ListsAmong.definition {t = t} {defs = defs} d f) s = ⊎_elim (λ e. ap is_definition e ∙ d) (λ later. among_named f later) (first_or_later t def defs s)
  among_named {def} (ListsAmong.nested {inner = inner} {later = later} d k i f is) s =
      ⊎_elim (λ a. listed_named i a) (λ b. among_named f b) (stands_either inner later def (subst (λ xs. StandsIn xs def) is s))
  among_named (ListsAmong.other d k f) s = among_named f s

-- an edit is put where an ident is given
with_edit : (ident : Option (List ℕ)) (made : AttEdit) (edits : List (List ℕ × AttEdit)) → with_ident ident made edits ≡ with_key ident made edits
with_edit None made edits = refl
with_edit (Some ident) made edits = refl

-- the edits that an `attList` says, where no attribute and no value of one stands twice
pub edits_there : {t u : Tree} {edits others : List (List ℕ × AttEdit)} → IsReordered t u → ((defs : List Tree) → Lists t defs → NoneTwice (idents_of defs))
    → ((defs : List Tree) → Lists t defs → (def : Tree) → StandsIn defs def → ListApart def) → AreEditsOf t edits → AreEditsOf u others → edits ≡ others
edits_there r once each e o =
    e.are
    ∙ reordered_fold (λ def. given def (codes "ident")) edit_of with_definition (λ edits def. with_edit (given def (codes "ident")) (edit_of def) edits)
    (λ t u s q. (same_given (codes "ident") q, edit_there (listed_named e.listed s) q (each e.defs e.listed t s))) (once e.defs e.listed) (listed_there r e.listed o.listed)
    ∙ sym o.are

-- Content models

-- the element breaks nothing of what one of its kind may break
abbrev pub IsSoundAs : Element → ℕ → List Bind → Tree → Type 0
IsSoundAs e left around t = (rule : ℕ) → DeepFault e left around t rule → ⊥

-- so no value of a list stands twice
values_sound : {left : ℕ} {around : List Bind} {t : Tree} → IsSoundAs element.ValList left around t → ValuesApart t
values_sound sound value twice = sound 4 (DeepFault.itself (FormFault.own (OwnFault.demand _ (stands_first _ []) (DemandFault.collapsed_twice value twice))))

-- each part among some elements is such
abbrev pub AllParts : (Element → Tree → Type 0) → List Tree → Type 0
AllParts Fine ts = (kind : Element) (child : Tree) → StandsIn ts child → part_named (out-Tree child).name ≡ Some kind → Fine kind child

-- A list of values that is such has none twice, and in a sequence or an alternation that is each part is such.
pub record AreKept (Fine : Element → Tree → Type 0) : Type 0 where
  pub values : (t : Tree) → Fine element.ValList t → ValuesApart t
  pub sequence : (t : Tree) → Fine element.Sequence t → AllParts Fine (children_of t)
  pub alternate : (t : Tree) → Fine element.Alternate t → AllParts Fine (children_of t)

-- the part of the kind has the name of the kind
part_is : (kind : Element) (t : Tree) → part_named (out-Tree t).name ≡ Some kind → is_one_of ((form_at kind).name ∷ []) t ≡ true
part_is kind t named = named_one (form_at kind).name t (child_named element.Content kind t named)

-- no part is both absent and there
not_both : {A : Type 0} {x : A} (o p : Option A) → o ≡ p → o ≡ None → p ≡ Some x → ⊥
not_both o p same e f = let no : None ≡ Some _ = sym e ∙ same ∙ f in cc

-- a part of the kind says what the other says, where the parts in it do
same_content : (Fine : Element → Tree → Type 0) → AreKept Fine → {around binds : List Bind} {t u : Tree} {parts others : List Content} → IsReordered t u → around ≡ binds
    → (AllParts Fine (children_of t) → InOrder (children_of t) (children_of u) → parts ≡ others) → (kind : Element) → part_named (out-Tree t).name ≡ Some kind → Fine kind t
    → part_content kind (within around t) (out-Tree t).attrs (tags_in t) parts ≡ part_content kind (within binds u) (out-Tree u).attrs (tags_in u) others
same_content Fine kept {t = t} r same inner element.Sequence named fine =
    ap₂ (λ attrs ps. content.Sequence ps (bounds_in attrs)) (same_attrs r) (inner (kept.sequence t fine) (fixed_there (codes "sequence") refl (part_is element.Sequence t named) r))
same_content Fine kept {t = t} r same inner element.Alternate named fine =
    ap₂ (λ attrs ps. content.Alternate ps (bounds_in attrs)) (same_attrs r) (inner (kept.alternate t fine) (fixed_there (codes "alternate") refl (part_is element.Alternate t named) r))
same_content Fine kept {t = t} r same inner element.ValList named fine = ap content.Vals (list_there r (kept.values t fine))
same_content Fine kept {t = t} r same inner element.DataRef named fine =
    ap₂ (λ attrs tags. value_content (item_in attrs tags)) (same_attrs r) (tags_there (fixed_there (codes "dataRef") refl (part_is element.DataRef t named) r))
same_content Fine kept r same inner element.ElementRef named fine = ap (λ attrs. content.Element (key_in attrs) (bounds_in attrs)) (same_attrs r)
same_content Fine kept r same inner element.ClassRef named fine = ap (λ attrs. content.Class (key_in attrs) (pick_in attrs) (bounds_in attrs)) (same_attrs r)
same_content Fine kept r same inner element.MacroRef named fine = ap (λ attrs. content.Macro (key_in attrs) (bounds_in attrs)) (same_attrs r)
same_content Fine kept r same inner element.AnyElement named fine =
    ap₂ (λ declared attrs. content.Any (condition_of declared (words_in attrs (codes "require")) (words_in attrs (codes "except"))) (bounds_in attrs)) (ap₂ (λ a b. a ++ b) same (same_binds r)) (same_attrs r)
same_content Fine kept r same inner kind named fine = refl

module _ (Fine : Element → Tree → Type 0) (kept : AreKept Fine) where
  mutual
    -- a part says what the other says
    part_there : {around binds : List Bind} {t u : Tree} {c d : Content} → ((kind : Element) → part_named (out-Tree t).name ≡ Some kind → Fine kind t) → IsReordered t u
        → around ≡ binds → IsPart around t c → IsPart binds u d → c ≡ d
    part_there {binds = binds} {u = u} fine r same (IsPart.part kind is f) (IsPart.part {parts = others} other at h) =
        same_content Fine kept r same (λ fines order. parts_there fines order (ap₂ (λ a b. a ++ b) same (same_binds r)) f h) kind is (fine kind is)
        ∙ ap (λ k. part_content k (within binds u) (out-Tree u).attrs (tags_in u) others) (same_Some kind other (sym is ∙ ap part_named (same_name r) ∙ at))

    -- the parts of elements in order say what the others say
    parts_there : {around binds : List Bind} {ts us : List Tree} {cs ds : List Content} → AllParts Fine ts → InOrder ts us → around ≡ binds → AreParts around ts cs
        → AreParts binds us ds → cs ≡ ds
    parts_there fines InOrder.none same AreParts.nothing AreParts.nothing = refl
    parts_there {ts = t ∷ ts} fines (InOrder.each r rest) same (AreParts.other e f) (AreParts.other g h) =
        parts_there (λ kind child s. fines kind child (stands_later t child ts s)) rest same f h
    parts_there fines (InOrder.each r rest) same (AreParts.other e f) (AreParts.more (IsPart.part kind is g) h) = absurd (not_both _ _ (ap part_named (same_name r)) e is)
    parts_there fines (InOrder.each r rest) same (AreParts.more (IsPart.part kind is g) f) (AreParts.other e h) = absurd (not_both _ _ (sym (ap part_named (same_name r))) e is)
    parts_there {ts = t ∷ ts} fines (InOrder.each r rest) same (AreParts.more p f) (AreParts.more q h) =
        ap₂ (λ c cs. c ∷ cs) (part_there (λ kind. fines kind t (stands_first t ts)) r same p q) (parts_there (λ kind child s. fines kind child (stands_later t child ts s)) rest same f h)

  -- the content model that a `content` says, of which each part is such
  pub content_by : (around : List Bind) {t u : Tree} → IsReordered t u → is_one_of (codes "content" ∷ []) t ≡ true → AllParts Fine (children_of t) → content_of around t ≡ content_of around u
  content_by around {t} {u} r is fines =
      ap joined_parts (parts_there fines (fixed_there (codes "content") refl is r) (same_within around r) (parts_given around t) (parts_given around u))

-- the part breaks nothing, at some depth
abbrev pub IsSoundPart : Element → Tree → Type 0
IsSoundPart kind t = (left : ℕ) × (around : List Bind) × IsSoundAs kind left around t

pub sound_kept : AreKept IsSoundPart
sound_kept = record {
  values = λ t fine. values_sound fine.2;
  sequence = λ t fine kind child s n. (_, _, λ rule f. fine.2 rule (DeepFault.inside kind child s n f));
  alternate = λ t fine kind child s n. (_, _, λ rule f. fine.2 rule (DeepFault.inside kind child s n f));
}

-- the content model that a `content` says that breaks nothing, however deep the levels in it may be
pub content_there : (left : ℕ) (around : List Bind) {t u : Tree} → IsReordered t u → is_one_of (codes "content" ∷ []) t ≡ true → IsSoundAs element.Content left around t → content_of around t ≡ content_of around u
content_there left around r is sound = content_by IsSoundPart sound_kept around r is (λ kind child s n. (_, _, λ rule f. sound rule (DeepFault.inside kind child s n f)))
