-- What the `content` of a `dataSpec` gives which breaks no rule: it is formed, and of the forms that the content of a datatype has.
use Rattle.std.proofs.Common.{◌≡◌, ◌≢◌, ◌-◌, ◌+◌, ℕ, cond, List, [], ◌∷◌, ◌&&◌, ◌||◌, Bool, true, false, Option, Some, None, All, codes, length, refl, sym, ap, subst, ◌∙◌, arith, ⊎_elim}
use Rattle.std.specs.List.{find, list_any}
use Rattle.std.specs.Option.{IfSome, option_map}
use Rattle.std.specs.Prelude.{count_by, is_some, nat_le, unwrap_or}
use Rattle.std.specs.Cmp.Lexicographic.{same_text}
use Rattle.std.proofs.lemmas.Bool.{cases_Bool, false_from_ne_true}
use Rattle.std.proofs.lemmas.Bool.Decides.{eqb_tells}
use Rattle.std.proofs.lemmas.List.Elements.{All-cons, All-head, All-nil, All-tail}
use Rattle.std.proofs.lemmas.List.Folds.{list_any-append}
use Rattle.std.proofs.lemmas.List.Sums.{length-filter, sum_by-append, sum_by-cons}
use Rattle.std.proofs.lemmas.Option.{same_Some}
use Rattle.odd_text.specs.declared.name.Bind.{Bind}
use Rattle.odd_text.specs.declared.name.Name.{Name}
use Rattle.odd_text.specs.Same.{is_same}
use Rattle.odd_text.proofs.InList.{stands_first, stands_later}
use Rattle.odd_text.specs.Standing.{StandsIn}
use Rattle.odd_tree.specs.Elements.{children_of, given, within}
use Rattle.odd_tree.specs.Formed.{IsFormed}
use Rattle.odd_tree.specs.declared.tree.Tree.{Tree, out-Tree}
use Rattle.rng_types.specs.declared.item.Item.{Item}
use Rattle.rng_types.specs.Bounds.{IsFormedBounds}
use Rattle.rng_values.specs.Items.{ItemFault}
use Rattle.odd_forms.proofs.Children.{child_named}
use Rattle.odd_forms.specs.Children.{IsChild}
use Rattle.odd_forms.specs.Deep.{DeepFault, is_level, left_inside}
use Rattle.odd_forms.specs.Faults.{DemandFault, FormFault, OwnFault, count_named, element_among}
use Rattle.odd_forms.specs.Form.{number_told}
use Rattle.odd_forms.specs.Form as form
use Rattle.odd_forms.specs.Names.{HasName, tei, tei_namespace}
use Rattle.odd_forms.specs.Table.{data_parts, form_at, other_parts, parts}
use Rattle.odd_forms.specs.Tags.{facets_given}
use Rattle.odd_text.specs.Same.{is_among}
use Rattle.odd_forms.specs.declared.element.Element.{Element}
use Rattle.odd_forms.specs.declared.element.Element.TheVariants as kind
use Rattle.odd_content.proofs.FormedData.{data_formed}
use Rattle.odd_content.proofs.FormedTrees.{IsFormedSomewhere, child_formed}
use Rattle.odd_content.proofs.Unbroken.{IsUnbroken, by_text, child_kept}
use Rattle.odd_content.specs.FormedData.{IsFormedData}
use Rattle.odd_content.specs.Items.{item_by, item_given}
use Rattle.odd_content.specs.Occurrence.{bounds_in, maximum_told}
use Rattle.odd_content.proofs.EachPart.{AreParts, IsPart, parts_given}
use Rattle.odd_content.proofs.Formed.{once_formed, parts_counted, parts_listed, values_formed}
use Rattle.odd_content.specs.Formed.{AreOfData, IsFormedContent, IsFormedWithin, IsOfData, once}
use Rattle.odd_content.specs.Giving.{content_of, joined_parts, part_named, parts_in, value_content}
use Rattle.odd_content.specs.declared.content.Content.{Content, Row_of-Content, end_of-Content, more_of-Content, items-the_row-Content, items_hidden-the_row-Content-0}
use Rattle.odd_content.specs.declared.content.Content.TheBlock.{hidden-the_row-Content-0}

-- the element has the name, and the first of some elements that does
abbrev is_of_name : Name → Element → Bool
is_of_name n e = is_same n.ns tei_namespace && is_among ((form_at e).name ∷ []) n.local

abbrev named_among : List Element → Name → Option Element
named_among es n = find (is_of_name n) es

-- one is found where one passes
found_any : {A : Type 0} (test : A → Bool) (xs : List A) → is_some (find test xs) ≡ list_any test xs
found_any test [] = refl
found_any test (x ∷ xs) = ⊎_elim (λ h. rw h refl) (λ h. rw h (found_any test xs)) (cases_Bool (test x))

turned : (d v a s r : Bool) → (d || (v || (a || (s || r)))) ≡ (s || (a || (r || (d || (v || false)))))
turned d v a s r = grind arith

-- the parts of a content are those that are read in the content of a datatype
same_parts : (n : Name) → is_some (named_among data_parts n) ≡ is_some (part_named n)
same_parts n =
    let p = is_of_name n in
    let between : List Element = kind.ElementRef ∷ kind.ClassRef ∷ kind.MacroRef ∷ kind.AnyElement ∷ kind.TextNode ∷ kind.Empty ∷ [] in
    found_any p data_parts ∙ turned (p kind.DataRef) (p kind.ValList) (p kind.Alternate) (p kind.Sequence) (list_any p between)
    ∙ ap (λ b. p kind.Sequence || (p kind.Alternate || b)) (sym (list_any-append p between (kind.DataRef ∷ kind.ValList ∷ []))) ∙ sym (found_any p parts)

-- what passes a test is counted
counted : {A : Type 0} (test : A → Bool) (xs : List A) (x : A) → StandsIn xs x → test x ≡ true → count_by test xs ≢ 0
counted {A} test xs x s passes none =
    let one : A → ℕ = λ y. cond (test y) 1 0 in
    let e : count_by test xs ≡ count_by test s.0 + (one x + count_by test s.1) =
    ap (count_by test) s.2 ∙ sum_by-append one s.0 (x ∷ s.1) ∙ ap (λ n. count_by test s.0 + n) (sum_by-cons one x s.1) in
    let p : one x ≡ 1 = rw passes refl in
    omega (arith, e, p, none)

-- an item that is said and formed
value_of_data : (left : ℕ) (o : Option Item) → IfSome o IsFormedData → o ≢ None → IsFormedWithin left (value_content o) × IsOfData (value_content o)
value_of_data left None formed some = absurd (some refl)
value_of_data left (Some item) formed some = (formed, tt)

unmapped : {A B : Type 0} (f : A → B) (o : Option A) → option_map f o ≡ None → o ≡ None
unmapped f None e = refl
unmapped f (Some x) e = cc

-- a number that can be none but 1, and bounds of such numbers
one_told : (o : Option ℕ) → (o ≢ Some 1 → ⊥) → o ≡ Some 1
one_told None sure = absurd (sure (λ e. cc))
one_told (Some n) sure = ⊎_elim (λ is. ap Some is.1) (λ other. absurd (sure (λ e. other.1 (same_Some n 1 e)))) (eqb_tells n 1)

most_once : (o : Option (List ℕ)) → number_told o ≡ Some 1 → maximum_told o ≡ Some 1
most_once None e = refl
most_once (Some value) e =
    ⊎_elim (λ u. (let never : number_told (Some (codes "unbounded")) ≡ Some 1 = sym (ap (λ v. number_told (Some v)) (same_text value (codes "unbounded") (sym u))) ∙ e in cc))
    (λ u. rw u (ap (λ n. Some (unwrap_or n 1)) e)) (cases_Bool (is_same value (codes "unbounded")))

-- in an element that breaks nothing no demand is broken
module _ {e : Element} {left : ℕ} {around : List Bind} {t : Tree} (unbroken : IsUnbroken (DeepFault e left around t)) where
  demand_kept : (d : form.Demand) → StandsIn (form_at e).demands d → IsUnbroken (DemandFault (within around t) t d)
  demand_kept d s rule f = unbroken rule (DeepFault.itself (FormFault.own (OwnFault.demand d s f)))

  -- that is asked to stand once, it does
  once_told : StandsIn (form_at e).demands (form.once (codes "minOccurs")) → StandsIn (form_at e).demands (form.once (codes "maxOccurs")) → bounds_in (out-Tree t).attrs ≡ once
  once_told least most =
      let min_is = ap (λ o. unwrap_or o 1) (one_told (number_told (given t (codes "minOccurs"))) (λ other. demand_kept _ least 2 (DemandFault.not_once other))) in
      let max_is = most_once (given t (codes "maxOccurs")) (one_told (number_told (given t (codes "maxOccurs"))) (λ other. demand_kept _ most 2 (DemandFault.not_once other))) in
      λ i. record { min = min_is i; max = max_is i }

  -- that is asked for a key or a name, and for an item, says one
  item_told : StandsIn (form_at e).demands (form.either (codes "key") (codes "name")) → StandsIn (form_at e).demands form.typed → item_given t ≢ None
  item_told either typed =
      by_text (given t (codes "key")) (λ o. item_by o (given t (codes "name")) (facets_given t) ≢ None)
      (λ no_key. by_text (given t (codes "name")) (λ o. item_by None o (facets_given t) ≢ None) (λ no_name none. demand_kept _ either 1 (DemandFault.neither no_key no_name))
      (λ name is none. demand_kept _ typed 2 (DemandFault.no_item name is (ItemFault.unknown (unmapped _ _ none)))))
      (λ key is none. cc)

-- the element is formed, none of those that may not stand in the content of a datatype, and breaks nothing as the part of one that it is, where so many
-- levels may still open
abbrev IsDataPart : ℕ → List Bind → Tree → Type 0
IsDataPart left around t = IsFormedSomewhere t × (is_some (element_among other_parts t) ≡ false) × ((e : Element) → element_among data_parts t ≡ Some e → IsUnbroken (DeepFault e left around t))

-- so are the children of an element that breaks nothing and has such parts
data_children : {e : Element} {left first end : ℕ} {around : List Bind} {t : Tree} → IsFormed first end t → IsUnbroken (DeepFault e left around t) → StandsIn (form_at e).demands (form.no_part other_parts)
    → ((child : Tree) (kind : Element) → element_among data_parts child ≡ Some kind → IsChild e kind child) → (child : Tree) → StandsIn (children_of t) child
    → IsDataPart (left_inside (is_level (form_at e) t) left) (within around t) child
data_children {t = t} formed unbroken demand of_kind child s = (
  child_formed formed child s,
  false_from_ne_true _ (λ is. demand_kept unbroken _ demand 3 (DemandFault.misplaced (counted (λ u. is_some (element_among other_parts u)) (children_of t) child s is))),
  λ kind is. child_kept unbroken child s kind (of_kind child kind is),
)

-- parts of the forms that data has
rows_of_data : {n : _} (row : Row_of-Content n) → All IsOfData (items-the_row-Content n row) → AreOfData row
rows_of_data end_of-Content all = tt
rows_of_data (more_of-Content part row) all = (All-head IsOfData part _ all, rows_of_data row (All-tail IsOfData part _ all))

parts_of_data : (parts : List Content) → All IsOfData parts → AreOfData (hidden-the_row-Content-0 parts)
parts_of_data parts all = rows_of_data (hidden-the_row-Content-0 parts) (subst (All IsOfData) (sym (items_hidden-the_row-Content-0 parts)) all)

-- a content that is formed and of data
abbrev IsData : ℕ → Content → Type 0
IsData left c = IsFormedWithin left c × IsOfData c

mutual
  -- what a part gives
  data_part : (left : ℕ) {around : List Bind} {t : Tree} {c : Content} → IsPart around t c → IsDataPart left around t → IsData left c
  data_part left {t = t} (IsPart.part kind.DataRef is are) (formed, apart, unbroken) =
      let u = unbroken kind.DataRef (ap (named_among data_parts) (child_named kind.Content kind.DataRef t is)) in
      value_of_data left (item_given t) (data_formed u formed.2 ([], _, refl) (_ ∷ _ ∷ _ ∷ _ ∷ _ ∷ _ ∷ [], _, refl)) (item_told u (_ ∷ _ ∷ [], _, refl) (_ ∷ _ ∷ _ ∷ _ ∷ _ ∷ _ ∷ [], _, refl))
  data_part left {t = t} (IsPart.part kind.ValList is are) (formed, apart, unbroken) =
      (values_formed t formed (unbroken kind.ValList (ap (named_among data_parts) (child_named kind.Content kind.ValList t is))), tt)
  data_part left {t = t} (IsPart.part {parts = parts} kind.Alternate is are) (formed, apart, unbroken) =
      let u = unbroken kind.DataAlternate (ap (named_among data_parts) (child_named kind.Content kind.Alternate t is)) in
      let closed : left ≡ 0 → ⊥ = λ none. u 2 (DeepFault.deep refl none) in
      let bounds_are = once_told u ([], _, refl) (_ ∷ [], _, refl) in
      let inner = data_parts_of (left - 1) are (data_children formed.2 u (_ ∷ _ ∷ [], _, refl) (λ child kind is. is)) in
      ((omega arith, parts_listed (left - 1) parts (λ k d l. (inner k d l).0), subst IsFormedBounds (sym bounds_are) once_formed), (bounds_are, parts_of_data parts (λ k d l. (inner k d l).1)))
  data_part left {t = t} (IsPart.part other is are) (formed, apart, unbroken) =
      let named : HasName (form_at other).name t = child_named kind.Content other t is in
      let one : named_among parts (tei (form_at other).name) ≡ Some other = sym (ap (named_among parts) named) ∙ is in
      let none : is_some (named_among other_parts (tei (form_at other).name)) ≡ false = sym (ap (λ n. is_some (named_among other_parts n)) named) ∙ apart in
      cc

  -- and several
  data_parts_of : (left : ℕ) {around : List Bind} {ts : List Tree} {cs : List Content} → AreParts around ts cs → ((t : Tree) → StandsIn ts t → IsDataPart left around t) → All (IsData left) cs
  data_parts_of left AreParts.nothing each = All-nil (IsData left)
  data_parts_of left (AreParts.other {t = t} {ts = ts} none later) each = data_parts_of left later (λ u s. each u (stands_later t u ts s))
  data_parts_of left (AreParts.more {t = t} {ts = ts} {c = c} {cs = cs} one later) each =
      All-cons (IsData left) c cs (data_part left one (each t (stands_first t ts))) (data_parts_of left later (λ u s. each u (stands_later t u ts s)))

-- the content of a single part
joined_one : (P : Content → Type 0) (cs : List Content) → length cs ≡ 1 → All P cs → P (joined_parts cs)
joined_one P [] e all = absurd (omega (arith, e))
joined_one P (c ∷ []) e all = All-head P c [] all
joined_one P (c ∷ _ ∷ cs) e all = absurd (omega (arith, e))

-- the content of a datatype that breaks nothing
pub data_content_formed : (around : List Bind) (t : Tree) {first end : ℕ} → IsFormed first end t → ((rule : ℕ) → DeepFault kind.DataContent 60 around t rule → ⊥)
    → IsFormedContent (content_of around t) × IsOfData (content_of around t)
data_content_formed around t formed unbroken =
    let are = parts_given around t in
    let one : count_named data_parts t ≡ 1 =
    ⊎_elim (λ is. is.1) (λ other. absurd (demand_kept unbroken (form.one_part data_parts) ([], _, refl) 3 (DemandFault.not_one other.1))) (eqb_tells (count_named data_parts t) 1) in
    let is_part = λ (u : Tree). is_some (part_named (out-Tree u).name) in
    let count_is = sym (parts_counted are) ∙ length-filter is_part (children_of t) ∙ ap (λ f. count_by f (children_of t)) (λ i u. sym (same_parts (out-Tree u).name) i) ∙ one in
    let level : is_level (form_at kind.DataContent) t ≡ false = ap (nat_le 2) one in
    let each = data_parts_of (left_inside (is_level (form_at kind.DataContent) t) 60) are (data_children formed unbroken (_ ∷ [], _, refl) (λ child kind is. is)) in
    joined_one (IsData 60) (parts_in (within around t) (out-Tree t).children) count_is (subst (λ b. All (IsData (left_inside b 60)) (parts_in (within around t) (out-Tree t).children)) level each)
