-- The least rule that a value, an attribute and what must also hold break.
use Rattle.std.proofs.Common.{◌≡◌, ◌≢◌, ◌↔◌, ◌≤◌, ◌<◌, ℕ, Bool, true, false, not, ◌&&◌, if◌then◌else◌, List, [], Option, Some, None, refl, sym, ap, ◌∙◌, subst, arith, map, Result, Ok, Err}
use Rattle.std.specs.Prelude.{Decides, IfOk, IsTrue, codes, is_some, nat_eq, nat_lt}
use Rattle.std.specs.Option.{option_eq}
use Rattle.std.proofs.lemmas.Bool.{and_from, and_parts, both_ways, false_from_ne_true, lt-ltb, ltb-true, not-true}
use Rattle.std.proofs.lemmas.Bool.Decides.{Decides-eqb, Decides-not}
use Rattle.std.proofs.lemmas.Option.{same_Some}
use Rattle.odd_text.specs.declared.name.Bind.{Bind}
use Rattle.odd_tree.specs.declared.tree.Tree.{Tree}
use Rattle.odd_tree.specs.Elements.{given}
use Rattle.rng_values.specs.Treated.{collapsed_text}
use Rattle.odd_forms.specs.Excepting.{has_unbound}
use Rattle.odd_text.specs.Standing.{StandsTwice}
use Rattle.odd_forms.specs.declared.element.Element.{Element}
use Rattle.rng_types.specs.declared.facet.FacetText.{FacetText}
use Rattle.rng_values.specs.Items.{ItemFault}
use Rattle.odd_forms.specs.Faults.{AttributeFault, DemandFault, ValueFault, count_named, has_named, idents_of, values_in}
use Rattle.odd_forms.specs.Form.{AttributeForm, Kind, Suits, in_order, needed_unless, not_both, bound, apart, apart_collapsed, attributes_apart, either, not_beside, no_child_beside, has_child, one_part, no_part, once, own_text, typed, number_told}
use Rattle.odd_text.specs.Least.{IsLeast}
use Rattle.odd_forms.specs.Listing.{Lists}
use Rattle.odd_forms.specs.Tags.{facets_given}
use Rattle.odd_forms.specs.Texts.{collapsed_in}
use Rattle.odd_text.specs.Same.{is_among}
use Rattle.odd_forms.specs.Words.{is_given_among, words_given}
use Rattle.odd_text.proofs.Least.{least_if, least_same}
use Rattle.odd_forms.proofs.Listed.{lists_one}

-- a value that is left out
pub left_out_least : (a : AttributeForm) (v : List ℕ) → IsTrue (is_among a.left_out v) → IsLeast (ValueFault a v) (Some 2)
left_out_least a v h = (ValueFault.left_out h, least)
  where
    least : (other : ℕ) → ValueFault a v other → 2 ≤ other
    least other (ValueFault.left_out k) = omega arith
    least other (ValueFault.malformed n s) = absurd (both_ways (is_among a.left_out v) n h)

-- one that is not, where a test tells whether it is of the kind
pub value_least : (a : AttributeForm) (v : List ℕ) (b : Bool) → is_among a.left_out v ≡ false → (IsTrue b ↔ Suits a.kind v) → IsLeast (ValueFault a v) (if not b then Some a.rule else None)
value_least a v b n tells = least_if (ValueFault a v) (not b) a.rule (λ h. ValueFault.malformed n (λ s. both_ways b (not-true b h) (tells.1 s))) back
  where
    back : (other : ℕ) → ValueFault a v other → (not b ≡ true) × (other ≡ a.rule)
    back other (ValueFault.left_out h) = absurd (both_ways (is_among a.left_out v) n h)
    back other (ValueFault.malformed n s) = (ap not (false_from_ne_true b (λ h. s (tells.0 h))), refl)

-- an attribute that is given
pub given_least : (a : AttributeForm) (t : Tree) (v : List ℕ) (o : Option ℕ) → given t a.local ≡ Some v → IsLeast (ValueFault a v) o → IsLeast (AttributeFault a t) o
given_least a t v o e = least_same (ValueFault a v) (AttributeFault a t) o (λ rule f. AttributeFault.value v e f) back
  where
    back : (rule : ℕ) → AttributeFault a t rule → ValueFault a v rule
    back rule (AttributeFault.absent h g) = let no : Some v ≡ None = sym e ∙ g in cc
    back rule (AttributeFault.value w g f) = subst (λ x. ValueFault a x rule) (same_Some _ _ (sym g ∙ e)) f

-- one that is absent
pub absent_least : (a : AttributeForm) (t : Tree) → given t a.local ≡ None → IsLeast (AttributeFault a t) (if a.needed then Some 1 else None)
absent_least a t e = least_if (AttributeFault a t) a.needed 1 (λ h. AttributeFault.absent h e) back
  where
    back : (other : ℕ) → AttributeFault a t other → (a.needed ≡ true) × (other ≡ 1)
    back other (AttributeFault.absent h g) = (h, refl)
    back other (AttributeFault.value v g f) = let no : None ≡ Some v = sym e ∙ g in cc

-- two numbers that are told
pub order_least : (binds : List Bind) (t : Tree) (least most : List ℕ) (m n : ℕ) → number_told (given t least) ≡ Some m → number_told (given t most) ≡ Some n
    → IsLeast (DemandFault binds t (in_order least most)) (if nat_lt n m then Some 3 else None)
order_least binds t least most m n em en = least_if (DemandFault binds t (in_order least most)) (nat_lt n m) 3 (λ h. DemandFault.out_of_order m n em en (ltb-true n m h)) back
  where
    back : (rule : ℕ) → DemandFault binds t (in_order least most) rule → (nat_lt n m ≡ true) × (rule ≡ 3)
    back rule (DemandFault.out_of_order k l ek el h) =
        let one : m ≡ k = same_Some _ _ (sym em ∙ ek) in
        let other : n ≡ l = same_Some _ _ (sym en ∙ el) in
        let less : n < m = omega arith in
        (lt-ltb n m less, refl)

-- a word in both, where a test tells of both
pub both_least : (binds : List Bind) (t : Tree) (one other : List ℕ) (b : Bool) → (IsTrue b ↔ (words_given t one ≢ []) × (words_given t other ≢ [])) → IsLeast (DemandFault binds t (not_both one other)) (if b then Some 3 else None)
both_least binds t one other b tells = least_if (DemandFault binds t (not_both one other)) b 3 (λ h. DemandFault.both (tells.0 h).0 (tells.0 h).1) back
  where
    back : (rule : ℕ) → DemandFault binds t (not_both one other) rule → (b ≡ true) × (rule ≡ 3)
    back rule (DemandFault.both h k) = (tells.1 (h, k), refl)

-- no value is there where the test for one fails
absent : (value : Option (List ℕ)) → is_some value ≡ false → value ≡ None
absent None h = refl
absent (Some v) h = cc

-- an attribute that is absent where another does not tell that it may be
pub needed_least : (binds : List Bind) (t : Tree) (local by : List ℕ) (words : List (List ℕ))
    → IsLeast (DemandFault binds t (needed_unless local by words)) (if not (is_some (given t local)) && not (is_given_among words (given t by)) then Some 1 else None)
needed_least binds t local by words = least_if (DemandFault binds t (needed_unless local by words)) (not there && not told) 1 into back
  where
    there : Bool
    there = is_some (given t local)

    told : Bool
    told = is_given_among words (given t by)

    into : (not there && not told) ≡ true → DemandFault binds t (needed_unless local by words) 1
    into h = let p = and_parts (not there) (not told) h in DemandFault.missing (absent (given t local) (not-true there p.0)) (not-true told p.1)

    back : (rule : ℕ) → DemandFault binds t (needed_unless local by words) rule → ((not there && not told) ≡ true) × (rule ≡ 1)
    back rule (DemandFault.missing h k) = (and_from (not there) (not told) (ap (λ v. not (is_some v)) h) (ap not k), refl)

-- a prefix that is not bound
pub unbound_least : (binds : List Bind) (t : Tree) (local : List ℕ) → IsLeast (DemandFault binds t (bound local)) (if has_unbound binds (words_given t local) then Some 1 else None)
unbound_least binds t local = least_if (DemandFault binds t (bound local)) (has_unbound binds (words_given t local)) 1 (λ h. DemandFault.unbound h) back
  where
    back : (rule : ℕ) → DemandFault binds t (bound local) rule → (has_unbound binds (words_given t local) ≡ true) × (rule ≡ 1)
    back rule (DemandFault.unbound h) = (h, refl)

-- two attributes of which neither is there
pub neither_least : (binds : List Bind) (t : Tree) (one other : List ℕ) → is_some (given t one) ≡ false → is_some (given t other) ≡ false → IsLeast (DemandFault binds t (either one other)) (Some 1)
neither_least binds t one other g h = (DemandFault.neither (absent (given t one) g) (absent (given t other) h), least)
  where
    least : (rule : ℕ) → DemandFault binds t (either one other) rule → 1 ≤ rule
    least rule (DemandFault.neither k l) = omega arith
    least rule (DemandFault.both_given k l) = omega arith

-- and both of which are
pub both_given_least : (binds : List Bind) (t : Tree) (one other : List ℕ) → is_some (given t one) ≡ true → is_some (given t other) ≡ true → IsLeast (DemandFault binds t (either one other)) (Some 3)
both_given_least binds t one other g h = (DemandFault.both_given g h, least)
  where
    least : (rule : ℕ) → DemandFault binds t (either one other) rule → 3 ≤ rule
    least rule (DemandFault.neither k l) = absurd (both_ways _ (ap is_some k) g)
    least rule (DemandFault.both_given k l) = omega arith

-- an attribute beside another
pub beside_least : (binds : List Bind) (t : Tree) (local by : List ℕ)
    → IsLeast (DemandFault binds t (not_beside local by)) (if is_some (given t local) && is_some (given t by) then Some 2 else None)
beside_least binds t local by =
    least_if (DemandFault binds t (not_beside local by)) (is_some (given t local) && is_some (given t by)) 2 (λ h. let p = and_parts _ _ h in DemandFault.beside p.0 p.1) back
  where
    back : (rule : ℕ) → DemandFault binds t (not_beside local by) rule → ((is_some (given t local) && is_some (given t by)) ≡ true) × (rule ≡ 2)
    back rule (DemandFault.beside h k) = (and_from _ _ h k, refl)

-- a child that is absent where an attribute does not tell that it may be
pub needed_child_least : (binds : List Bind) (t : Tree) (e : Element) (by : List ℕ) (words : List (List ℕ))
    → IsLeast (DemandFault binds t (has_child e by words)) (if not (has_named e t) && not (is_given_among words (given t by)) then Some 3 else None)
needed_child_least binds t e by words = least_if (DemandFault binds t (has_child e by words)) (not there && not told) 3 into back
  where
    there : Bool
    there = has_named e t

    told : Bool
    told = is_given_among words (given t by)

    into : (not there && not told) ≡ true → DemandFault binds t (has_child e by words) 3
    into h = let p = and_parts (not there) (not told) h in DemandFault.no_child (not-true there p.0) (not-true told p.1)

    back : (rule : ℕ) → DemandFault binds t (has_child e by words) rule → ((not there && not told) ≡ true) × (rule ≡ 3)
    back rule (DemandFault.no_child h k) = (and_from (not there) (not told) (ap not h) (ap not k), refl)

-- a text, where a test tells whether it is of the kind
pub text_least : (binds : List Bind) (t : Tree) (k : Kind) (b : Bool) → (IsTrue b ↔ Suits k (collapsed_in t)) → IsLeast (DemandFault binds t (own_text k)) (if not b then Some 1 else None)
text_least binds t k b tells = least_if (DemandFault binds t (own_text k)) (not b) 1 (λ h. DemandFault.not_of_kind (λ s. both_ways b (not-true b h) (tells.1 s))) back
  where
    back : (rule : ℕ) → DemandFault binds t (own_text k) rule → (not b ≡ true) × (rule ≡ 1)
    back rule (DemandFault.not_of_kind other) = (ap not (false_from_ne_true b (λ h. other (tells.0 h))), refl)

-- what a datatype breaks that was told as a result
pub item_least : {E : Type 0} (name : List ℕ) (facets others : List FacetText) (r : Result (Option ℕ) E) → facets ≡ others → (r ≡ Ok None → (rule : ℕ) → ItemFault name facets rule → ⊥)
    → ((rule : ℕ) → r ≡ Ok (Some rule) → ItemFault name facets rule × ((other : ℕ) → ItemFault name facets other → rule ≤ other)) → IfOk r (IsLeast (ItemFault name others))
item_least {E} name facets others r same sound least = subst (λ fs. IfOk r (IsLeast (ItemFault name fs))) same (told r refl)
  where
    told : (made : Result (Option ℕ) E) → r ≡ made → IfOk made (IsLeast (ItemFault name facets))
    told (Ok None) is = sound is
    told (Ok (Some rule)) is = least rule is
    told (Err e) is = tt

-- a datatype that is named
pub typed_least : (binds : List Bind) (t : Tree) (name : List ℕ) (o : Option ℕ) → given t (codes "name") ≡ Some name → IsLeast (ItemFault name (facets_given t)) o → IsLeast (DemandFault binds t typed) o
typed_least binds t name o e = least_same (ItemFault name (facets_given t)) (DemandFault binds t typed) o (λ rule f. DemandFault.no_item name e f) back
  where
    back : (rule : ℕ) → DemandFault binds t typed rule → ItemFault name (facets_given t) rule
    back rule (DemandFault.no_item other g f) = subst (λ x. ItemFault x (facets_given t) rule) (same_Some _ _ (sym g ∙ e)) f

-- two values are one
abbrev pub HasTwice : List (List ℕ) → Type 0
HasTwice values = (value : List ℕ) × StandsTwice (λ v. v ≡ value) values

-- one value in two children, where a test tells whether there is
pub apart_least : (binds : List Bind) (t : Tree) (e : Element) (local : List ℕ) (b : Bool) → (IsTrue b ↔ HasTwice (values_in e local t)) → IsLeast (DemandFault binds t (apart e local)) (if b then Some 4 else None)
apart_least binds t e local b tells = least_if (DemandFault binds t (apart e local)) b 4 (λ h. let s = tells.0 h in DemandFault.twice s.0 s.1) back
  where
    back : (rule : ℕ) → DemandFault binds t (apart e local) rule → (b ≡ true) × (rule ≡ 4)
    back rule (DemandFault.twice value s) = (tells.1 (value, s), refl)

-- and after white space is collapsed
pub collapsed_least : (binds : List Bind) (t : Tree) (e : Element) (local : List ℕ) (b : Bool) → (IsTrue b ↔ HasTwice (map collapsed_text (values_in e local t)))
    → IsLeast (DemandFault binds t (apart_collapsed e local)) (if b then Some 4 else None)
collapsed_least binds t e local b tells = least_if (DemandFault binds t (apart_collapsed e local)) b 4 (λ h. let s = tells.0 h in DemandFault.collapsed_twice s.0 s.1) back
  where
    back : (rule : ℕ) → DemandFault binds t (apart_collapsed e local) rule → (b ≡ true) × (rule ≡ 4)
    back rule (DemandFault.collapsed_twice value s) = (tells.1 (value, s), refl)

-- one ident of two attributes that a list lists
pub attributes_least : (binds : List Bind) (t : Tree) (defs : List Tree) (b : Bool) → Lists t defs → (IsTrue b ↔ HasTwice (idents_of defs)) → IsLeast (DemandFault binds t attributes_apart) (if b then Some 4 else None)
attributes_least binds t defs b lists tells = least_if (DemandFault binds t attributes_apart) b 4 (λ h. let s = tells.0 h in DemandFault.attribute_twice s.0 defs lists s.1) back
  where
    back : (rule : ℕ) → DemandFault binds t attributes_apart rule → (b ≡ true) × (rule ≡ 4)
    back rule (DemandFault.attribute_twice value others listed s) = (tells.1 (value, subst (λ ds. StandsTwice (λ v. v ≡ value) (idents_of ds)) (lists_one listed lists) s), refl)

-- a child that stands beside an attribute
pub child_beside_least : (binds : List Bind) (t : Tree) (e : Element) (by : List ℕ) (rule : ℕ) → IsLeast (DemandFault binds t (no_child_beside e by rule)) (if has_named e t && is_some (given t by) then Some rule else None)
child_beside_least binds t e by rule =
    least_if (DemandFault binds t (no_child_beside e by rule)) (has_named e t && is_some (given t by)) rule (λ h. let p = and_parts (has_named e t) (is_some (given t by)) h in DemandFault.child_beside p.0 p.1) back
  where
    back : (other : ℕ) → DemandFault binds t (no_child_beside e by rule) other → ((has_named e t && is_some (given t by)) ≡ true) × (other ≡ rule)
    back other (DemandFault.child_beside h k) = (and_from (has_named e t) (is_some (given t by)) h k, refl)

-- whether two numbers differ
differ : (m n : ℕ) → Decides (not (nat_eq m n)) (m ≢ n)
differ m n = Decides-not (nat_eq m n) (Decides-eqb m n)

-- parts that are not one
pub not_one_least : (binds : List Bind) (t : Tree) (kinds : List Element) → IsLeast (DemandFault binds t (one_part kinds)) (if not (nat_eq (count_named kinds t) 1) then Some 3 else None)
not_one_least binds t kinds = least_if (DemandFault binds t (one_part kinds)) (not (nat_eq (count_named kinds t) 1)) 3 (λ h. DemandFault.not_one ((differ (count_named kinds t) 1).0 h)) back
  where
    back : (rule : ℕ) → DemandFault binds t (one_part kinds) rule → (not (nat_eq (count_named kinds t) 1) ≡ true) × (rule ≡ 3)
    back rule (DemandFault.not_one h) = ((differ (count_named kinds t) 1).1 h, refl)

-- parts where none may stand
pub misplaced_least : (binds : List Bind) (t : Tree) (kinds : List Element) → IsLeast (DemandFault binds t (no_part kinds)) (if not (nat_eq (count_named kinds t) 0) then Some 3 else None)
misplaced_least binds t kinds = least_if (DemandFault binds t (no_part kinds)) (not (nat_eq (count_named kinds t) 0)) 3 (λ h. DemandFault.misplaced ((differ (count_named kinds t) 0).0 h)) back
  where
    back : (rule : ℕ) → DemandFault binds t (no_part kinds) rule → (not (nat_eq (count_named kinds t) 0) ≡ true) × (rule ≡ 3)
    back rule (DemandFault.misplaced h) = ((differ (count_named kinds t) 0).1 h, refl)

-- whether a number is not one
not_single : (n : Option ℕ) → Decides (not (option_eq nat_eq n (Some 1))) (n ≢ Some 1)
not_single None = (λ _ e. cc, λ _. refl)
not_single (Some n) = (λ h e. (differ n 1).0 h (same_Some n 1 e), λ h. (differ n 1).1 (λ e. h (ap Some e)))

-- a number that is not one
pub not_once_least : (binds : List Bind) (t : Tree) (local : List ℕ) → IsLeast (DemandFault binds t (once local)) (if not (option_eq nat_eq (number_told (given t local)) (Some 1)) then Some 2 else None)
not_once_least binds t local = least_if (DemandFault binds t (once local)) (not (option_eq nat_eq told (Some 1))) 2 (λ h. DemandFault.not_once ((not_single told).0 h)) back
  where
    told : Option ℕ
    told = number_told (given t local)

    back : (rule : ℕ) → DemandFault binds t (once local) rule → (not (option_eq nat_eq told (Some 1)) ≡ true) × (rule ≡ 2)
    back rule (DemandFault.not_once h) = ((not_single told).1 h, refl)
