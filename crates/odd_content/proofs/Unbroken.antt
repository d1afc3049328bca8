-- What holds of an element that breaks no rule of its form: its attributes are of their kinds, its bounds are in order, and its texts are legal.
use Rattle.std.proofs.Common.{◌≡◌, ◌↔◌, ◌<◌, ◌^◌, ℕ, List, [], ◌∷◌, ◌&&◌, Bool, true, false, Option, Some, None, All, IsTrue, codes, length, get_or, refl, sym, subst, ◌∙◌, arith, rules, ⊎_elim}
use Rattle.std.specs.Char.{is_ascii_digit}
use Rattle.std.specs.List.{list_all}
use Rattle.std.specs.Prelude.{nat_le, nat_lt, unwrap_or}
use Rattle.std.proofs.lemmas.Bool.{and_parts, cases_Bool, false≢true, leb-true}
use Rattle.std.proofs.lemmas.List.Elements.{All-head, All-tail, Contains-get_or}
use Rattle.std.proofs.lemmas.Option.{same_Some}
use Rattle.std.proofs.lemmas.Str.Parse.{digits_value_short, numerals_by_value}
use Rattle.odd_text.specs.declared.name.Bind.{Bind}
use Rattle.odd_tokens.specs.Characters.{IsLegal}
use Rattle.odd_text.specs.Same.{is_same}
use Rattle.odd_text.proofs.InList.{standing}
use Rattle.odd_tree.proofs.PrintedTrees.{same_from}
use Rattle.odd_text.specs.Standing.{StandsIn}
use Rattle.odd_tree.specs.Elements.{attribute_value, children_of, given, is_named, within}
use Rattle.odd_tree.specs.Formed.{IsFormedTag}
use Rattle.odd_tree.specs.declared.tree.Attr.{Attr}
use Rattle.odd_tree.specs.declared.tree.Tree.{Tree, out-Tree}
use Rattle.rng_types.specs.Bounds.{IsFormedBounds}
use Rattle.odd_forms.specs.Children.{IsChild}
use Rattle.odd_forms.specs.Deep.{DeepFault, is_level, left_inside}
use Rattle.odd_forms.specs.Faults.{AttributeFault, DemandFault, FormFault, OwnFault, ValueFault}
use Rattle.odd_forms.specs.Form.{AttributeForm, Suits, are_digits, count, number_told}
use Rattle.odd_forms.specs.Table.{bounds, form_at, max, min}
use Rattle.odd_text.specs.Same.{is_among}
use Rattle.odd_forms.specs.declared.element.Element.{Element}
use Rattle.odd_content.specs.Occurrence.{bounds_in, maximum_told}

-- what holds of each item of a list
pub each_item : {A : Type 0} (P : A → Type 0) (xs : List A) → ((x : A) → StandsIn xs x → P x) → All P xs
each_item P xs h = λ k d l. h (get_or xs k d) (standing xs (get_or xs k d) (Contains-get_or xs k d l))

-- what holds of a text that may be absent, by what it is
pub by_text : (o : Option (List ℕ)) (P : Option (List ℕ) → Type 0) → (o ≡ None → P None) → ((text : List ℕ) → o ≡ Some text → P (Some text)) → P o
by_text None P none some = none refl
by_text (Some text) P none some = some text refl

-- what a test decides holds where it can't fail
pub decided : {P : Type 0} (b : Bool) → (IsTrue b ↔ P) → ((P → ⊥) → ⊥) → P
decided b decides sure = ⊎_elim decides.0 (λ f. absurd (sure (λ p. false≢true (sym f ∙ decides.1 p)))) (cases_Bool b)

-- where no rule is broken
abbrev pub IsUnbroken : (ℕ → Type 0) → Type 0
IsUnbroken Broken = (rule : ℕ) → Broken rule → ⊥

-- an attribute that breaks nothing has a value of its kind
pub suited : (a : AttributeForm) (t : Tree) (value : List ℕ) → is_among a.left_out value ≡ false → given t a.local ≡ Some value → IsUnbroken (AttributeFault a t) → (Suits a.kind value → ⊥) → ⊥
suited a t value kept e unbroken wrong = unbroken a.rule (AttributeFault.value value e (ValueFault.malformed kept wrong))

-- a number that is told has at most 9 digits, and so has 1, which stands for one that is not
pub number_short : (o : Option (List ℕ)) → unwrap_or (number_told o) 1 < 10 ^ 9
number_short None = omega arith
number_short (Some value) =
    ⊎_elim
    (λ d. (let p = and_parts (nat_le (length value) 9) (list_all is_ascii_digit value) (and_parts (nat_lt 0 (length value)) (nat_le (length value) 9 && list_all is_ascii_digit value) d).1 in
    rw d (digits_value_short (numerals_by_value (λ ds. list_all is_ascii_digit ds ≡ true) (search rules)) value 9 p.1 (leb-true (length value) 9 p.0))))
    (λ d. rw d (omega arith)) (cases_Bool (are_digits value))

-- digits tell a number, and where the attribute is absent it is 1
pub told : (o : Option (List ℕ)) → ((value : List ℕ) → o ≡ Some value → (IsTrue (are_digits value) → ⊥) → ⊥) → number_told o ≡ Some (unwrap_or (number_told o) 1)
told None sure = refl
told (Some value) sure = let d : are_digits value ≡ true = decided (are_digits value) (λ d. d, λ d. d) (sure value refl) in rw d refl

-- a maximum that is a number is told
pub most_told : (o : Option (List ℕ)) → ((value : List ℕ) → o ≡ Some value → (Suits count value → ⊥) → ⊥) → (n : ℕ) → maximum_told o ≡ Some n → number_told o ≡ Some n
most_told None sure n h = h
most_told (Some value) sure n h =
    ⊎_elim (λ u. (let never = rw u at h in cc))
    (λ u. told (Some value) (λ v e wrong. sure v e (⊎_elim wrong (λ is. false≢true (sym u ∙ same_from value _ (same_Some _ _ e ∙ is))))) ∙ (rw u at h)) (cases_Bool (is_same value (codes "unbounded")))

-- in an element that breaks nothing no attribute and no child breaks anything, and the bounds are formed where its form asks for their order
module _ {e : Element} {left : ℕ} {around : List Bind} {t : Tree} (unbroken : IsUnbroken (DeepFault e left around t)) where
  pub attribute_kept : (a : AttributeForm) → StandsIn (form_at e).attributes a → IsUnbroken (AttributeFault a t)
  attribute_kept a s rule f = unbroken rule (DeepFault.itself (FormFault.own (OwnFault.attribute a s f)))

  pub child_kept : (child : Tree) → StandsIn (children_of t) child → (kind : Element) → IsChild e kind child → IsUnbroken (DeepFault kind (left_inside (is_level (form_at e) t) left) (within around t) child)
  child_kept child s kind is rule f = unbroken rule (DeepFault.inside kind child s is f)

  pub bounds_formed : StandsIn (form_at e).attributes min → StandsIn (form_at e).attributes max → StandsIn (form_at e).demands bounds → IsFormedBounds (bounds_in (out-Tree t).attrs)
  bounds_formed least most demand =
      let m = (bounds_in (out-Tree t).attrs).min in
      let least_is = told (given t (codes "minOccurs")) (λ value e. suited min t value refl e (attribute_kept min least)) in
      let most_is = most_told (given t (codes "maxOccurs")) (λ value e. suited max t value refl e (attribute_kept max most)) in
      record {
        least = number_short (given t (codes "minOccurs"));
        greatest = λ n is. subst (λ o. unwrap_or o 1 < 10 ^ 9) (most_is n is) (number_short (given t (codes "maxOccurs")));
        ordered = λ n is.
            let kept : n < m → ⊥ = λ h. unbroken 3 (DeepFault.itself (FormFault.own (OwnFault.demand bounds demand (DemandFault.out_of_order m n least_is (most_is n is) h)))) in
            omega arith;
      }

-- an attribute's value is legal where all are
pub value_legal : (attrs : List Attr) (local value : List ℕ) → All (λ (a : Attr). IsLegal a.value) attrs → attribute_value attrs local ≡ Some value → IsLegal value
value_legal [] local value all e = cc
value_legal (a ∷ rest) local value all e =
    ⊎_elim (λ named. subst IsLegal (same_Some a.value value (rw named at e)) (All-head (λ (x : Attr). IsLegal x.value) a rest all))
    (λ other. value_legal rest local value (All-tail (λ (x : Attr). IsLegal x.value) a rest all) (rw other at e)) (cases_Bool (is_named a local))

pub legal_given : (t : Tree) (local value : List ℕ) → IsFormedTag t → given t local ≡ Some value → IsLegal value
legal_given t local value f = value_legal (out-Tree t).attrs local value f.valued
