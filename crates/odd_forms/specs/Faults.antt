-- What an element breaks by its form: rule 1, a needed attribute is absent or one is malformed; 2, a form that is left out; 3, a child that may not
-- stand there, a `mode` or a `type` that is unknown, or what contradicts itself; 4, twice in one place.
use Rattle.std.specs.Prelude.{◌≡◌, ◌≢◌, ◌≤◌, ◌<◌, ℕ, Bool, true, false, ◌||◌, List, [], ◌∷◌, ◌++◌, map, find, count_by, Option, Some, None, is_some, IsSome, IsTrue, if◌then◌else◌, codes}
use Rattle.std.specs.List.{filter_map, list_any}
use Rattle.odd_text.specs.declared.name.Bind.{Bind}
use Rattle.odd_text.specs.Standing.{StandsIn}
use Rattle.odd_tree.specs.Elements.{children_of, given}
use Rattle.odd_tree.specs.declared.tree.Tree.{Tree}
use Rattle.rng_values.specs.Items.{ItemFault}
use Rattle.rng_values.specs.Treated.{collapsed_text}
use Rattle.odd_forms.specs.Excepting.{has_unbound}
use Rattle.odd_forms.specs.Form.{AttributeForm, Demand, Form, Kind, Suits, in_order, needed_unless, not_both, bound, apart, apart_collapsed, attributes_apart, either, not_beside, no_child_beside, has_child, one_part, no_part, once, own_text, typed, number_told}
use Rattle.odd_forms.specs.Listing.{Lists}
use Rattle.odd_forms.specs.Names.{is_one_of, is_passed_over, is_relax_ng, is_tei}
use Rattle.odd_text.specs.Standing.{StandsTwice}
use Rattle.odd_forms.specs.Table.{form_at}
use Rattle.odd_forms.specs.Tags.{facets_given}
use Rattle.odd_forms.specs.Texts.{collapsed_in}
use Rattle.odd_text.specs.Same.{is_among}
use Rattle.odd_forms.specs.Words.{is_given_among, words_given}
use Rattle.odd_forms.specs.declared.element.Element.{Element}

-- the element of the table that an element is, among these
abbrev pub element_among : List Element → Tree → Option Element
element_among elements t = find (λ e. is_one_of ((form_at e).name ∷ []) t) elements

-- the element of the table that a child is, where it may stand there
abbrev pub child_in : Form → Tree → Option Element
child_in form child = element_among (form.many ++ form.once) child

-- what a value breaks that is given for an attribute
pub data ValueFault (a : AttributeForm) (value : List ℕ) : ℕ → Type 0 where
  left_out : IsTrue (is_among a.left_out value) → ValueFault a value 2
  malformed : is_among a.left_out value ≡ false → (Suits a.kind value → ⊥) → ValueFault a value a.rule

-- what an element breaks by an attribute that it may have
pub data AttributeFault (a : AttributeForm) (t : Tree) : ℕ → Type 0 where
  absent : a.needed ≡ true → given t a.local ≡ None → AttributeFault a t 1
  value : {rule : ℕ} (value : List ℕ) → given t a.local ≡ Some value → ValueFault a value rule → AttributeFault a t rule

-- the value of an attribute, in a child of this name
abbrev pub value_in : Element → List ℕ → Tree → Option (List ℕ)
value_in e local child = if is_one_of ((form_at e).name ∷ []) child then given child local else None

-- the values of the attribute in the children of this name
abbrev pub values_in : Element → List ℕ → Tree → List (List ℕ)
values_in e local t = filter_map (value_in e local) (children_of t)

-- the idents of attributes
abbrev pub idents_of : List Tree → List (List ℕ)
idents_of defs = filter_map (λ def. given def (codes "ident")) defs

-- a child of the name is there
abbrev pub has_named : Element → Tree → Bool
has_named e t = list_any (is_one_of ((form_at e).name ∷ [])) (children_of t)

-- how many children of these names are there
abbrev pub count_named : List Element → Tree → ℕ
count_named kinds t = count_by (λ child. is_some (element_among kinds child)) (children_of t)

-- What it breaks by what must also hold of it, under the namespace declarations in force in it.
pub data DemandFault (binds : List Bind) (t : Tree) : Demand → ℕ → Type 0 where
  out_of_order : {least most : List ℕ} (m n : ℕ) → number_told (given t least) ≡ Some m → number_told (given t most) ≡ Some n → n < m → DemandFault binds t (in_order least most) 3
  both : {one other : List ℕ} → words_given t one ≢ [] → words_given t other ≢ [] → DemandFault binds t (not_both one other) 3
  missing : {local by : List ℕ} {words : List (List ℕ)} → given t local ≡ None → is_given_among words (given t by) ≡ false
      → DemandFault binds t (needed_unless local by words) 1
  unbound : {local : List ℕ} → has_unbound binds (words_given t local) ≡ true → DemandFault binds t (bound local) 1
  -- one value twice
  twice : {e : Element} {local : List ℕ} (value : List ℕ) → StandsTwice (λ v. v ≡ value) (values_in e local t) → DemandFault binds t (apart e local) 4
  collapsed_twice : {e : Element} {local : List ℕ} (value : List ℕ) → StandsTwice (λ v. v ≡ value) (map collapsed_text (values_in e local t)) → DemandFault binds t (apart_collapsed e local) 4
  attribute_twice : (value : List ℕ) (defs : List Tree) → Lists t defs → StandsTwice (λ v. v ≡ value) (idents_of defs) → DemandFault binds t attributes_apart 4
  -- attributes and children that stand together, or none of which stands
  neither : {one other : List ℕ} → given t one ≡ None → given t other ≡ None → DemandFault binds t (either one other) 1
  both_given : {one other : List ℕ} → IsSome (given t one) → IsSome (given t other) → DemandFault binds t (either one other) 3
  beside : {local by : List ℕ} → IsSome (given t local) → IsSome (given t by) → DemandFault binds t (not_beside local by) 2
  child_beside : {e : Element} {by : List ℕ} {rule : ℕ} → has_named e t ≡ true → IsSome (given t by) → DemandFault binds t (no_child_beside e by rule) rule
  no_child : {e : Element} {by : List ℕ} {words : List (List ℕ)} → has_named e t ≡ false → is_given_among words (given t by) ≡ false → DemandFault binds t (has_child e by words) 3
  not_one : {kinds : List Element} → count_named kinds t ≢ 1 → DemandFault binds t (one_part kinds) 3
  misplaced : {kinds : List Element} → count_named kinds t ≢ 0 → DemandFault binds t (no_part kinds) 3
  -- bounds other than once, a text of another kind, and a datatype that makes no item
  not_once : {local : List ℕ} → number_told (given t local) ≢ Some 1 → DemandFault binds t (once local) 2
  not_of_kind : {k : Kind} → (Suits k (collapsed_in t) → ⊥) → DemandFault binds t (own_text k) 1
  no_item : {rule : ℕ} (name : List ℕ) → given t (codes "name") ≡ Some name → ItemFault name (facets_given t) rule → DemandFault binds t typed rule

-- what it breaks beside its children
pub data OwnFault (form : Form) (binds : List Bind) (t : Tree) : ℕ → Type 0 where
  attribute : {rule : ℕ} (a : AttributeForm) → StandsIn form.attributes a → AttributeFault a t rule → OwnFault form binds t rule
  left_out : (local : List ℕ) → StandsIn form.left_out local → IsSome (given t local) → OwnFault form binds t 2
  demand : {rule : ℕ} (d : Demand) → StandsIn form.demands d → DemandFault binds t d rule → OwnFault form binds t rule

-- What a child breaks by standing there: it is RELAX NG's or left out; or it is neither named nor passed over, and it is TEI's, or nothing else may
-- stand there.
pub data ChildFault (form : Form) (child : Tree) : ℕ → Type 0 where
  relax_ng : is_relax_ng child ≡ true → ChildFault form child 2
  left_out : is_one_of form.left_out_children child ≡ true → ChildFault form child 2
  unknown : (form.closed || is_tei child) ≡ true → is_relax_ng child ≡ false → is_one_of form.left_out_children child ≡ false → child_in form child ≡ None
      → (is_passed_over child || is_one_of form.passed_over child) ≡ false → ChildFault form child 3

-- what an element breaks by its form
pub data FormFault (form : Form) (binds : List Bind) (t : Tree) : ℕ → Type 0 where
  own : {rule : ℕ} → OwnFault form binds t rule → FormFault form binds t rule
  child : {rule : ℕ} (child : Tree) → StandsIn (children_of t) child → ChildFault form child rule → FormFault form binds t rule
  twice : (e : Element) → StandsIn form.once e → 2 ≤ count_by (is_one_of ((form_at e).name ∷ [])) (children_of t) → FormFault form binds t 4
