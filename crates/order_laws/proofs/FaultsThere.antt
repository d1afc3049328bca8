-- What an element breaks, one that says the same in another order breaks too.
use Rattle.std.proofs.Common.{◌≡◌, ◌≤◌, ℕ, Bool, true, false, ◌&&◌, ◌||◌, not, if◌then◌else◌, List, [], ◌∷◌, ◌++◌, None, IsSome, ⊎_elim, refl, sym, ap, ap₂, subst, ◌∙◌}
use Rattle.std.specs.Prelude.{codes, find, is_some, nat_le, unwrap_or}
use Rattle.std.specs.List.{list_all}
use Rattle.std.proofs.lemmas.Bool.{and_parts}
use Rattle.odd_text.specs.declared.name.Bind.{Bind}
use Rattle.odd_text.specs.Same.{is_same}
use Rattle.odd_text.specs.Standing.{StandsIn}
use Rattle.odd_tree.specs.Elements.{given, within}
use Rattle.odd_tree.specs.declared.tree.Tree.{Tree}
use Rattle.odd_text.proofs.InList.{first_or_later, nothing_stands}
use Rattle.rng_values.specs.Items.{ItemFault}
use Rattle.rng_values.specs.Treated.{collapsed_text}
use Rattle.odd_forms.specs.Deep.{DeepFault, has_several, is_level, left_inside, level_by}
use Rattle.odd_forms.specs.Excepting.{has_unbound}
use Rattle.odd_forms.specs.Faults.{AttributeFault, ChildFault, DemandFault, FormFault, OwnFault, child_in, count_named, element_among, has_named, value_in}
use Rattle.odd_forms.specs.Form.{AttributeForm, Demand, Form, Suits, number_told, in_order, needed_unless, not_both, bound, apart, apart_collapsed, attributes_apart, either, not_beside, no_child_beside, has_child, one_part, no_part, once, own_text, typed}
use Rattle.odd_forms.specs.Names.{is_one_of, is_passed_over, is_relax_ng, relax_ng_namespace, tei_namespace}
use Rattle.odd_forms.specs.Table.{form_at}
use Rattle.odd_forms.specs.Tags.{facets_given, facets_in}
use Rattle.odd_forms.specs.Texts.{collapsed_in}
use Rattle.odd_text.specs.Same.{is_among}
use Rattle.odd_forms.specs.Words.{is_given_among, words_given, words_of}
use Rattle.odd_forms.specs.declared.element.Element.{Element}
use Rattle.odd_forms.specs.declared.element.Element.TheVariants as elements
use Rattle.odd_forms.specs.declared.form.Level.{Level}
use Rattle.odd_forms.specs.declared.form.Level.TheVariants as level
use Rattle.odd_forms.proofs.Children.{child_named, named_one, one_named}
use Rattle.odd_decls.specs.Items.{IsItem, IsSpecOf}
use Rattle.odd_items.specs.Groups.{group_names}
use Rattle.odd_text.specs.declared.key.Key.{Key}
use Rattle.order_laws.specs.Reordered.{IsReordered, element, is_loose}
use Rattle.order_laws.proofs.Alike.{same_attrs, same_given, same_name, same_one_of, same_tei, same_within}
use Rattle.order_laws.proofs.Matched.{lists_there, loose_names, same_any, same_children, same_count, stands_there, tags_there, twice_made_there, twice_there}
use Rattle.order_laws.proofs.Matched as matched

-- What is told of an element by its name and its attributes

-- whether it is RELAX NG's
pub same_relax_ng : {t u : Tree} → IsReordered t u → is_relax_ng t ≡ is_relax_ng u
same_relax_ng r = ap (λ name. is_same name.ns relax_ng_namespace) (same_name r)

-- the names of those that are passed over wherever they stand
abbrev passed_names : List (List ℕ)
passed_names =
    codes "gloss" ∷ codes "desc" ∷ codes "equiv" ∷ codes "exemplum" ∷ codes "remarks" ∷ codes "listRef" ∷ codes "model" ∷ codes "modelGrp" ∷ codes "modelSequence"
    ∷ codes "moduleSpec" ∷ codes "defaultVal" ∷ []

-- so whether it is passed over
pub same_passed_over : {t u : Tree} → IsReordered t u → is_passed_over t ≡ is_passed_over u
same_passed_over r = same_one_of passed_names r

-- which element of the table it is, among some
pub same_among : {t u : Tree} (among : List Element) → IsReordered t u → element_among among t ≡ element_among among u
same_among among r = ap (λ name. find (λ e. is_same name.ns tei_namespace && is_among ((form_at e).name ∷ []) name.local) among) (same_name r)

-- and as a child of an element of a form
pub same_child_in : {t u : Tree} (form : Form) → IsReordered t u → child_in form t ≡ child_in form u
same_child_in form r = same_among (form.many ++ form.once) r

-- the words that it has in an attribute
pub same_words : {t u : Tree} (local : List ℕ) → IsReordered t u → words_given t local ≡ words_given u local
same_words local r = ap (λ value. words_of (unwrap_or value [])) (same_given local r)

-- the value of an attribute, where it has a name
pub same_value : {t u : Tree} (e : Element) (local : List ℕ) → IsReordered t u → value_in e local t ≡ value_in e local u
same_value e local r = ap₂ (λ b value. if b then value else None) (same_one_of ((form_at e).name ∷ []) r) (same_given local r)

-- What is told of it by its children, in whatever order

-- whether one has a name
pub same_has_named : {t u : Tree} (e : Element) → IsReordered t u → has_named e t ≡ has_named e u
same_has_named e r = same_any (is_one_of ((form_at e).name ∷ [])) (λ x y same. same_one_of ((form_at e).name ∷ []) same) (same_children r)

-- how many have one of some names
pub same_count_named : {t u : Tree} (kinds : List Element) → IsReordered t u → count_named kinds t ≡ count_named kinds u
same_count_named kinds r = same_count (λ child. is_some (element_among kinds child)) (λ x y same. ap is_some (same_among kinds same)) (same_children r)

-- and whether it is a level
pub same_level : {t u : Tree} (form : Form) → IsReordered t u → is_level form t ≡ is_level form u
same_level {t} {u} form r = by_level form.level
  where
    several : has_several form t ≡ has_several form u
    several = ap (nat_le 2) (same_count (λ child. is_some (child_in form child)) (λ x y same. ap is_some (same_child_in form same)) (same_children r))

    by_level : (l : Level) → level_by l form t ≡ level_by l form u
    by_level level.Never = refl
    by_level level.Always = refl
    by_level level.OfSeveral = several

-- What is broken

-- by a child that stands there
pub child_fault_there : (form : Form) {t u : Tree} (rule : ℕ) → IsReordered t u → ChildFault form t rule → ChildFault form u rule
child_fault_there form rule r (ChildFault.relax_ng h) = ChildFault.relax_ng (sym (same_relax_ng r) ∙ h)
child_fault_there form rule r (ChildFault.left_out h) = ChildFault.left_out (sym (same_one_of form.left_out_children r) ∙ h)
child_fault_there form rule r (ChildFault.unknown c n l none p) =
    ChildFault.unknown (sym (ap (λ b. form.closed || b) (same_tei r)) ∙ c) (sym (same_relax_ng r) ∙ n) (sym (same_one_of form.left_out_children r) ∙ l)
    (sym (same_child_in form r) ∙ none) (sym (ap₂ (λ a b. a || b) (same_passed_over r) (same_one_of form.passed_over r)) ∙ p)

-- by an attribute
pub attribute_fault_there : (a : AttributeForm) {t u : Tree} (rule : ℕ) → IsReordered t u → AttributeFault a t rule → AttributeFault a u rule
attribute_fault_there a rule r (AttributeFault.absent n none) = AttributeFault.absent n (sym (same_given a.local r) ∙ none)
attribute_fault_there a rule r (AttributeFault.value value is f) = AttributeFault.value value (sym (same_given a.local r) ∙ is) f

-- the facets are told by the attributes and by the tags of the children, in their order
pub same_facets : {t u : Tree} → is_loose t ≡ false → IsReordered t u → facets_given t ≡ facets_given u
same_facets {t} {u} not_loose r =
    ap₂ facets_in (same_attrs r) (tags_there (matched.in_order not_loose (same_children r)))

-- the text counts in an `altIdent`
pub same_text : {t u : Tree} → is_one_of (codes "altIdent" ∷ []) t ≡ true → IsReordered t u → collapsed_in t ≡ collapsed_in u
same_text is (element n a b s c) = s is

-- Whether what a demand looks at is the same in an element of this name, in whatever order it is said: the facets are where the order of the children counts,
-- and the text is in an `altIdent`.
abbrev pub is_steady : List ℕ → Demand → Bool
is_steady local typed = not (is_among loose_names local)
is_steady local (own_text kind) = is_among (codes "altIdent" ∷ []) local
is_steady local demand = true

-- each demand of a form of the table is so in an element of its name
pub all_steady : (e : Element) → list_all (is_steady (form_at e).name) (form_at e).demands ≡ true
all_steady elements.SchemaSpec = refl
all_steady e = refl

-- an element that is one of a single name is one of several where the name is
by_name : (t : Tree) (local : List ℕ) (locals : List (List ℕ)) → is_one_of (local ∷ []) t ≡ true → is_one_of locals t ≡ is_among locals local
by_name t local locals h = ap (λ name. is_same name.ns tei_namespace && is_among locals name.local) (one_named local t h)

-- what holds of all holds of what stands among them
all_stand : {A : Type 0} (test : A → Bool) (xs : List A) (x : A) → list_all test xs ≡ true → StandsIn xs x → test x ≡ true
all_stand test [] x h s = absurd (nothing_stands x s)
all_stand test (y ∷ xs) x h s =
    let p = and_parts (test y) (list_all test xs) h in
    ⊎_elim (λ same. subst (λ z. test z ≡ true) (sym same) p.0) (λ later. all_stand test xs x p.1 later) (first_or_later y x xs s)

-- by a demand, in an element of a name in which what it looks at is the same
pub demand_fault_there : (binds : List Bind) (local : List ℕ) {t u : Tree} (d : Demand) (rule : ℕ) → is_one_of (local ∷ []) t ≡ true → is_steady local d ≡ true → IsReordered t u
    → DemandFault binds t d rule → DemandFault binds u d rule
demand_fault_there binds local (in_order least most) rule named steady r (DemandFault.out_of_order m n l g h) =
    DemandFault.out_of_order m n (sym (ap number_told (same_given least r)) ∙ l) (sym (ap number_told (same_given most r)) ∙ g) h
demand_fault_there binds local (not_both one other) rule named steady r (DemandFault.both f g) =
    DemandFault.both (λ e. f (same_words one r ∙ e)) (λ e. g (same_words other r ∙ e))
demand_fault_there binds local (needed_unless attribute by words) rule named steady r (DemandFault.missing none other) =
    DemandFault.missing (sym (same_given attribute r) ∙ none) (sym (ap (is_given_among words) (same_given by r)) ∙ other)
demand_fault_there binds local (bound attribute) rule named steady r (DemandFault.unbound h) = DemandFault.unbound (sym (ap (has_unbound binds) (same_words attribute r)) ∙ h)
demand_fault_there binds local (apart e attribute) rule named steady r (DemandFault.twice value w) =
    DemandFault.twice value (twice_there (value_in e attribute) (λ x y same. same_value e attribute same) (λ v. v ≡ value) (same_children r) w)
demand_fault_there binds local (apart_collapsed e attribute) rule named steady r (DemandFault.collapsed_twice value w) =
    DemandFault.collapsed_twice value (twice_made_there (value_in e attribute) (λ x y same. same_value e attribute same) collapsed_text (λ v. v ≡ value) (same_children r) w)
demand_fault_there binds local attributes_apart rule named steady r (DemandFault.attribute_twice value defs l w) =
    let f = lists_there r l in
    DemandFault.attribute_twice value f.0 f.1 (twice_there (λ def. given def (codes "ident")) (λ x y same. same_given (codes "ident") same) (λ v. v ≡ value) f.2 w)
demand_fault_there binds local (either one other) rule named steady r (DemandFault.neither f g) = DemandFault.neither (sym (same_given one r) ∙ f) (sym (same_given other r) ∙ g)
demand_fault_there binds local (either one other) rule named steady r (DemandFault.both_given f g) =
    DemandFault.both_given (subst IsSome (same_given one r) f) (subst IsSome (same_given other r) g)
demand_fault_there binds local (not_beside one by) rule named steady r (DemandFault.beside f g) = DemandFault.beside (subst IsSome (same_given one r) f) (subst IsSome (same_given by r) g)
demand_fault_there binds local (no_child_beside e by other) rule named steady r (DemandFault.child_beside h g) =
    DemandFault.child_beside (sym (same_has_named e r) ∙ h) (subst IsSome (same_given by r) g)
demand_fault_there binds local (has_child e by words) rule named steady r (DemandFault.no_child h other) =
    DemandFault.no_child (sym (same_has_named e r) ∙ h) (sym (ap (is_given_among words) (same_given by r)) ∙ other)
demand_fault_there binds local (one_part kinds) rule named steady r (DemandFault.not_one h) = DemandFault.not_one (λ e. h (same_count_named kinds r ∙ e))
demand_fault_there binds local (no_part kinds) rule named steady r (DemandFault.misplaced h) = DemandFault.misplaced (λ e. h (same_count_named kinds r ∙ e))
demand_fault_there binds local (once attribute) rule named steady r (DemandFault.not_once h) = DemandFault.not_once (λ e. h (ap number_told (same_given attribute r) ∙ e))
demand_fault_there binds local {t} (own_text k) rule named steady r (DemandFault.not_of_kind h) =
    DemandFault.not_of_kind (λ suits. h (subst (Suits k) (sym (same_text (by_name t local (codes "altIdent" ∷ []) named ∙ steady) r)) suits))
demand_fault_there binds local {t} typed rule named steady r (DemandFault.no_item name is f) =
    DemandFault.no_item name (sym (same_given (codes "name") r) ∙ is)
    (subst (λ facets. ItemFault name facets rule) (same_facets (by_name t local loose_names named ∙ from_not _ steady) r) f)
  where
    -- what is not so is false
    from_not : (b : Bool) → not b ≡ true → b ≡ false
    from_not false e = refl
    from_not true e = cc

-- what an element of the table breaks beside its children
pub own_fault_there : (e : Element) (binds : List Bind) {t u : Tree} (rule : ℕ) → is_one_of ((form_at e).name ∷ []) t ≡ true → IsReordered t u
    → OwnFault (form_at e) binds t rule → OwnFault (form_at e) binds u rule
own_fault_there e binds rule named r (OwnFault.attribute a s f) = OwnFault.attribute a s (attribute_fault_there a rule r f)
own_fault_there e binds rule named r (OwnFault.left_out local s h) = OwnFault.left_out local s (subst IsSome (same_given local r) h)
own_fault_there e binds rule named r (OwnFault.demand d s f) =
    OwnFault.demand d s (demand_fault_there binds (form_at e).name d rule named (all_stand (is_steady (form_at e).name) (form_at e).demands d (all_steady e) s) r f)

-- by its form
pub form_fault_there : (e : Element) (binds : List Bind) {t u : Tree} (rule : ℕ) → is_one_of ((form_at e).name ∷ []) t ≡ true → IsReordered t u
    → FormFault (form_at e) binds t rule → FormFault (form_at e) binds u rule
form_fault_there e binds rule named r (FormFault.own f) = FormFault.own (own_fault_there e binds rule named r f)
form_fault_there e binds rule named r (FormFault.child child s f) =
    let g = stands_there child (same_children r) s in FormFault.child g.0 g.1 (child_fault_there (form_at e) rule g.2 f)
form_fault_there e binds rule named r (FormFault.twice k s n) =
    FormFault.twice k s (subst (λ m. 2 ≤ m) (same_count (is_one_of ((form_at k).name ∷ [])) (λ x y same. same_one_of ((form_at k).name ∷ []) same) (same_children r)) n)

-- and at any depth
pub deep_fault_there : (e : Element) (left : ℕ) (around : List Bind) {t u : Tree} (rule : ℕ) → is_one_of ((form_at e).name ∷ []) t ≡ true → IsReordered t u
    → DeepFault e left around t rule → DeepFault e left around u rule
deep_fault_there e left around {t} {u} rule named r (DeepFault.itself f) =
    DeepFault.itself (form_fault_there e (within around u) rule named r (subst (λ binds. FormFault (form_at e) binds t rule) (same_within around r) f))
deep_fault_there e left around {t} {u} rule named r (DeepFault.deep h none) = DeepFault.deep (sym (same_level (form_at e) r) ∙ h) none
deep_fault_there e left around {t} {u} rule named r (DeepFault.inside kind child s is f) =
    let g = stands_there child (same_children r) s in
    let there = deep_fault_there kind (left_inside (is_level (form_at e) t) left) (within around t) rule (named_one (form_at kind).name child (child_named e kind child is)) g.2 f in
    DeepFault.inside kind g.0 g.1 (sym (same_child_in (form_at e) g.2) ∙ is)
    (subst (λ binds. DeepFault kind (left_inside (is_level (form_at e) u) left) binds g.0 rule) (same_within around r)
    (subst (λ b. DeepFault kind (left_inside b left) (within around t) g.0 rule) (same_level (form_at e) r) there))

-- What is told of an item by its tag

-- it is the same element of the table
pub is_item_there : {t u : Tree} (e : Element) → IsReordered t u → IsItem e t → IsItem e u
is_item_there e r is = (sym (same_child_in (form_at elements.SchemaSpec) r) ∙ is.0, λ group. is.1 (same_one_of group_names r ∙ group))

-- and declares the same component
abbrev pub is_spec_there : {key : Key} {t u : Tree} → IsReordered t u → IsSpecOf key t → IsSpecOf key u
is_spec_there r is = record {
  element = is.element;
  is_item = is_item_there is.element r is.is_item;
  of_kind = is.of_kind;
  ident = sym (same_given (codes "ident") r) ∙ is.ident;
  named = is.named;
}
