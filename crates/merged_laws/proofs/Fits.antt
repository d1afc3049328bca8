-- An element that says what fits its form breaks nothing by its form.
use Rattle.std.proofs.Common.{◌≡◌, ◌≤◌, ◌⊎◌, ⊎_elim, ℕ, Bool, true, false, not, ◌&&◌, ◌||◌, if◌then◌else◌, List, [], ◌∷◌, ◌++◌, map, Option, Some, None, refl, sym, ap, ap₂, subst, ◌∙◌, arith, cond, ◌+◌}
use Rattle.std.specs.Prelude.{IsSome, codes, count_by, find, is_none, is_some, unwrap_or}
use Rattle.std.specs.List.{cons_option, filter_map, list_all, list_any}
use Rattle.std.specs.Option.{option_map, option_to_list}
use Rattle.std.proofs.lemmas.Bool.{and_from, and_parts, both_ways, false_from_ne_true, or_parts}
use Rattle.std.proofs.lemmas.List.Sums.{sum_by-cons}
use Rattle.std.proofs.lemmas.Option.{same_Some}
use Rattle.std.specs.Cmp.Lexicographic.{same_text}
use Rattle.odd_text.specs.declared.name.Bind.{Bind}
use Rattle.odd_text.specs.declared.name.Name.{Name}
use Rattle.odd_text.specs.Same.{is_same}
use Rattle.odd_text.specs.Standing.{StandsIn}
use Rattle.odd_tree.specs.Elements.{attribute_value, children_of, given}
use Rattle.odd_tree.specs.Markup.{Markup}
use Rattle.odd_tree.specs.declared.tree.Tree.{Tree, out-Tree}
use Rattle.odd_text.proofs.InList.{first_or_later, nothing_stands}
use Rattle.odd_tree.proofs.PrintedTrees.{same_from}
use Rattle.rng_types.specs.declared.facet.FacetText.{FacetText}
use Rattle.rng_values.specs.Items.{ItemFault}
use Rattle.rng_values.specs.Treated.{collapsed_text}
use Rattle.odd_forms.specs.Excepting.{has_unbound}
use Rattle.odd_forms.specs.Faults.{AttributeFault, ChildFault, DemandFault, FormFault, OwnFault, ValueFault, has_named, count_named, idents_of, values_in}
use Rattle.odd_forms.specs.Form.{AttributeForm, Demand, Form, Kind, Suits, in_order, needed_unless, not_both, bound, apart, apart_collapsed, attributes_apart, either, not_beside, no_child_beside, has_child, one_part, no_part, once, own_text, typed, number_told, text}
use Rattle.odd_forms.specs.Listing.{Lists, ListsAmong, is_definition}
use Rattle.odd_forms.specs.Listing as listing
use Rattle.odd_forms.specs.Names.{tei, tei_namespace}
use Rattle.odd_text.specs.Standing.{StandsTwice}
use Rattle.odd_forms.specs.Table.{form_at}
use Rattle.odd_forms.specs.Tags.{Tag, facet_tagged, facets_given, is_tagged, tag_of, tags_in}
use Rattle.odd_text.specs.Same.{is_among}
use Rattle.odd_forms.specs.Words.{is_given_among, words_of}
use Rattle.odd_forms.specs.declared.element.Element.{Element}
use Rattle.odd_forms.specs.declared.element.Element.TheVariants as elements
use Rattle.odd_forms.proofs.Forms.{named_placed}
use Rattle.odd_emit.specs.Saying.{Said, Value, written}
use Rattle.merged_laws.proofs.Said.{are_apart, not_true, told, value_of}
use Rattle.merged_laws.proofs.Told.{AllOf, IsTold, child_shown, name_of, shown_name, tag_said}
use Rattle.merged_laws.proofs.Values.{IsFormedFor, value_suits}

-- what holds of all holds of one of them
pub all_stand : {A : Type 0} (p : A → Bool) (xs : List A) (x : A) → list_all p xs ≡ true → StandsIn xs x → p x ≡ true
all_stand p [] x h s = absurd (nothing_stands x s)
all_stand p (y ∷ ys) x h s =
    let k = and_parts (p y) (list_all p ys) h in
    ⊎_elim (λ e. ap p e ∙ k.0) (λ later. all_stand p ys x k.1 later) (first_or_later y x ys s)

-- Attributes

-- the kind of an attribute by the form: any text, where it is not listed
abbrev pub kind_among : List AttributeForm → List ℕ → Kind
kind_among [] local = text
kind_among (a ∷ rest) local = if is_same a.local local then a.kind else kind_among rest local

-- values that are formed
abbrev pub IsFormedIfThere : Kind → Option Value → Type 0
IsFormedIfThere kind None = Unit {0}
IsFormedIfThere kind (Some v) = IsFormedFor kind v

abbrev pub AreFormedValues : List AttributeForm → List Said → Type 0
AreFormedValues attributes [] = Unit {0}
AreFormedValues attributes (s ∷ rest) = IsFormedIfThere (kind_among attributes s.local) s.value × AreFormedValues attributes rest

-- a needed attribute is there, and no value is one that is left out
abbrev pub is_right : AttributeForm → Option Value → Bool
is_right a None = not a.needed
is_right a (Some value) = not (is_among a.left_out (written value))

-- what is said is right by the form, where the values are formed
abbrev pub fits : Form → List Said → Bool
fits form said = list_all (λ a. is_right a (value_of said a.local)) form.attributes && list_all (λ l. is_none (value_of said l)) form.left_out

value_formed : (attributes : List AttributeForm) (said : List Said) (local : List ℕ) → AreFormedValues attributes said → IsFormedIfThere (kind_among attributes local) (value_of said local)
value_formed attributes [] local h = tt
value_formed attributes (s ∷ rest) local h =
    elim (is_same s.local local) as (λ b. is_same s.local local ≡ b → IsFormedIfThere (kind_among attributes local) (if b then s.value else value_of rest local)) [
      | true ↦ λ e. subst (λ l. IsFormedIfThere (kind_among attributes l) s.value) (same_text s.local local (sym e)) h.0
      | false ↦ λ e. value_formed attributes rest local h.1
    ] refl

-- each attribute is listed once, so its kind is the one of its name
kind_here : (a : AttributeForm) (attributes : List AttributeForm) → kind_among (a ∷ attributes) a.local ≡ a.kind
kind_here a attributes = ap (λ b. if b then a.kind else kind_among attributes a.local) (same_from a.local a.local refl)

abbrev locals_of : List AttributeForm → List (List ℕ)
locals_of = map (λ (a : AttributeForm). a.local)

other_name : (x a : AttributeForm) (ys : List AttributeForm) → list_any (λ l. is_same l x.local) (locals_of ys) ≡ false → StandsIn ys a → is_same x.local a.local ≡ false
other_name x a [] h s = absurd (nothing_stands a s)
other_name x a (y ∷ ys) h s =
    let k = or_parts (is_same y.local x.local) (list_any (λ l. is_same l x.local) (locals_of ys)) h in
    ⊎_elim
    (λ e. false_from_ne_true _ (λ same. both_ways (is_same y.local x.local) k.0 (same_from _ _ (ap (λ (z : AttributeForm). z.local) (sym e) ∙ sym (same_text x.local a.local (sym same))))))
    (other_name x a ys k.1) (first_or_later y a ys s)

kind_told : (attributes : List AttributeForm) (a : AttributeForm) → are_apart (locals_of attributes) ≡ true → StandsIn attributes a → kind_among attributes a.local ≡ a.kind
kind_told [] a h s = absurd (nothing_stands a s)
kind_told (x ∷ xs) a h s =
    let k = and_parts (not (list_any (λ l. is_same l x.local) (locals_of xs))) (are_apart (locals_of xs)) h in
    ⊎_elim (λ e. subst (λ y. kind_among (x ∷ xs) y.local ≡ y.kind) (sym e) (kind_here x xs))
    (λ later. ap (λ b. if b then x.kind else kind_among xs a.local) (other_name x a xs (not_true _ k.0) later) ∙ kind_told xs a k.1 later) (first_or_later x a xs s)

names_apart : (e : Element) → are_apart (locals_of (form_at e).attributes) ≡ true
names_apart elements.SchemaSpec = refl
names_apart e = refl

-- what is right breaks nothing
not_false : (b : Bool) → not b ≡ true → b ≡ true → ⊥
not_false true h k = both_ways true (sym h) refl
not_false false h k = both_ways false refl k

right_absent : (a : AttributeForm) (v : Option Value) → is_right a v ≡ true → option_map written v ≡ None → a.needed ≡ true → ⊥
right_absent a None h e needed = not_false a.needed h needed
right_absent a (Some v) h e needed = cc

right_value : (a : AttributeForm) (v : Option Value) (value : List ℕ) (rule : ℕ) → is_right a v ≡ true → IsFormedIfThere a.kind v → option_map written v ≡ Some value → ValueFault a value rule → ⊥
right_value a None value rule h formed e f = cc
right_value a (Some v) value rule h formed e (ValueFault.left_out among) = not_false _ h (subst (λ x. is_among a.left_out x ≡ true) (sym (same_Some _ _ e)) among)
right_value a (Some v) value rule h formed e (ValueFault.malformed other unfit) = unfit (subst (Suits a.kind) (same_Some _ _ e) (value_suits a.kind v formed))

attribute_free : (a : AttributeForm) (v : Option Value) (t : Tree) (rule : ℕ) → given t a.local ≡ option_map written v → is_right a v ≡ true → IsFormedIfThere a.kind v → AttributeFault a t rule → ⊥
attribute_free a v t rule g h formed (AttributeFault.absent needed e) = right_absent a v h (sym g ∙ e) needed
attribute_free a v t rule g h formed (AttributeFault.value value e f) = right_value a v value rule h formed (sym g ∙ e) f

nothing_there : (v : Option Value) → is_none v ≡ true → IsSome (option_map written v) → ⊥
nothing_there None h s = both_ways false refl s
nothing_there (Some v) h s = both_ways false refl h

-- Children, by their tags

-- the element of the table that a name is, among these
abbrev pub name_among : List Element → Name → Option Element
name_among kinds n = find (λ e. is_same n.ns tei_namespace && is_among ((form_at e).name ∷ []) n.local) kinds

-- the element of the table that a child of a name is
abbrev pub child_called : Element → Name → Option Element
child_called e n = name_among ((form_at e).many ++ (form_at e).once) n

abbrev pub has_tagged : Element → List Tag → Bool
has_tagged e tags = list_any (is_tagged (form_at e).name) tags

abbrev pub count_tagged : List Element → List Tag → ℕ
count_tagged kinds tags = count_by (λ (tag : Tag). is_some (name_among kinds tag.name)) tags

abbrev pub value_tagged : Element → List ℕ → Tag → Option (List ℕ)
value_tagged e local tag = if is_tagged (form_at e).name tag then attribute_value tag.attrs local else None

abbrev pub values_tagged : Element → List ℕ → List Tag → List (List ℕ)
values_tagged e local tags = filter_map (value_tagged e local) tags

abbrev pub ident_tagged : Tag → Option (List ℕ)
ident_tagged tag = attribute_value tag.attrs (codes "ident")

abbrev pub facets_told : List Said → List Tag → List FacetText
facets_told said tags = option_to_list (option_map (λ value. record { name = codes "pattern"; value = value }) (told said (codes "restriction"))) ++ filter_map facet_tagged tags

-- what is told of trees by their tags
pub any_told : (p : Tag → Bool) (ts : List Tree) → list_any (λ t. p (tag_of t)) ts ≡ list_any p (map tag_of ts)
any_told p [] = refl
any_told p (t ∷ ts) = ap (λ b. p (tag_of t) || b) (any_told p ts)

pub count_told : (p : Tag → Bool) (ts : List Tree) → count_by (λ t. p (tag_of t)) ts ≡ count_by p (map tag_of ts)
count_told p [] = refl
count_told p (t ∷ ts) =
    sum_by-cons (λ u. cond (p (tag_of u)) 1 0) t ts ∙ ap (λ n. cond (p (tag_of t)) 1 0 + n) (count_told p ts) ∙ sym (sum_by-cons (λ tag. cond (p tag) 1 0) (tag_of t) (map tag_of ts))

pub mapped_told : {X : Type 0} (f : Tag → Option X) (ts : List Tree) → filter_map (λ t. f (tag_of t)) ts ≡ filter_map f (map tag_of ts)
mapped_told f [] = refl
mapped_told f (t ∷ ts) = ap (cons_option (f (tag_of t))) (mapped_told f ts)

-- Demands

-- no value stands twice
abbrev pub NoneAlike : List (List ℕ) → Type 0
NoneAlike values = (value : List ℕ) → StandsTwice (λ v. v ≡ value) values → ⊥

-- what must also hold of an element that says this and has children with these tags does, under these declarations (of its text nothing is shown here)
abbrev pub IsMet : List Bind → List Said → List Tag → Demand → Type 0
IsMet binds said tags (in_order least most) = (m n : ℕ) → number_told (told said least) ≡ Some m → number_told (told said most) ≡ Some n → m ≤ n
IsMet binds said tags (not_both one other) = (words_of (unwrap_or (told said one) []) ≡ []) ⊎ (words_of (unwrap_or (told said other) []) ≡ [])
IsMet binds said tags (needed_unless local by words) = (told said local ≡ None) → is_given_among words (told said by) ≡ true
IsMet binds said tags (bound local) = has_unbound binds (words_of (unwrap_or (told said local) [])) ≡ false
IsMet binds said tags (apart e local) = NoneAlike (values_tagged e local tags)
IsMet binds said tags (apart_collapsed e local) = NoneAlike (map collapsed_text (values_tagged e local tags))
IsMet binds said tags attributes_apart = (list_all (is_tagged (codes "attDef")) tags ≡ true) × NoneAlike (filter_map ident_tagged tags)
IsMet binds said tags (either one other) = is_some (told said one) ≡ not (is_some (told said other))
IsMet binds said tags (not_beside local by) = (is_some (told said by) && is_some (told said local)) ≡ false
IsMet binds said tags (no_child_beside e by rule) = (is_some (told said by) && has_tagged e tags) ≡ false
IsMet binds said tags (has_child e by words) = (has_tagged e tags || is_given_among words (told said by)) ≡ true
IsMet binds said tags (one_part kinds) = count_tagged kinds tags ≡ 1
IsMet binds said tags (no_part kinds) = count_tagged kinds tags ≡ 0
IsMet binds said tags (once local) = number_told (told said local) ≡ Some 1
IsMet binds said tags (own_text kind) = ⊥
IsMet binds said tags typed = (name : List ℕ) → told said (codes "name") ≡ Some name → (rule : ℕ) → ItemFault name (facets_told said tags) rule → ⊥

abbrev pub AreMet : List Bind → List Said → List Tag → List Demand → Type 0
AreMet binds said tags [] = Unit {0}
AreMet binds said tags (d ∷ ds) = IsMet binds said tags d × AreMet binds said tags ds

demand_met : (binds : List Bind) (said : List Said) (tags : List Tag) (ds : List Demand) (d : Demand) → AreMet binds said tags ds → StandsIn ds d → IsMet binds said tags d
demand_met binds said tags [] d h s = absurd (nothing_stands d s)
demand_met binds said tags (x ∷ xs) d h s = ⊎_elim (λ e. subst (IsMet binds said tags) (sym e) h.0) (λ later. demand_met binds said tags xs d h.1 later) (first_or_later x d xs s)

-- where each child is an attribute, these are listed
defs_listed : (ts defs : List Tree) → list_all (is_tagged (codes "attDef")) (map tag_of ts) ≡ true → ListsAmong ts defs → defs ≡ ts
defs_listed [] defs h listing.nothing = refl
defs_listed (t ∷ ts) defs h (listing.definition d later) = ap (λ xs. t ∷ xs) (defs_listed ts _ (and_parts (is_definition t) _ h).1 later)
defs_listed (t ∷ ts) defs h (listing.nested d l i later e) = absurd (both_ways (is_definition t) d (and_parts (is_definition t) _ h).0)
defs_listed (t ∷ ts) defs h (listing.other d l later) = absurd (both_ways (is_definition t) d (and_parts (is_definition t) _ h).0)

list_listed : (t : Tree) (defs : List Tree) → list_all (is_tagged (codes "attDef")) (tags_in t) ≡ true → Lists t defs → defs ≡ children_of t
list_listed t defs h (listing.list among) = defs_listed (children_of t) defs h among

both_there : (a b : Bool) → (a && b) ≡ false → b ≡ true → a ≡ true → ⊥
both_there a b h k l = both_ways (a && b) h (and_from a b l k)

either_there : (a b : Bool) → a ≡ not b → ((a ≡ false) → (b ≡ false) → ⊥) × ((a ≡ true) → (b ≡ true) → ⊥)
either_there true true e = cc
either_there true false e = ((λ h k. both_ways true h refl), (λ h k. both_ways false refl k))
either_there false true e = ((λ h k. both_ways true k refl), (λ h k. both_ways false refl h))
either_there false false e = cc

values_told : (e : Element) (local : List ℕ) (t : Tree) → values_in e local t ≡ values_tagged e local (tags_in t)
values_told e local t = mapped_told (value_tagged e local) (children_of t)

module _ (binds : List Bind) (said : List Said) (tags : List Tag) (t : Tree) (g : (local : List ℕ) → given t local ≡ told said local) (are : tags_in t ≡ tags) where
  told_some : (local : List ℕ) (b : Bool) → is_some (given t local) ≡ b → is_some (told said local) ≡ b
  told_some local b h = ap is_some (sym (g local)) ∙ h

  has_told : (e : Element) → has_named e t ≡ has_tagged e tags
  has_told e = any_told (is_tagged (form_at e).name) (children_of t) ∙ ap (has_tagged e) are

  named_told : (kinds : List Element) → count_named kinds t ≡ count_tagged kinds tags
  named_told kinds = count_told (λ (tag : Tag). is_some (name_among kinds tag.name)) (children_of t) ∙ ap (count_tagged kinds) are

  pub facets_are : facets_given t ≡ facets_told said tags
  facets_are =
      ap₂ (λ (o : Option (List ℕ)) (xs : List Tag). option_to_list (option_map (λ value. record { name = codes "pattern"; value = value }) o) ++ filter_map facet_tagged xs) (g (codes "restriction")) are

  demand_free : (d : Demand) (rule : ℕ) → IsMet binds said tags d → DemandFault binds t d rule → ⊥
  demand_free (in_order least most) rule met (DemandFault.out_of_order m n e f above) =
      let k = met m n (ap number_told (sym (g least)) ∙ e) (ap number_told (sym (g most)) ∙ f) in omega arith
  demand_free (not_both one other) rule met (DemandFault.both a b) =
      ⊎_elim (λ e. a (ap (λ v. words_of (unwrap_or v [])) (g one) ∙ e)) (λ e. b (ap (λ v. words_of (unwrap_or v [])) (g other) ∙ e)) met
  demand_free (needed_unless local by words) rule met (DemandFault.missing e among) = both_ways _ among (ap (is_given_among words) (g by) ∙ met (sym (g local) ∙ e))
  demand_free (bound local) rule met (DemandFault.unbound u) = both_ways _ (ap (λ v. has_unbound binds (words_of (unwrap_or v []))) (g local) ∙ met) u
  demand_free (apart e local) rule met (DemandFault.twice value s) =
      met value (subst (λ vs. StandsTwice (λ v. v ≡ value) vs) (values_told e local t ∙ ap (values_tagged e local) are) s)
  demand_free (apart_collapsed e local) rule met (DemandFault.collapsed_twice value s) =
      met value (subst (λ vs. StandsTwice (λ v. v ≡ value) vs) (ap (map collapsed_text) (values_told e local t ∙ ap (values_tagged e local) are)) s)
  demand_free attributes_apart rule met (DemandFault.attribute_twice value defs lists s) =
      let listed = list_listed t defs (ap (list_all (is_tagged (codes "attDef"))) are ∙ met.0) lists in
      met.1 value (subst (λ vs. StandsTwice (λ v. v ≡ value) vs) (ap idents_of listed ∙ mapped_told ident_tagged (children_of t) ∙ ap (filter_map ident_tagged) are) s)
  demand_free (either one other) rule met (DemandFault.neither e f) =
      (either_there _ _ met).0 (told_some one false (ap is_some e)) (told_some other false (ap is_some f))
  demand_free (either one other) rule met (DemandFault.both_given a b) = (either_there _ _ met).1 (told_some one true a) (told_some other true b)
  demand_free (not_beside local by) rule met (DemandFault.beside a b) = both_there _ _ met (told_some local true a) (told_some by true b)
  demand_free (no_child_beside e by r) rule met (DemandFault.child_beside h k) = both_there _ _ met (sym (has_told e) ∙ h) (told_some by true k)
  demand_free (has_child e by words) rule met (DemandFault.no_child h k) =
      both_ways _ (ap₂ (λ (a b : Bool). a || b) (sym (has_told e) ∙ h) (ap (is_given_among words) (sym (g by)) ∙ k)) met
  demand_free (one_part kinds) rule met (DemandFault.not_one other) = other (named_told kinds ∙ met)
  demand_free (no_part kinds) rule met (DemandFault.misplaced other) = other (named_told kinds ∙ met)
  demand_free (once local) rule met (DemandFault.not_once other) = other (ap number_told (g local) ∙ met)
  demand_free (own_text kind) rule met f = absurd met
  demand_free typed rule met (DemandFault.no_item name e f) = met name (sym (g (codes "name")) ∙ e) rule (subst (λ xs. ItemFault name xs rule) facets_are f)

  own_free : (e : Element) (rule : ℕ) → fits (form_at e) said ≡ true → AreFormedValues (form_at e).attributes said → AreMet binds said tags (form_at e).demands → OwnFault (form_at e) binds t rule → ⊥
  own_free e rule h formed met (OwnFault.attribute a stands f) =
      let form = form_at e in
      let k = and_parts (list_all (λ x. is_right x (value_of said x.local)) form.attributes) (list_all (λ l. is_none (value_of said l)) form.left_out) h in
      attribute_free a (value_of said a.local) t rule (g a.local) (all_stand (λ x. is_right x (value_of said x.local)) form.attributes a k.0 stands)
      (subst (λ k. IsFormedIfThere k (value_of said a.local)) (kind_told form.attributes a (names_apart e) stands) (value_formed form.attributes said a.local formed)) f
  own_free e rule h formed met (OwnFault.left_out local stands some) =
      let form = form_at e in
      let k = and_parts (list_all (λ x. is_right x (value_of said x.local)) form.attributes) (list_all (λ l. is_none (value_of said l)) form.left_out) h in
      nothing_there (value_of said local) (all_stand (λ l. is_none (value_of said l)) form.left_out local k.1 stands) (subst IsSome (g local) some)
  own_free e rule h formed met (OwnFault.demand d stands f) = demand_free d rule (demand_met binds said tags (form_at e).demands d met stands) f

-- a child that may stand there by its name
abbrev pub MayStand : Element → Markup → Type 0
MayStand e m = is_some (child_called e (tei (name_of m))) ≡ true

found_there : {A : Type 0} (o : Option A) → is_some o ≡ true → (x : A) × (o ≡ Some x)
found_there None h = absurd (both_ways false refl h)
found_there (Some x) h = (x, refl)

child_free : (e : Element) (m : Markup) (u : Tree) (rule : ℕ) → (out-Tree u).name ≡ tei (name_of m) → MayStand e m → ChildFault (form_at e) u rule → ⊥
child_free e m u rule named h f =
    let k = found_there (child_called e (tei (name_of m))) h in named_placed e k.0 u rule (ap (child_called e) named ∙ k.1) f

-- of each element that may stand once there is no second
abbrev pub AreOnce : List Element → List Tag → Type 0
AreOnce [] tags = Unit {0}
AreOnce (e ∷ es) tags = (count_by (is_tagged (form_at e).name) tags ≤ 1) × AreOnce es tags

once_stands : (es : List Element) (e : Element) (tags : List Tag) → AreOnce es tags → StandsIn es e → count_by (is_tagged (form_at e).name) tags ≤ 1
once_stands [] e tags h s = absurd (nothing_stands e s)
once_stands (x ∷ xs) e tags h s = ⊎_elim (λ is. subst (λ k. count_by (is_tagged (form_at k).name) tags ≤ 1) (sym is) h.0) (λ later. once_stands xs e tags h.1 later) (first_or_later x e xs s)

-- what breaks nothing by its form
pub form_free : (e : Element) (binds : List Bind) (name : List ℕ) (said : List Said) (inside : List Markup) (t : Tree) → IsTold name said inside t → fits (form_at e) said ≡ true
    → AreFormedValues (form_at e).attributes said → AreMet binds said (map tag_said inside) (form_at e).demands → AllOf (MayStand e) inside → AreOnce (form_at e).once (map tag_said inside)
    → (rule : ℕ) → FormFault (form_at e) binds t rule → ⊥
form_free e binds name said inside t k h formed met may few rule (FormFault.own f) = own_free binds said (map tag_said inside) t k.given k.tags e rule h formed met f
form_free e binds name said inside t k h formed met may few rule (FormFault.child u stands f) =
    let s = child_shown (MayStand e) inside (children_of t) may k.children u stands in
    child_free e s.0 u rule (shown_name s.0 u s.2) s.1 f
form_free e binds name said inside t k h formed met may few rule (FormFault.twice o stands two) =
    let at_most = once_stands (form_at e).once o (map tag_said inside) few stands in
    let same = count_told (is_tagged (form_at o).name) (children_of t) ∙ ap (count_by (is_tagged (form_at o).name)) k.tags in
    omega (arith, at_most, same, two)
