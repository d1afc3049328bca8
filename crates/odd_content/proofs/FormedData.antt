-- The item that a `dataRef` gives which breaks no rule is formed, and so are the list and the marks that a `valList` gives which breaks none.
use Rattle.std.proofs.Common.{◌≡◌, ◌≢◌, ℕ, Bool, not, ◌&&◌, true, List, [], ◌∷◌, Option, Some, None, All, codes, fold, map, refl, subst, sym}
use Rattle.std.proofs.lemmas.Bool.{cond_both}
use Rattle.std.proofs.lemmas.Cmp.{nat_list_cmp_total}
use Rattle.std.proofs.lemmas.List.Elements.{All-nil}
use Rattle.std.proofs.lemmas.Option.{same_Some}
use Rattle.std.specs.FinMap.{put}
use Rattle.std.specs.Option.{IfSome, option_map}
use Rattle.odd_text.proofs.Entries.{put_rises}
use Rattle.odd_text.specs.Text.{text_cmp}
use Rattle.odd_text.specs.declared.name.Bind.{Bind}
use Rattle.odd_tokens.specs.Characters.{IsLegal, IsNCName}
use Rattle.odd_text.proofs.InList.{stands_first, stands_later}
use Rattle.odd_text.specs.Standing.{StandsIn}
use Rattle.odd_tree.specs.Elements.{children_of, given}
use Rattle.odd_tree.specs.Formed.{IsFormed}
use Rattle.odd_tree.specs.declared.tree.Tree.{Tree}
use Rattle.rng_types.specs.Words.{words_of}
use Rattle.rng_types.specs.declared.data_type.DataType.{DataType}
use Rattle.rng_types.specs.declared.facet.FacetText.{FacetText}
use Rattle.rng_types.specs.declared.item.Item.TheVariants as items
use Rattle.rng_values.proofs.FormedItems.{made_whole}
use Rattle.rng_values.specs.Formed.{IsFormedItem}
use Rattle.rng_values.specs.Items.{IsItemOf, ItemFault}
use Rattle.rng_values.specs.Making.{IsMadeOf, in_order, item_of}
use Rattle.rng_values.specs.Names.{named, type_names}
use Rattle.rng_values.specs.Treated.{collapsed_text}
use Rattle.odd_forms.proofs.Colon.{name_decides}
use Rattle.odd_forms.specs.Children.{IsChild}
use Rattle.odd_forms.specs.Deep.{DeepFault}
use Rattle.odd_forms.specs.Excepting.{is_name}
use Rattle.odd_forms.specs.Faults.{DemandFault, FormFault, OwnFault}
use Rattle.odd_forms.specs.Form.{filled, name, typed}
use Rattle.odd_forms.specs.Names.{is_one_of}
use Rattle.odd_forms.specs.Table.{form_at, needed, optional}
use Rattle.odd_forms.specs.Tags.{facets_given, tag_of, tags_in}
use Rattle.odd_forms.specs.declared.element.Element.{Element}
use Rattle.odd_overlay.proofs.Laid.{laid_keyed, laid_set, put_keyed}
use Rattle.odd_content.specs.FormedData.{AreValueMarks, IsFormedData, IsFormedList, IsListed, IsMadeItem}
use Rattle.odd_content.specs.Items.{item_by, item_given}
use Rattle.odd_content.specs.Values.{has_mode, list_given, marks_in, value_tagged, with_mark, with_value}
use Rattle.odd_content.proofs.Collapsed.{collapsed_listed}
use Rattle.odd_content.proofs.FormedTrees.{child_formed, tag_formed}
use Rattle.odd_content.proofs.LegalFacets.{HasLegalValue, facets_legal, made_legal}
use Rattle.odd_content.proofs.Unbroken.{IsUnbroken, attribute_kept, child_kept, decided, legal_given, suited}

-- an item that a name and facets make which break nothing
item_made : (text : List ℕ) (facets : List FacetText) (k : DataType) → ((rule : ℕ) → ItemFault text facets rule → ⊥) → All HasLegalValue facets → IsMadeOf text facets (Some (items.Typed k (in_order facets)))
    → IsMadeItem k (in_order facets)
item_made text facets k sound legal made =
    let is = same_Some _ _ (sym made.is_made) in
    record { name = text; texts = facets; sound = sound; said = subst (IsItemOf text facets) is made.said; formed = subst IsFormedItem is made.formed; legal = made_legal facets legal }

-- a datatype whose name and facets break nothing
named_formed : (text : List ℕ) (facets : List FacetText) → ((rule : ℕ) → ItemFault text facets rule → ⊥) → All HasLegalValue facets → IfSome (item_of text facets) IsFormedData
named_formed text facets sound legal = by (named type_names text) (λ k e. e)
  where
    by : (o : Option DataType) → ((k : DataType) → o ≡ Some k → named type_names text ≡ Some k) → IfSome (option_map (λ k. items.Typed k (in_order facets)) o) IsFormedData
    by None is = tt
    by (Some k) is = item_made text facets k sound legal (made_whole text facets k (is k refl) sound)

-- the key is a name, where it is given, and the name and the facets break nothing and are legal
pub item_formed : (t : Tree) → ((key : List ℕ) → given t (codes "key") ≡ Some key → IsNCName key)
    → ((text : List ℕ) → given t (codes "name") ≡ Some text → (rule : ℕ) → ItemFault text (facets_given t) rule → ⊥) → All HasLegalValue (facets_given t) → IfSome (item_given t) IsFormedData
item_formed t keyed sound legal = by (given t (codes "key")) (given t (codes "name")) keyed sound
  where
    by : (key text : Option (List ℕ)) → ((k : List ℕ) → key ≡ Some k → IsNCName k)
        → ((n : List ℕ) → text ≡ Some n → (rule : ℕ) → ItemFault n (facets_given t) rule → ⊥) → IfSome (item_by key text (facets_given t)) IsFormedData
    by (Some k) text keyed sound = keyed k refl
    by None (Some n) keyed sound = named_formed n (facets_given t) (sound n refl) legal
    by None None keyed sound = tt

-- the ident of a child is legal and has a word, where it is a `valItem`
abbrev pub IsValued : Tree → Type 0
IsValued child = is_one_of (codes "valItem" ∷ []) child ≡ true → (ident : List ℕ) → given child (codes "ident") ≡ Some ident → IsLegal ident × (words_of ident ≢ [])

-- then its value may be listed
value_listed : (child : Tree) → IsValued child → IfSome (value_tagged (tag_of child)) IsListed
value_listed child valued =
    cond_both (is_one_of (codes "valItem" ∷ []) child) (option_map collapsed_text (given child (codes "ident"))) None (λ o. IfSome o IsListed) (λ is. by (given child (codes "ident")) (valued is)) (λ other. tt)
  where
    by : (o : Option (List ℕ)) → ((ident : List ℕ) → o ≡ Some ident → IsLegal ident × (words_of ident ≢ [])) → IfSome (option_map collapsed_text o) IsListed
    by None told = tt
    by (Some ident) told = let h = told ident refl in collapsed_listed ident h.0 h.1

-- and the marks with it are formed
mark_formed : (o : Option (List ℕ)) (is_put : Bool) (marks : List (List ℕ × Bool)) → IfSome o IsListed → AreValueMarks marks → AreValueMarks (with_mark o is_put marks)
mark_formed None is_put marks here formed = formed
mark_formed (Some value) is_put marks here formed =
    (put_rises text_cmp nat_list_cmp_total value is_put marks (put text_cmp value is_put marks) formed.0 refl, put_keyed text_cmp IsListed value is_put marks here formed.1)

-- with those of all children they are
fold_formed : (is_set : Bool) (marks : List (List ℕ × Bool)) (children : List Tree) → ((child : Tree) → StandsIn children child → IsValued child) → AreValueMarks marks
    → AreValueMarks (fold (with_value is_set) marks (map tag_of children))
fold_formed is_set marks [] valued formed = formed
fold_formed is_set marks (child ∷ children) valued formed =
    let tag = tag_of child in
    let is_put = not (has_mode (codes "delete") tag.attrs) in
    fold_formed is_set (with_value is_set marks tag) children (λ later s. valued later (stands_later child later children s))
    (cond_both (not is_set && has_mode (codes "change") tag.attrs) marks (with_mark (value_tagged tag) is_put marks) AreValueMarks (λ idle. formed)
    (λ other. mark_formed (value_tagged tag) is_put marks (value_listed child (valued child (stands_first child children))) formed))

pub marks_formed : (is_set : Bool) (t : Tree) → ((child : Tree) → StandsIn (children_of t) child → IsValued child) → AreValueMarks (marks_in is_set (tags_in t))
marks_formed is_set t valued = fold_formed is_set [] (children_of t) valued (refl, All-nil (λ (mark : List ℕ × Bool). IsListed mark.0))

pub list_formed : (t : Tree) → ((child : Tree) → StandsIn (children_of t) child → IsValued child) → IsFormedList (list_given t)
list_formed t valued =
    let marks = marks_in true (tags_in t) in
    record { rising = (laid_set marks []).rising; listed = laid_keyed IsListed marks [] (marks_formed true t valued).1 (All-nil IsListed) }

-- of an element that breaks nothing
module _ {e : Element} {left : ℕ} {around : List Bind} {t : Tree} (unbroken : IsUnbroken (DeepFault e left around t)) where
  -- with a key, a name and facets, as a `dataRef` has them
  pub data_formed : {first end : ℕ} → IsFormed first end t → StandsIn (form_at e).attributes (optional (codes "key") name) → StandsIn (form_at e).demands typed → IfSome (item_given t) IsFormedData
  data_formed formed key demand =
      item_formed t (λ k is. decided (is_name k) (name_decides k) (suited (optional (codes "key") name) t k refl is (attribute_kept unbroken _ key)))
      (λ text is rule f. unbroken rule (DeepFault.itself (FormFault.own (OwnFault.demand typed demand (DemandFault.no_item text is f)))))
      (facets_legal t formed)

  -- and with children of this kind, as a `valList` has them
  pub all_valued : {first end : ℕ} → IsFormed first end t → (kind : Element) → ((child : Tree) → is_one_of (codes "valItem" ∷ []) child ≡ true → IsChild e kind child)
      → StandsIn (form_at kind).attributes (needed (codes "ident") filled) → (child : Tree) → StandsIn (children_of t) child → IsValued child
  all_valued formed kind of_kind ident child s is text told = (
    legal_given child (codes "ident") text (tag_formed (child_formed formed child s).2) told,
    λ none. suited (needed (codes "ident") filled) child text refl told (attribute_kept (child_kept unbroken child s kind (of_kind child is)) _ ident) (λ some. some none),
  )
