-- What is kept of what was found, place by place, and the items that are made of it.
use Rattle.std.proofs.Common.{◌≡◌, ℕ, zero, suc, ◌+◌, ◌≤◌, inl, inr, ⊎_elim, Bool, List, [], ◌∷◌, ◌++◌, filter, length, map, take, Some, get_or, slice_get, refl, sym, ap, ap₂, subst, ◌∙◌, arith}
use Rattle.std.proofs.lemmas.Bool.{cases_Bool}
use Rattle.std.proofs.lemmas.List.{take_all}
use Rattle.std.proofs.lemmas.Option.{get_or_from_slice_get, none-some, same_Some, slice_get_within}
use Rattle.odd_text.proofs.InList.{ends, stands_push}
use Rattle.odd_text.specs.Standing.{StandsIn}
use Rattle.odd_tree.specs.declared.tree.Tree.{Tree}
use Rattle.odd_forms.specs.Faults.{child_in}
use Rattle.odd_forms.specs.Table.{form_at}
use Rattle.odd_forms.specs.declared.element.Element.TheVariants as element
use Rattle.odd_items.specs.Listing.{AreItems, IsItemOf}
use Rattle.odd_items.specs.Search.{Found}
use Rattle.odd_items.specs.Searching.{AreKept, IsAround, IsKept, more, none}
use Rattle.odd_items.specs.declared.listing.Item.{Item}
use Rattle.odd_items.specs.declared.searching.Kept.{Kept}
use Rattle.odd_items.specs.declared.searching.Level.{Level}
use Rattle.odd_items.proofs.InParts.{filter_drops, filter_keeps}

-- what is kept at a place is kept of what was found there
pub kept_at : {levels : List Level} {keeps : List Kept} {founds : List Found} → AreKept levels keeps founds → (place : ℕ) (k : Kept) → slice_get keeps place ≡ Some k
    → (f : Found) × (slice_get founds place ≡ Some f) × IsKept levels k f
kept_at none place k e = absurd (none-some _ e)
kept_at {levels = levels} (more {kept = one} {found = f} h hs) zero k e = (f, refl, subst (λ o. IsKept levels o f) (same_Some one k e) h)
kept_at (more h hs) (suc place) k e = kept_at hs place k e

-- and the other way round
pub found_at : {levels : List Level} {keeps : List Kept} {founds : List Found} → AreKept levels keeps founds → (place : ℕ) (f : Found) → slice_get founds place ≡ Some f
    → (k : Kept) × (slice_get keeps place ≡ Some k) × IsKept levels k f
found_at none place f e = absurd (none-some _ e)
found_at {levels = levels} (more {kept = k} {found = one} h hs) zero f e = (k, refl, subst (IsKept levels k) (same_Some one f e) h)
found_at (more h hs) (suc place) f e = found_at hs place f e

-- as much is kept as was found
pub as_many : {levels : List Level} {keeps : List Kept} {founds : List Found} → AreKept levels keeps founds → length keeps ≡ length founds
as_many none = refl
as_many (more h hs) = let e = as_many hs in omega arith

-- the elements are the same
pub same_trees : {levels : List Level} {keeps : List Kept} {founds : List Found} → AreKept levels keeps founds → map (λ k. k.tree.now) keeps ≡ map (λ f. f.element) founds
same_trees none = refl
same_trees (more h hs) = ap₂ (λ t ts. t ∷ ts) h.tree (same_trees hs)

-- where nothing was found nothing is kept
pub nothing_kept : {levels : List Level} {keeps : List Kept} {founds : List Found} → AreKept levels keeps founds → founds ≡ [] → keeps ≡ []
nothing_kept none e = refl
nothing_kept (more h hs) e = let no : ⊥ = cc in absurd no

-- what is kept passes a test of its element where what was found does, and so for all that passes it
pub kept_passing : (p : Tree → Bool) {levels : List Level} {keeps : List Kept} {founds : List Found} → AreKept levels keeps founds
    → AreKept levels (filter (λ k. p k.tree.now) keeps) (filter (λ f. p f.element) founds)
kept_passing p none = none
kept_passing p {levels = levels} (more {kept = k} {found = f} {keeps = keeps} {founds = founds} h hs) =
    ⊎_elim
    (λ is. subst (λ fs. AreKept levels (filter (λ o. p o.tree.now) (k ∷ keeps)) fs) (sym (filter_keeps (λ o. p o.element) f founds is))
    (subst (λ ks. AreKept levels ks (f ∷ filter (λ o. p o.element) founds)) (sym (filter_keeps (λ o. p o.tree.now) k keeps (ap p h.tree ∙ is))) (more h (kept_passing p hs))))
    (λ other. subst (λ fs. AreKept levels (filter (λ o. p o.tree.now) (k ∷ keeps)) fs) (sym (filter_drops (λ o. p o.element) f founds other))
    (subst (λ ks. AreKept levels ks (filter (λ o. p o.element) founds)) (sym (filter_drops (λ o. p o.tree.now) k keeps (ap p h.tree ∙ other))) (kept_passing p hs)))
    (cases_Bool (p f.element))

-- items of what is such are items of what is the other, where the two are one
pub items_as : (levels : List Level) (items : List Item) (Is Other : Found → Type 0) → ((f : Found) → Is f → Other f) → ((f : Found) → Other f → Is f) → AreItems levels items Is
    → AreItems levels items Other
items_as levels items Is Other there back are = record {
  none_else = λ item s. let h = are.none_else item s in (h.0, h.1, there h.0 h.2);
  each = λ f is. are.each f (back f is);
}

-- with an item more
items_push : (levels : List Level) (items new : List Item) (done : List Found) (item : Item) (f : Found) → new ≡ items ++ item ∷ [] → IsItemOf levels item f
    → AreItems levels items (StandsIn done) → AreItems levels new (StandsIn (done ++ f ∷ []))
items_push levels items new done item f e is are = record {
  none_else = λ one s. ⊎_elim (λ old. let h = are.none_else one old in (h.0, h.1, (stands_push done f h.0).1 (inl h.2)))
      (λ same. (f, subst (λ i. IsItemOf levels i f) same is, (stands_push done f f).1 (inr refl))) ((stands_push items item one).0 (subst (λ l. StandsIn l one) e s));
  each = λ g s. ⊎_elim (λ old. let h = are.each g old in (h.0, subst (λ l. StandsIn l h.0) (sym e) ((stands_push items item h.0).1 (inl h.1)), h.2))
      (λ same. (item, subst (λ l. StandsIn l item) (sym e) ((stands_push items item item).1 (inr refl)), subst (IsItemOf levels item) same is)) ((stands_push done f g).0 s);
}

-- the items of what was found before a place
abbrev pub AreItemsSoFar : List Kept → ℕ → List Item → Type 0
AreItemsSoFar keeps place items = (levels : List Level) (founds : List Found) → AreKept levels keeps founds → AreItems levels items (StandsIn (take place founds))

-- with that of what was found there
pub items_next : (keeps : List Kept) (place : ℕ) (items new : List Item) (item : Item) (kept : Kept) → AreItemsSoFar keeps place items → slice_get keeps place ≡ Some kept → new ≡ items ++ item ∷ []
    → item.tree.now ≡ kept.tree.now → item.element ≡ child_in (form_at element.SchemaSpec) kept.tree.now → item.level ≡ kept.level → AreItemsSoFar keeps (place + 1) new
items_next keeps place items new item kept so_far at e tree told level levels founds h =
    let f = kept_at h place kept at in
    let here : f.0 ≡ get_or founds place f.0 = sym (get_or_from_slice_get founds place f.0 f.0 f.1) in
    let is : IsItemOf levels item f.0 = record {
      tree = tree ∙ f.2.tree;
      element = told ∙ ap (child_in (form_at element.SchemaSpec)) f.2.tree;
      level = subst (λ l. IsAround levels l f.0.around) (sym level) f.2.level;
    } in
    subst (λ done. AreItems levels new (StandsIn done)) (sym (ends founds place f.0 (slice_get_within founds place f.0 f.1) here))
    (items_push levels items new (take place founds) item f.0 e is (so_far levels founds h))

-- past the last place all that was found has its item
pub items_all : (keeps : List Kept) (place : ℕ) (items : List Item) → length keeps ≤ place → AreItemsSoFar keeps place items
    → (levels : List Level) (founds : List Found) → AreKept levels keeps founds → AreItems levels items (StandsIn founds)
items_all keeps place items past so_far levels founds h =
    let many = as_many h in
    subst (λ done. AreItems levels items (StandsIn done)) (take_all place founds (omega arith)) (so_far levels founds h)
