-- The items of a file as they are listed: those of its first `schemaSpec`, or, without one, its declarations.
use Rattle.std.proofs.Common.{◌≡◌, ◌↔◌, ℕ, ◌<◌, Bool, true, false, List, [], ◌∷◌, filter, length, map, Some, None, slice_get, ◌||◌, refl, sym, ap, subst, ◌∙◌, IsTrue}
use Rattle.std.proofs.lemmas.Bool.{and_from, and_parts, or_left}
use Rattle.std.proofs.lemmas.Option.{slice_get_within}
use Rattle.std.specs.BTreeMap.{get}
use Rattle.std.specs.List.{position}
use Rattle.std.specs.Prelude.{codes}
use Rattle.odd_text.specs.Text.{text_cmp}
use Rattle.odd_text.specs.Same.{is_same}
use Rattle.odd_text.specs.Standing.{StandsIn}
use Rattle.odd_tree.specs.Formed.{IsFormed}
use Rattle.odd_tree.specs.declared.tree.Tree.{Tree, out-Tree}
use Rattle.odd_text.specs.Least.{IsLeast}
use Rattle.odd_forms.specs.Names.{is_one_of, is_tei}
use Rattle.odd_text.specs.Same.{is_among}
use Rattle.odd_items.proofs.ByNames.{fewer, one_search}
use Rattle.odd_items.proofs.Standing.{item_under}
use Rattle.odd_items.specs.Groups.{IsItemIn, declaration_names, holder_names, schema_names}
use Rattle.odd_items.specs.Groups as holding
use Rattle.odd_items.specs.Ids.{IsAgain, IsFirstWith}
use Rattle.odd_items.specs.Listing.{AreItems}
use Rattle.odd_items.specs.Search.{Finds, Found}
use Rattle.odd_items.specs.Searching.{AreKept, AreParents, none}
use Rattle.odd_items.specs.declared.listing.Item.{Item}
use Rattle.odd_items.specs.declared.searching.Kept.{Kept}
use Rattle.odd_items.specs.declared.searching.Level.{Level}
use Rattle.odd_items.proofs.InParts.{first_kept, first_passes, none_kept, none_passes}
use Rattle.odd_decls.proofs.KeptFound.{found_at, items_as, kept_at, kept_passing, nothing_kept, same_trees}
use Rattle.odd_decls.proofs.PlacedItems.{items_in_order}
use Rattle.odd_decls.specs.FileItems.{AreFileItems, AreHolders, AreIdsOf, AreInOrder, AreListed, IsHeldIn, schemas_among}
use Rattle.odd_decls.specs.declared.file_items.FileItems.{FileItems}
use Rattle.odd_decls.specs.declared.file_items.Groups.{Groups}

-- a `schemaSpec`
abbrev is_schema : Tree → Bool
is_schema t = is_one_of schema_names t

-- what is kept of one
abbrev keeps_schema : Kept → Bool
keeps_schema kept = is_schema kept.tree.now

-- where one of two holds and the second does not, the first does
or_left_only : (b : Bool) → (b || false) ≡ true → b ≡ true
or_left_only true h = refl
or_left_only false h = h

-- a `schemaSpec` may hold items
schema_holds : (t : Tree) → IsTrue (is_one_of schema_names t) → IsTrue (is_one_of holder_names t)
schema_holds t h =
    let parts = and_parts (is_tei t) (is_among schema_names (out-Tree t).name.local) h in
    let named : is_same (out-Tree t).name.local (codes "schemaSpec") ≡ true = or_left_only (is_same (out-Tree t).name.local (codes "schemaSpec")) parts.1 in
    and_from (is_tei t) (is_among holder_names (out-Tree t).name.local) parts.0 (or_left _ _ named)

-- the items without a `schemaSpec` are what a search for declarations finds
bare_in : (t : Tree) (f : Found) → IsItemIn t [] f → (found : List Found) × Finds declaration_names true [] t found × StandsIn found f
bare_in t f (holding.bare found finds s) = (found, finds, s)

pub bare_are : (t : Tree) (found : List Found) (levels : List Level) (items : List Item) → Finds declaration_names true [] t found → AreItems levels items (StandsIn found)
    → AreItems levels items (IsItemIn t [])
bare_are t found levels items finds =
    items_as levels items (StandsIn found) (IsItemIn t []) (λ f s. holding.bare found finds s)
    (λ f i. let h = bare_in t f i in subst (λ fs. StandsIn fs f) (one_search declaration_names true [] t h.0 found h.1 finds) h.2)

-- those with one are what stands in what holds items
held_by : (t : Tree) (schema : Found) (others : List Found) (f : Found) → IsItemIn t (schema ∷ others) f → IsHeldIn t schema f
held_by t schema others f (holding.held holder h s) = (holder, h, s)

-- the place of the first is one of what is kept
pub first_within : (keeps : List Kept) (first : ℕ) → position keeps_schema keeps ≡ Some first → first < length keeps
first_within keeps first e = let k = first_passes keeps_schema keeps first e in slice_get_within keeps first k.0 k.1

module _ (t : Tree) (levels : List Level) (groups : Groups) (founds : List Found) (are : AreHolders t levels groups founds) where
  -- at the first place the first `schemaSpec` stands
  pub schema_at : (first : ℕ) → position keeps_schema groups.found.items ≡ Some first
      → (schema : Found) × (slice_get founds first ≡ Some schema) × (others : List Found) × (schemas_among founds ≡ schema ∷ others)
  schema_at first e =
      let k = first_passes keeps_schema groups.found.items first e in
      let f = kept_at are.kept first k.0 k.1 in
      let o = first_kept (λ g. is_schema g.element) founds first f.0 f.1 (ap is_schema (sym f.2.tree) ∙ k.2)
      (λ j g low at. let h = found_at are.kept j g at in ap is_schema (sym h.2.tree) ∙ k.3 j h.0 low h.1) in
      (f.0, f.1, o.0, o.1)

  -- without a place there is none
  no_schema : position keeps_schema groups.found.items ≡ None → schemas_among founds ≡ []
  no_schema e =
      none_kept (λ g. is_schema g.element) founds (λ j g at. let h = found_at are.kept j g at in ap is_schema (sym h.2.tree) ∙ none_passes keeps_schema groups.found.items e j h.0 h.1)

  -- the items of the first
  pub held_listed : (schema : Found) (others : List Found) (items : List Item) → schemas_among founds ≡ schema ∷ others → AreItems levels items (IsHeldIn t schema)
      → AreListed t levels founds levels items
  held_listed schema others items e h = record {
    kept = λ keeps k. k;
    items = subst (λ fs. AreItems levels items (IsItemIn t fs)) (sym e)
        (items_as levels items (IsHeldIn t schema) (IsItemIn t (schema ∷ others)) (λ f i. holding.held i.0 i.1 i.2) (held_by t schema others) h);
  }

  -- and the items without one
  pub bare_listed : (others : List Level) (items : List Item) → position keeps_schema groups.found.items ≡ None → AreItems others items (IsItemIn t [])
      → AreListed t levels founds others items
  bare_listed others items e h =
      let no = no_schema e in
      record {
        kept = λ keeps k. subst (AreKept others keeps) (sym no) (subst (λ ks. AreKept others ks []) (sym (nothing_kept k no)) none);
        items = subst (λ fs. AreItems others items (IsItemIn t fs)) (sym no) h;
      }

-- what a search found and kept, with the ids of its groups
pub holders_are : (t : Tree) (levels : List Level) (keeps : List Kept) (founds : List Found) (groups : Groups) → Finds holder_names false [] t founds → AreKept levels keeps founds
    → AreParents holder_names false keeps founds → groups.found.items ≡ keeps → AreIdsOf (map (λ k. k.tree.now) keeps) groups.ids → AreHolders t levels groups founds
holders_are t levels keeps founds groups finds kept parents same ids = record {
  finds = finds;
  kept = subst (λ ks. AreKept levels ks founds) (sym same) kept;
  parents = subst (λ ks. AreParents holder_names false ks founds) (sym same) parents;
  ids = subst (λ ks. AreIdsOf (map (λ k. k.tree.now) ks) groups.ids) (sym same) ids;
}

-- all that is found of a formed file
pub all_found : (t : Tree) (first end : ℕ) → IsFormed first end t → (levels : List Level) (founds : List Found) (items : List Item) (of : FileItems) → AreHolders t levels of.groups founds
    → of.schemas.items ≡ filter keeps_schema of.groups.found.items → AreListed t levels founds of.levels.items items → AreInOrder items of.items.items → AreFileItems t of
all_found t first end formed levels founds items of are is listed order = record {
  schemas = schemas_among founds;
  finds = finds;
  kept = listed.kept of.schemas.items (subst (λ ks. AreKept levels ks (schemas_among founds)) (sym is) (kept_passing is_schema are.kept));
  items = items_in_order t first end formed of.levels.items items of.items.items (IsItemIn t (schemas_among founds)) (item_under t (schemas_among founds) finds) listed.items order;
  rises = order.rises;
  groups = record {
    found = founds;
    finds = are.finds;
    kept = trees;
    first = subst (λ ts. (id : List ℕ) (place : ℕ) → (get text_cmp of.groups.ids.by_id id ≡ Some place) ↔ IsFirstWith ts id place) trees are.ids.first;
    again = subst (λ ts. IsLeast (IsAgain ts) of.groups.ids.again) trees are.ids.again;
  };
}
  where
    finds : Finds schema_names false [] t (schemas_among founds)
    finds = fewer holder_names schema_names schema_holds [] t founds are.finds

    trees : map (λ k. k.tree.now) of.groups.found.items ≡ map (λ f. f.element) founds
    trees = same_trees are.kept
