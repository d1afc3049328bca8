-- The items of a file, one after the other.
use Rattle.std.proofs.Common.{◌≡◌, ℕ, zero, suc, ◌<◌, ◌⊎◌, inl, inr, ⊎_elim, Bool, true, false, List, [], ◌∷◌, ◌++◌, drop, Option, Some, slice_get, refl, sym, ap, subst, ◌∙◌, append_assoc, arith}
use Rattle.std.proofs.lemmas.Bool.{false≢true}
use Rattle.std.proofs.lemmas.Option.{none-some, same_Some}
use Rattle.odd_text.specs.Standing.{StandsIn}
use Rattle.odd_tree.specs.Elements.{children_of, within}
use Rattle.odd_tree.specs.declared.tree.Tree.{Tree}
use Rattle.odd_text.proofs.InList.{map_stands, nothing_stands, stands_map, stands_push}
use Rattle.odd_items.specs.Held.{AddsChildren, AddsItems, IsItemAt}
use Rattle.odd_items.specs.Listing.{AreItems, IsHeldBy, IsItemOf}
use Rattle.odd_items.specs.Search.{Found, children_found}
use Rattle.odd_items.specs.Searching.{AreKept, IsAround, IsKept, more, none}
use Rattle.odd_items.specs.declared.listing.Item.{Item}
use Rattle.odd_items.specs.declared.searching.Kept.{Kept}
use Rattle.odd_items.specs.declared.searching.Level.{Level}

-- one item more
pub adds_one : (level : Option ℕ) (ts : List Tree) (t : Tree) (old made new : List Item) (item : Item) → new ≡ made ++ item ∷ [] → IsItemAt level item t → AddsItems level ts old made
    → AddsItems level (ts ++ t ∷ []) old new
adds_one level ts t old made new item e is a = record {
  kept = λ i s. earlier i (a.kept i s);
  each = λ u s. ⊎_elim (λ h. let f = a.each u h in (f.0, earlier f.0 f.1, f.2))
      (λ same. (item, subst (λ l. StandsIn l item) (sym e) ((stands_push made item item).1 (inr refl)), subst (IsItemAt level item) same is)) ((stands_push ts t u).0 s);
  none_else = λ i s. ⊎_elim
      (λ h. ⊎_elim (λ o. inl o) (λ f. inr (f.0, (stands_push ts t f.0).1 (inl f.1), f.2)) (a.none_else i h))
      (λ same. inr (t, (stands_push ts t t).1 (inr refl), subst (λ k. IsItemAt level k t) same is)) ((stands_push made item i).0 (subst (λ l. StandsIn l i) e s));
}
  where
    earlier : (i : Item) → StandsIn made i → StandsIn new i
    earlier i s = subst (λ l. StandsIn l i) (sym e) ((stands_push made item i).1 (inl s))

-- the items of the children so far, where the rest is still to come
abbrev pub AddsSoFar : Kept → List Tree → List Item → List Item → Type 0
AddsSoFar kept rest old now = (done : List Tree) × (children_of kept.tree.now ≡ done ++ rest) × AddsItems kept.inside done old now

-- and those with the next one
pub so_far_more : (kept : Kept) (rest later : List Tree) (old made new : List Item) (item : Item) (t : Tree) → AddsSoFar kept rest old made → rest ≡ t ∷ later → new ≡ made ++ item ∷ []
    → IsItemAt kept.inside item t → AddsSoFar kept later old new
so_far_more kept rest later old made new item t so_far is e at = (
  so_far.0 ++ t ∷ [],
  so_far.1 ∙ ap (λ ts. so_far.0 ++ ts) is ∙ sym (append_assoc so_far.0 (t ∷ []) later),
  adds_one kept.inside so_far.0 t old made new item e at so_far.2,
)

-- a number below the next one is below this one, or is it
below_or_same : (i n : ℕ) → i < suc n → (i < n) ⊎ (i ≡ n)
below_or_same zero zero h = inr refl
below_or_same zero (suc n) h = inl (omega arith)
below_or_same (suc i) zero h = let no : ⊥ = omega (arith, h) in absurd no
below_or_same (suc i) (suc n) h = let low : i < suc n = omega (arith, h) in ⊎_elim (λ l. inl (omega (arith, l))) (λ e. inr (ap (λ k. suc k) e)) (below_or_same i n low)

-- what a list from a place on begins with stands at the place
dropped : {X : Type 0} (n : ℕ) (xs : List X) (x : X) (rest : List X) → drop n xs ≡ x ∷ rest → (slice_get xs n ≡ Some x) × (drop (suc n) xs ≡ rest)
dropped zero [] x rest e = let no : ⊥ = cc in absurd no
dropped zero (y ∷ xs) x rest e = let head : y ≡ x = cc in let tail : xs ≡ rest = cc in (ap Some head, tail)
dropped (suc n) [] x rest e = let no : ⊥ = cc in absurd no
dropped (suc n) (y ∷ xs) x rest e = dropped n xs x rest e

-- where nothing is left from a place on, all stands before it
all_dropped : {X : Type 0} (n : ℕ) (xs : List X) → drop n xs ≡ [] → (i : ℕ) (x : X) → slice_get xs i ≡ Some x → i < n
all_dropped n [] e i x at = absurd (none-some _ at)
all_dropped zero (y ∷ xs) e i x at = let no : ⊥ = cc in absurd no
all_dropped (suc n) (y ∷ xs) e zero x at = omega arith
all_dropped (suc n) (y ∷ xs) e (suc i) x at = let h = all_dropped n xs e i x at in omega (arith, h)

-- what is kept first is kept of the first
first_kept : (levels : List Level) (kept : Kept) (later : List Kept) (founds : List Found) → AreKept levels (kept ∷ later) founds
    → (f : Found) × (rest : List Found) × (founds ≡ f ∷ rest) × IsKept levels kept f × AreKept levels later rest
first_kept levels kept later founds (more {found = f} {founds = rest} k ks) = (f, rest, refl, k, ks)

-- where nothing is kept, nothing was found
none_kept : (levels : List Level) (founds : List Found) → AreKept levels [] founds → founds ≡ []
none_kept levels founds none = refl

-- the items of what is done of what was found, where the rest is still to come
pub record HeldFrom (levels : List Level) (founds : List Found) (marks : List Bool) (keeps : List Kept) (rest : List Bool) (items : List Item) : Type 0 where
  pub done : ℕ
  pub keeps_left : AreKept levels keeps (drop done founds)
  pub marks_left : drop done marks ≡ rest
  pub none_else : (item : Item) → StandsIn items item → (found : Found) × IsItemOf levels item found × IsHeldBy founds marks found
  pub each : (found : Found) (held : IsHeldBy founds marks found) → held.place < done → (item : Item) × StandsIn items item × IsItemOf levels item found

-- and so whatever was found
abbrev pub HeldSoFar : List Kept → List Bool → List Kept → List Bool → List Item → Type 0
HeldSoFar all marks keeps rest items = (levels : List Level) (founds : List Found) → AreKept levels all founds → HeldFrom levels founds marks keeps rest items

-- at the start
pub held_none : (all keeps : List Kept) (marks rest : List Bool) (items : List Item) → keeps ≡ all → rest ≡ marks → items ≡ [] → HeldSoFar all marks keeps rest items
held_none all keeps marks rest items same_keeps same_marks empty levels founds kept = record {
  done = zero;
  keeps_left = subst (λ ks. AreKept levels ks founds) (sym same_keeps) kept;
  marks_left = sym same_marks;
  none_else = λ item s. absurd (nothing_stands item (subst (λ l. StandsIn l item) empty s));
  each = λ found held low. let no : ⊥ = omega (arith, low) in absurd no;
}

-- past one that is not marked
pub held_skip : (all keeps later : List Kept) (marks rest left : List Bool) (items : List Item) (kept : Kept) (mark : Bool) → keeps ≡ kept ∷ later → rest ≡ mark ∷ left → mark ≡ false
    → HeldSoFar all marks keeps rest items → HeldSoFar all marks later left items
held_skip all keeps later marks rest left items kept mark is_keeps is_marks off so_far levels founds h =
    let a = so_far levels founds h in
    let f = first_kept levels kept later (drop a.done founds) (subst (λ ks. AreKept levels ks (drop a.done founds)) is_keeps a.keeps_left) in
    let m = dropped a.done marks mark left (a.marks_left ∙ is_marks) in
    record {
      done = suc a.done;
      keeps_left = subst (AreKept levels later) (sym (dropped a.done founds f.0 f.1 f.2).1) f.4;
      marks_left = m.1;
      none_else = a.none_else;
      each = λ found held low. ⊎_elim (λ l. a.each found held l)
          (λ e. absurd (false≢true (sym off ∙ same_Some mark true (sym m.0 ∙ subst (λ n. slice_get marks n ≡ Some true) e held.marked)))) (below_or_same held.place a.done low);
    }

-- with the children of one that is marked
pub held_more : (all keeps later : List Kept) (marks rest left : List Bool) (items new : List Item) (kept : Kept) (mark : Bool) → keeps ≡ kept ∷ later → rest ≡ mark ∷ left → mark ≡ true
    → AddsChildren kept items new → HeldSoFar all marks keeps rest items → HeldSoFar all marks later left new
held_more all keeps later marks rest left items new kept mark is_keeps is_marks on adds so_far levels founds h =
    let a = so_far levels founds h in
    let f = first_kept levels kept later (drop a.done founds) (subst (λ ks. AreKept levels ks (drop a.done founds)) is_keeps a.keeps_left) in
    let m = dropped a.done marks mark left (a.marks_left ∙ is_marks) in
    let g = dropped a.done founds f.0 f.1 f.2 in
    record {
      done = suc a.done;
      keeps_left = subst (AreKept levels later) (sym g.1) f.4;
      marks_left = m.1;
      none_else = λ item s. ⊎_elim (λ o. a.none_else item o) (λ t. (
        child f.0 t.0,
        item_of f.0 f.3 item t.0 t.2,
        record {
          place = a.done;
          holder = f.0;
          marked = m.0 ∙ ap Some on;
          holder_at = g.0;
          stands = map_stands (child f.0) (children_of f.0.element) t.0 (subst (λ e. StandsIn (children_of e) t.0) f.3.tree t.1);
        },
      )) (adds.none_else item s);
      each = λ found held low. ⊎_elim (λ l. let i = a.each found held l in (i.0, adds.kept i.0 i.1, i.2))
          (λ e.
          let same : held.holder ≡ f.0 = same_Some held.holder f.0 (sym held.holder_at ∙ ap (slice_get founds) e ∙ g.0) in
          let t = stands_map (child f.0) (children_of f.0.element) found (subst (λ k. StandsIn (children_found k) found) same held.stands) in
          let i = adds.each t.0 (subst (λ k. StandsIn (children_of k) t.0) (sym f.3.tree) t.1) in
          (i.0, i.1, subst (IsItemOf levels i.0) (sym t.2) (item_of f.0 f.3 i.0 t.0 i.2))) (below_or_same held.place a.done low);
    }
  where
    child : Found → Tree → Found
    child f c = record { around = within f.around f.element; element = c }

    item_of : (f : Found) → IsKept levels kept f → (item : Item) (t : Tree) → IsItemAt kept.inside item t → IsItemOf levels item (child f t)
    item_of f k item t at = record {
      tree = at.tree;
      element = at.element;
      level = subst (λ l. IsAround levels l (within f.around f.element)) (sym at.level) k.inside;
    }

-- at the end, where nothing is left of what was found or of the marks
pub held_all : (all keeps : List Kept) (marks rest : List Bool) (items : List Item) → (keeps ≡ []) ⊎ (rest ≡ []) → HeldSoFar all marks keeps rest items
    → (levels : List Level) (founds : List Found) → AreKept levels all founds → AreItems levels items (IsHeldBy founds marks)
held_all all keeps marks rest items ended so_far levels founds h = record {
  none_else = a.none_else;
  each = λ found held. a.each found held (⊎_elim
      (λ e. all_dropped a.done founds (none_kept levels (drop a.done founds) (subst (λ ks. AreKept levels ks (drop a.done founds)) e a.keeps_left)) held.place held.holder held.holder_at)
      (λ e. all_dropped a.done marks (a.marks_left ∙ e) held.place true held.marked) ended);
}
  where
    a : HeldFrom levels founds marks keeps rest items
    a = so_far levels founds h
