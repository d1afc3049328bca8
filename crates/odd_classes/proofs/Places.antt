-- The places of the entries of a library, found and put one after the other.
use Rattle.std.proofs.Common.{◌≡◌, ◌⊎◌, inl, inr, ℕ, suc, zero, ◌∷◌, ◌<◌, List, get_or, length, Some, sym, ap, ◌∙◌, ◌≢◌, ◌↔◌, ◌+◌, true, false, Bool, [], refl, subst, ⊎_elim, arith, if◌then◌else◌, Option, None}
use Rattle.std.proofs.lemmas.Bool.{cases_order, false≢true}
use Rattle.std.proofs.lemmas.Bool.Decides.{eqb_tells}
use Rattle.std.proofs.lemmas.Option.{get_or_from_slice_get, slice_get-get_or, slice_get_within, same_Some}
use Rattle.std.specs.Cmp.{tied_itself, IsTotalOrder}
use Rattle.std.specs.FinMap.{find, is_sorted}
use Rattle.std.specs.Ordering.{eq_by_cmp, is_eq}
use Rattle.std.specs.Prelude.{IsTrue, slice_get}
use Rattle.std.specs.declared.cmp.Ordering.{Ordering}
use Rattle.std.specs.declared.cmp.Ordering.TheVariants.{Less}
use Rattle.odd_text.proofs.SetOf.{not_below, turned}
use Rattle.odd_library.specs.declared.library.ClassPart.{ClassPart}
use Rattle.odd_library.specs.declared.library.Component.{Component}
use Rattle.odd_library.specs.declared.library.Component.TheVariants as component
use Rattle.odd_text.proofs.Entries.{as_T, find_at, find_gap, found_contained, rising}
use Rattle.odd_text.specs.Key.{key_cmp}
use Rattle.odd_text.specs.KeyOrder.{key_exact, key_total}
use Rattle.odd_text.specs.Map.{IsAfter, IsAt, IsGap, SetsOnly}
use Rattle.odd_text.specs.declared.key.Key.{Key}
use Rattle.odd_text.specs.declared.key.Kind.{Kind}
use Rattle.odd_text.specs.declared.key.Kind.TheVariants as kind
use Rattle.odd_classes.specs.Listing.{IsModelAt}
use Rattle.odd_classes.specs.Placing.{IsEntryAt, IsPlaceOf}

-- what is found at a place is the entry there
pub found_here : (es : List (Key × Component)) (place : ℕ) (here : Key × Component) → (place < length es) × ((d : Key × Component) → here ≡ get_or es place d) → IsEntryAt es place here.0 here.1
found_here es place here found = slice_get-get_or es place here found.0 ∙ ap Some (sym (found.1 here))

-- what is held has a place
pub held_at : (es : List (Key × Component)) (key : Key) (part : Component) → find key_cmp key es ≡ Some part → (place : ℕ) × IsEntryAt es place key part
held_at es key part h =
    let there = found_contained key_cmp key_total key_exact key part es h in
    (there.0, slice_get-get_or es there.0 (key, part) there.1 ∙ ap Some there.2)

module _ (es : List (Key × Component)) (up : IsTrue (is_sorted key_cmp es)) where
  -- of two places the entry at the first has the lesser key
  pub places_rise : (p q : ℕ) (key other : Key) (part others : Component) → p < q → IsEntryAt es p key part → IsEntryAt es q other others → key_cmp key other ≡ Less
  places_rise p q key other part others less a b =
      let here : get_or es p (key, part) ≡ (key, part) = get_or_from_slice_get es p (key, part) (key, part) a in
      let there : get_or es q (key, part) ≡ (other, others) = get_or_from_slice_get es q (other, others) (key, part) b in
      sym (λ n. key_cmp (here n).0 (there n).0) ∙ rising key_cmp es (as_T (is_sorted key_cmp es) up) p q (key, part) less (slice_get_within es q (other, others) b)

  -- a key stands at one place
  pub one_place : (p q : ℕ) (key : Key) (part other : Component) → IsEntryAt es p key part → IsEntryAt es q key other → p ≡ q
  one_place p q key part other a b = by_order (cases_order p q)
    where
      by_order : (p ≡ q) ⊎ ((p < q) ⊎ (q < p)) → p ≡ q
      by_order (inl same) = same
      by_order (inr (inl less)) = absurd (not_below key_cmp key_total key (places_rise p q key key part other less a b))
      by_order (inr (inr more)) = absurd (not_below key_cmp key_total key (places_rise q p key key other part more b a))

  -- what stands at a place is held
  pub entry_held : (place : ℕ) (key : Key) (part : Component) → IsEntryAt es place key part → find key_cmp key es ≡ Some part
  entry_held place key part at =
      let within = slice_get_within es place (key, part) at in
      let here : (d : Key × Component) → get_or es place d ≡ (key, part) = λ d. get_or_from_slice_get es place (key, part) d at in
      let after : IsAfter key_cmp key es place = λ j d before.
      let less : key_cmp (get_or es j d).0 (get_or es place d).0 ≡ Less = rising key_cmp es (as_T (is_sorted key_cmp es) up) j place d before within in
      turned key_cmp key_total key (get_or es j d).0 Less (ap (λ (p : Key × Component). key_cmp (get_or es j d).0 p.0) (sym (here d)) ∙ less) in
      find_at key_cmp key_total key es place (key, part) within after (ap (λ (p : Key × Component). key_cmp key p.0) (here (key, part)) ∙ tied_itself key_total key)
      ∙ ap (λ (p : Key × Component). Some p.1) (here (key, part))

module _ {K V : Type 0} (order : K → K → Ordering) (At : ℕ → K → V → Type 0) where
  -- it holds what stands at the first places
  abbrev pub IsFilled : ℕ → List (K × V) → Type 0
  IsFilled count table = (key : K) (value : V) → (find order key table ≡ Some value) ↔ ((place : ℕ) × (place < count) × At place key value)

  -- at none
  pub filled_first : (table : List (K × V)) → table ≡ [] → IsFilled 0 table
  filled_first table empty = rw empty (λ key value. (λ h. cc, λ s. absurd (omega (arith, s.1))))

  -- what stands at the first places and at the next, where the next is no such place
  earlier : (i : ℕ) (key : K) (value : V) → (At i key value → ⊥) → ((place : ℕ) × (place < i + 1) × At place key value) → (place : ℕ) × (place < i) × At place key value
  earlier i key value not s = ⊎_elim (λ same. absurd (not (subst (λ p. At p key value) (sym same.1) s.2))) (λ other. (s.0, omega (arith, s.1, other.1), s.2)) (eqb_tells i s.0)

  -- nothing stands at the next
  pub filled_none : (i : ℕ) (table : List (K × V)) → IsFilled i table → ((key : K) (value : V) → At i key value → ⊥) → IsFilled (i + 1) table
  filled_none i table before not key value = (λ h. let s = (before key value).0 h in (s.0, omega (arith, s.1), s.2), λ s. (before key value).1 (earlier i key value (not key value) s))

  -- what stands there is put
  pub filled_more : IsTotalOrder order → ((a b : K) → eq_by_cmp order a b ≡ true → a ≡ b) → (i : ℕ) (old new : List (K × V)) (key : K) (value : V) → IsFilled i old → SetsOnly order old new key value
      → At i key value → ((other : K) (w : V) → At i other w → other ≡ key) → ((place : ℕ) (w : V) → At place key w → value ≡ w) → IsFilled (i + 1) new
  filled_more total exact i old new key value before sets at here one asked w = by_key (eq_by_cmp order asked key) refl
    where
      by_key : (b : Bool) → eq_by_cmp order asked key ≡ b → (find order asked new ≡ Some w) ↔ ((place : ℕ) × (place < i + 1) × At place asked w)
      by_key true e =
          let same : asked ≡ key = exact asked key e in
          let found : find order asked new ≡ Some value = sets asked ∙ ap (λ b. if b then Some value else find order asked old) e in (
            λ h. (i, omega arith, subst (λ v. At i asked v) (same_Some _ _ (sym found ∙ h)) (subst (λ k. At i k value) (sym same) at)),
            λ s. found ∙ ap Some (one s.0 w (subst (λ k. At s.0 k w) same s.2)),
          )
      by_key false e =
          let found : find order asked new ≡ find order asked old = sets asked ∙ ap (λ b. if b then Some value else find order asked old) e in
          let other : asked ≢ key = λ same. false≢true (sym e ∙ ap is_eq (ap (order asked) (sym same) ∙ tied_itself total asked)) in (
            λ h. let s = (before asked w).0 (sym found ∙ h) in (s.0, omega (arith, s.1), s.2),
            λ s. found ∙ (before asked w).1 (earlier i asked w (λ a. other (here asked w a)) s),
          )

-- what stands at a place is the entry there
pub entry_here : (entries : List (Key × Component)) (i : ℕ) (here : Key × Component) → i < length entries → here ≡ get_or entries i here → IsEntryAt entries i here.0 here.1
entry_here entries i here within is = slice_get-get_or entries i here within ∙ ap Some (sym is)

-- an entry stands at each place
some_there : (es : List (Key × Component)) (at : ℕ) → at < length es → (e : Key × Component) × (slice_get es at ≡ Some e)
some_there [] at within = absurd (omega (arith, within))
some_there (e ∷ es) zero within = (e, refl)
some_there (e ∷ es) (suc at) within = some_there es at (omega (arith, within))

module _ (es : List (Key × Component)) (up : IsTrue (is_sorted key_cmp es)) (key : Key) where
  -- where a search finds a key is its place
  pub placed_at : (at : ℕ) → IsAt key_cmp key es at → (place : ℕ) → (◌≡◌ {A = Option ℕ} (Some at) (Some place)) ↔ IsPlaceOf es place key
  placed_at at is place =
      let there = some_there es at is.within in
      let e = there.0 in
      let tie = sym (ap (λ (p : Key × Component). key_cmp key p.0) (get_or_from_slice_get es at e e there.1)) ∙ is.here e in
      let same : key ≡ e.0 = key_exact key e.0 tie in
      let here : IsPlaceOf es at key = (e.1, there.1 ∙ ap (λ k. Some (k, e.1)) (sym same)) in
      (λ s. subst (λ p. IsPlaceOf es p key) (same_Some _ _ s) here, λ p. ap Some (one_place es up at place key here.0 p.0 here.1 p.1))

  -- and where it finds none it has none
  pub unplaced : (gap : ℕ) → IsGap key_cmp key es gap → (place : ℕ) → (◌≡◌ {A = Option ℕ} None (Some place)) ↔ IsPlaceOf es place key
  unplaced gap is place = (λ s. cc, λ p. let found = entry_held es up place key p.0 p.1 in let none = find_gap key_cmp key_total key es gap is in cc (found, none))

-- where the item adds to both sides
pub both_more : {All Some One Was Now Is : Type 0} → All ↔ (Some ⊎ One) → Some ↔ Was → Now ↔ (Was ⊎ Is) → Is ↔ One → All ↔ Now
both_more all some now is = grind arith

-- and where it adds to none
pub none_more : {Some Was Now Is : Type 0} → Some ↔ Was → Now ↔ (Was ⊎ Is) → (Is → ⊥) → Some ↔ Now
none_more some now not = grind arith

-- whether a class of type `model` stands at a place
pub model_or_not : (entries : List (Key × Component)) (place : ℕ) → ((class : List ℕ) × IsModelAt entries place class) ⊎ ((class : List ℕ) → IsModelAt entries place class → ⊥)
model_or_not entries place = by_found (slice_get entries place) refl
  where
    by_gives : (key : Key) → key.kind ≡ kind.Class → (part : ClassPart) → slice_get entries place ≡ Some (key, component.Class part) → (gives : Bool) → part.gives ≡ gives
        → ((class : List ℕ) × IsModelAt entries place class) ⊎ ((class : List ℕ) → IsModelAt entries place class → ⊥)
    by_gives key is part at false e = inl (key.ident, record { part = part; here = at ∙ ap (λ k. Some (record { kind = k; ident = key.ident }, component.Class part)) is; gives = e })
    by_gives key is part at true e = inr (λ class m. let same = same_Some _ _ (sym at ∙ m.here) in let of_class : component.Class part ≡ component.Class m.part = ap (λ (x : Key × Component). x.1) same in let parts : part ≡ m.part = cc in false≢true (sym m.gives ∙ ap (λ (p : ClassPart). p.gives) (sym parts) ∙ e))

    by_kind : (key : Key) (part : ClassPart) → slice_get entries place ≡ Some (key, component.Class part) → (k : Kind) → key.kind ≡ k
        → ((class : List ℕ) × IsModelAt entries place class) ⊎ ((class : List ℕ) → IsModelAt entries place class → ⊥)
    by_kind key part at kind.Class e = by_gives key e part at part.gives refl
    by_kind key part at kind.Element e = inr (λ class m. let kinds : key.kind ≡ kind.Class = ap (λ (x : Key × Component). x.0.kind) (same_Some _ _ (sym at ∙ m.here)) in cc)
    by_kind key part at kind.Macro e = inr (λ class m. let kinds : key.kind ≡ kind.Class = ap (λ (x : Key × Component). x.0.kind) (same_Some _ _ (sym at ∙ m.here)) in cc)
    by_kind key part at kind.Datatype e = inr (λ class m. let kinds : key.kind ≡ kind.Class = ap (λ (x : Key × Component). x.0.kind) (same_Some _ _ (sym at ∙ m.here)) in cc)

    by_found : (o : Option (Key × Component)) → slice_get entries place ≡ o → ((class : List ℕ) × IsModelAt entries place class) ⊎ ((class : List ℕ) → IsModelAt entries place class → ⊥)
    by_found None e = inr (λ class m. let here = m.here in cc)
    by_found (Some (key, component.Class part)) e = by_kind key part e key.kind refl
    by_found (Some (key, component.Element part)) e = inr (λ class m. let parts : component.Element part ≡ component.Class m.part = ap (λ (x : Key × Component). x.1) (same_Some _ _ (sym e ∙ m.here)) in cc)
    by_found (Some (key, component.Macro part)) e = inr (λ class m. let parts : component.Macro part ≡ component.Class m.part = ap (λ (x : Key × Component). x.1) (same_Some _ _ (sym e ∙ m.here)) in cc)
    by_found (Some (key, component.Datatype part)) e = inr (λ class m. let parts : component.Datatype part ≡ component.Class m.part = ap (λ (x : Key × Component). x.1) (same_Some _ _ (sym e ∙ m.here)) in cc)
