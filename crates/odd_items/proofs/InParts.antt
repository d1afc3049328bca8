-- Where a list parts at a place, and where what a test keeps of it does.
use Rattle.std.proofs.Common.{◌≡◌, ℕ, zero, suc, ◌<◌, ◌≤◌, Bool, true, false, List, [], ◌∷◌, ◌++◌, filter, length, Some, None, get_or, slice_get, ⊎_elim, refl, sym, ap, subst, ◌∙◌, arith}
use Rattle.std.proofs.lemmas.Bool.{cases_Bool}
use Rattle.std.proofs.lemmas.Grind.{common_steps}
use Rattle.std.proofs.lemmas.List.Elements.{filter-append}
use Rattle.std.proofs.lemmas.List.Quantifiers.{position-Some}
use Rattle.std.proofs.lemmas.List.Sums.{fails_before_first}
use Rattle.std.proofs.lemmas.Option.{get_or_from_slice_get, none-some, same_Some, slice_get-get_or, slice_get_within}
use Rattle.std.specs.List.{position, position_or_len}
use Rattle.odd_text.proofs.InList.{first_or_later, nothing_stands, stands_first, stands_later}
use Rattle.odd_text.specs.Standing.{StandsIn}

-- a list is what stands before a place of it, what stands there, and what stands after it
pub split_at : {X : Type 0} (xs : List X) (i : ℕ) (x : X) → slice_get xs i ≡ Some x → (before : List X) × (after : List X) × (xs ≡ before ++ x ∷ after) × (length before ≡ i)
split_at [] i x e = absurd (none-some _ e)
split_at (y ∷ xs) zero x e = ([], xs, ap (λ z. z ∷ xs) (same_Some y x e), refl)
split_at (y ∷ xs) (suc i) x e = let h = split_at xs i x e in (y ∷ h.0, h.1, ap (λ zs. y ∷ zs) h.2, ap (λ n. suc n) h.3)

-- what stands between stands after as many as stand before it
pub at_split : {X : Type 0} (before after : List X) (x : X) → slice_get (before ++ x ∷ after) (length before) ≡ Some x
at_split [] after x = refl
at_split (y ∷ before) after x = at_split before after x

-- before that the places are those of the first part
pub get_before : {X : Type 0} (xs ys : List X) (i : ℕ) (x : X) → i < length xs → slice_get (xs ++ ys) i ≡ Some x → slice_get xs i ≡ Some x
get_before [] ys i x h e = absurd (omega arith)
get_before (y ∷ xs) ys zero x h e = e
get_before (y ∷ xs) ys (suc i) x h e = get_before xs ys i x (omega arith) e

-- what stands at a place stands in the list
pub stands_at : {X : Type 0} (xs : List X) (i : ℕ) (x : X) → slice_get xs i ≡ Some x → StandsIn xs x
stands_at xs i x e = let h = split_at xs i x e in (h.0, h.1, h.2)

-- and the other way round
pub place_in : {X : Type 0} (xs : List X) (x : X) → StandsIn xs x → (i : ℕ) × (slice_get xs i ≡ Some x)
place_in xs x s = (length s.0, ap (λ zs. slice_get zs (length s.0)) s.2 ∙ at_split s.0 s.1 x)

module _ {X : Type 0} (p : X → Bool) where
  pub filter_keeps : (x : X) (xs : List X) → p x ≡ true → filter p (x ∷ xs) ≡ x ∷ filter p xs
  filter_keeps x xs h = rw h refl

  pub filter_drops : (x : X) (xs : List X) → p x ≡ false → filter p (x ∷ xs) ≡ filter p xs
  filter_drops x xs h = rw h refl

  -- what is kept stands in the list, and passes
  pub from_filter : (xs : List X) (x : X) → StandsIn (filter p xs) x → StandsIn xs x × (p x ≡ true)
  from_filter [] x s = absurd (nothing_stands x s)
  from_filter (y ∷ xs) x s = ⊎_elim
      (λ is. ⊎_elim (λ e. (subst (StandsIn (y ∷ xs)) (sym e) (stands_first y xs), ap p e ∙ is)) (λ later. let h = from_filter xs x later in (stands_later y x xs h.0, h.1))
      (first_or_later y x (filter p xs) (subst (λ zs. StandsIn zs x) (filter_keeps y xs is) s)))
      (λ other. let h = from_filter xs x (subst (λ zs. StandsIn zs x) (filter_drops y xs other) s) in (stands_later y x xs h.0, h.1)) (cases_Bool (p y))

  -- what passes is kept
  pub to_filter : (xs : List X) (x : X) → StandsIn xs x → p x ≡ true → StandsIn (filter p xs) x
  to_filter xs x s is =
      (filter p s.0, filter p s.1, ap (filter p) s.2 ∙ filter-append p s.0 (x ∷ s.1) ∙ ap (λ zs. filter p s.0 ++ zs) (filter_keeps x s.1 is))

  -- the list parts where what is kept does
  abbrev pub SplitsFilter : List X → List X → X → Type 0
  SplitsFilter xs before x = (b : List X) × (a : List X) × (xs ≡ b ++ x ∷ a) × (filter p b ≡ before) × (p x ≡ true)

  pub split_filter : (xs before after : List X) (x : X) → filter p xs ≡ before ++ x ∷ after → SplitsFilter xs before x
  split_filter [] before after x e = absurd (nothing_stands x (before, after, e))
  split_filter (y ∷ xs) before after x e = ⊎_elim (λ is. here (λ rest h. split_filter xs rest after x h) before is (sym (filter_keeps y xs is) ∙ e))
      (λ other. let h = split_filter xs before after x (sym (filter_drops y xs other) ∙ e) in (y ∷ h.0, h.1, ap (λ zs. y ∷ zs) h.2, filter_drops y h.0 other ∙ h.3, h.4)) (cases_Bool (p y))
    where
      here : ((rest : List X) → filter p xs ≡ rest ++ x ∷ after → SplitsFilter xs rest x) → (before : List X) → p y ≡ true → y ∷ filter p xs ≡ before ++ x ∷ after → SplitsFilter (y ∷ xs) before x
      here later [] is e = let same : y ≡ x = cc in ([], xs, ap (λ z. z ∷ xs) same, refl, ap p (sym same) ∙ is)
      here later (z ∷ before) is e =
          let same : y ≡ z = cc in
          let rest : filter p xs ≡ before ++ x ∷ after = cc in
          let h = later before rest in
          (y ∷ h.0, h.1, ap (λ zs. y ∷ zs) h.2, filter_keeps y h.0 is ∙ ap (λ zs. y ∷ zs) h.3 ∙ ap (λ w. w ∷ before) same, h.4)

  -- what stands before a place fails
  abbrev pub FailBefore : List X → ℕ → Type 0
  FailBefore xs i = (j : ℕ) (y : X) → j < i → slice_get xs j ≡ Some y → p y ≡ false

  -- the first that passes is the first that is kept
  pub first_kept : (xs : List X) (i : ℕ) (x : X) → slice_get xs i ≡ Some x → p x ≡ true → FailBefore xs i → (others : List X) × (filter p xs ≡ x ∷ others)
  first_kept [] i x e is fail = absurd (none-some _ e)
  first_kept (y ∷ xs) zero x e is fail = let same = same_Some y x e in (filter p xs, filter_keeps y xs (ap p same ∙ is) ∙ ap (λ z. z ∷ filter p xs) same)
  first_kept (y ∷ xs) (suc i) x e is fail =
      let h = first_kept xs i x e is (λ j z low at. fail (suc j) z (omega arith) at) in
      (h.0, filter_drops y xs (fail zero y (omega arith) refl) ∙ h.1)

  -- where none passes, none is kept
  pub none_kept : (xs : List X) → ((j : ℕ) (y : X) → slice_get xs j ≡ Some y → p y ≡ false) → filter p xs ≡ []
  none_kept [] fail = refl
  none_kept (y ∷ xs) fail = filter_drops y xs (fail zero y refl) ∙ none_kept xs (λ j z at. fail (suc j) z at)

  -- what stands at the first place that passes
  pub first_passes : (xs : List X) (i : ℕ) → position p xs ≡ Some i → (x : X) × (slice_get xs i ≡ Some x) × (p x ≡ true) × FailBefore xs i
  first_passes [] i e = absurd (none-some _ e)
  first_passes (x ∷ xs) i e =
      let h = position-Some p (x ∷ xs) i x e in
      (get_or (x ∷ xs) i x, slice_get-get_or (x ∷ xs) i x h.0, h.1, λ j y low at. ap p (sym (get_or_from_slice_get (x ∷ xs) j y x at)) ∙ h.2 j low)

  -- where there is none, each fails
  pub none_passes : (xs : List X) → position p xs ≡ None → (j : ℕ) (y : X) → slice_get xs j ≡ Some y → p y ≡ false
  none_passes xs e j y at =
      let past : length xs ≤ position_or_len p xs = grind (arith, common_steps) in
      let within = slice_get_within xs j y at in
      ap p (sym (get_or_from_slice_get xs j y y at)) ∙ fails_before_first p xs j y (omega arith)
