-- What stands among the keys that pass a test.
use Rattle.std.proofs.Common.{◌≡◌, ◌++◌, ◌∷◌, inl, inr, Bool, List, [], cond, flat_map, filter, refl, ap, sym, ◌∙◌}
use Rattle.std.proofs.lemmas.List.Elements.{All-contains, filter-append, filter_passes}
use Rattle.std.specs.Prelude.{true, false}
use Rattle.odd_text.proofs.InList.{contained, first_or_later, nothing_stands, stands_later}
use Rattle.odd_text.specs.Standing.{StandsIn}

module _ {X : Type 0} (test : X → Bool) where
  -- what passes stands among those that pass
  pub stands_among : (xs : List X) (x : X) → test x ≡ true → StandsIn xs x → StandsIn (filter test xs) x
  stands_among xs x h s =
      let kept : filter test (x ∷ s.1) ≡ x ∷ filter test s.1 = ap (λ b. cond b (x ∷ filter test s.1) (filter test s.1)) h in
      (filter test s.0, filter test s.1, ap (filter test) s.2 ∙ filter-append test s.0 (x ∷ s.1) ∙ ap (λ rest. filter test s.0 ++ rest) kept)

  -- and what stands among those passes
  pub among_passes : (xs : List X) (x : X) → StandsIn (filter test xs) x → test x ≡ true
  among_passes xs x s = All-contains (λ y. test y ≡ true) (filter test xs) x (filter_passes test xs) (contained (filter test xs) x s)

  by : (y : X) (xs : List X) (x : X) → (StandsIn (filter test xs) x → StandsIn xs x) → (b : Bool) → StandsIn (cond b (y ∷ filter test xs) (filter test xs)) x → StandsIn (y ∷ xs) x
  by y xs x later false s = stands_later y x xs (later s)
  by y xs x later true s = elim (first_or_later y x (filter test xs) s) [
    | inl e ↦ ([], xs, ap (λ z. z ∷ xs) (sym e))
    | inr l ↦ stands_later y x xs (later l)
  ]

  -- and among all
  pub among_all : (xs : List X) (x : X) → StandsIn (filter test xs) x → StandsIn xs x
  among_all [] x s = absurd (nothing_stands x s)
  among_all (y ∷ xs) x s = by y xs x (among_all xs x) (test y) s

  -- those that pass, of what each gives
  pub filter_each : {Y : Type 0} (f : Y → List X) (ys : List Y) → filter test (flat_map f ys) ≡ flat_map (λ y. filter test (f y)) ys
  filter_each f [] = refl
  filter_each f (y ∷ ys) = filter-append test (f y) (flat_map f ys) ∙ ap (λ rest. filter test (f y) ++ rest) (filter_each f ys)
