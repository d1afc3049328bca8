-- What is remembered stays right.
use Rattle.std.proofs.Common.{◌≡◌, ◌⊎◌, ℕ, ◌<◌, Bool, List, ◌∷◌, [], ◌++◌, length, Option, Some, None, ap, sym, subst, ◌∙◌, inl, inr, slice_get}
use Rattle.odd_pool.specs.Pattern.{Pattern, Leaves}
use Rattle.odd_pool.specs.Pool.{pattern_at, Grows}
use Rattle.odd_pool.proofs.Kept.{at_grown, at_old_or_last, grows_length}
use Rattle.odd_pool.proofs.Alike.{alike}
use Rattle.odd_pool.specs.Memory.{NoStep, Remembers}
use Rattle.odd_pool.specs.declared.memory.Step.{Step}

module _ {L S : Type 0} (takes : L → S → Bool) (number : S → ℕ) where
  leaves_alike : (p d : Pattern L) (s t : S) → ((l : L) → takes l s ≡ takes l t) → Leaves takes p s d → Leaves takes p t d
  leaves_alike p d s t h left v = (
    λ m. alike takes s t h p v ((left v).0 m),
    λ m. (left v).1 (alike takes t s (λ l. sym (h l)) p v m),
  )

  -- as the pool grows
  pub right_grown : (ps qs : List (Pattern L)) (slots : List (Option Step)) → Grows ps qs → Remembers takes number ps slots → Remembers takes number qs slots
  right_grown ps qs slots g r k e there s is =
      let h = r k e there s is in (
        grows_length ps qs e.at g h.0,
        grows_length ps qs e.to g h.1,
        subst (λ d. Leaves takes (pattern_at qs e.at) s d) (sym (at_grown ps qs g e.to h.1)) (subst (λ p. Leaves takes p s (pattern_at ps e.to)) (sym (at_grown ps qs g e.at h.0)) h.2),
      )

  -- with one more
  pub right_more : (ps qs : List (Pattern L)) (old new : List (Option Step)) (step : Step) (s : S) → Grows ps qs → ((s t : S) → number s ≡ number t → (l : L) → takes l s ≡ takes l t) → Remembers takes number ps old
      → ((k : ℕ) (e : Step) → slice_get new k ≡ Some (Some e) → (e ≡ step) ⊎ (slice_get old k ≡ Some (Some e))) → step.number ≡ number s → step.at < length ps → step.to < length qs
      → Leaves takes (pattern_at ps step.at) s (pattern_at qs step.to) → Remembers takes number qs new
  right_more ps qs old new step s g law r put is at to left k e there t same = elim (put k e there) [
    | inl one ↦
        let here : number s ≡ number t = sym is ∙ ap (λ x. x.number) (sym one) ∙ sym same in
        let known = subst (λ p. Leaves takes p s (pattern_at qs step.to)) (sym (at_grown ps qs g step.at at)) left in
        subst (λ x. (x.at < length qs) × (x.to < length qs) × Leaves takes (pattern_at qs x.at) t (pattern_at qs x.to)) (sym one)
        (grows_length ps qs step.at g at, to, leaves_alike (pattern_at qs step.at) (pattern_at qs step.to) s t (law s t here) known)
    | inr before ↦ right_grown ps qs old g r k e before t same
  ]

  -- what is found
  pub found_left : (ps : List (Pattern L)) (slots : List (Option Step)) (at k to : ℕ) (s : S) → Remembers takes number ps slots
      → (i : ℕ) × (e : Step) × (slice_get slots i ≡ Some (Some e)) × (e.at ≡ at) × (e.number ≡ k) × (e.to ≡ to) → k ≡ number s → (to < length ps) × Leaves takes (pattern_at ps at) s (pattern_at ps to)
  found_left ps slots at k to s r f is =
      let h = r f.0 f.1 f.2 s (sym is ∙ sym f.4) in (
        subst (λ n. n < length ps) f.5 h.1,
        subst (λ n. Leaves takes (pattern_at ps at) s (pattern_at ps n)) f.5 (subst (λ n. Leaves takes (pattern_at ps n) s (pattern_at ps f.1.to)) f.3 h.2),
      )

pub no_more : (slots : List (Option Step)) → NoStep slots → NoStep (slots ++ None ∷ [])
no_more slots h k e there = elim (at_old_or_last slots None k (Some e) there) [ inl old ↦ h k e old | inr last ↦ let is = last.1 in cc ]
