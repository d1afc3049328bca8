-- Characters that leave a pattern as it is, one after the other.
use Rattle.std.proofs.Common.{◌≡◌, ◌↔◌, ◌⊎◌, inl, inr, ℕ, ◌<◌, Bool, true, List, [], ◌∷◌, ◌++◌, length, Option, Some, None, sym, ap, subst, ◌∙◌, append_assoc, slice_get}
use Rattle.std.proofs.lemmas.Bool.{and_parts, eqb-true, false≢true}
use Rattle.std.proofs.lemmas.Str.{IsUtf8-from_ascii, chars-IsAscii, chars-append}
use Rattle.std.proofs.lemmas.Str.Ascii.{IsAscii-nil, IsAscii-cons}
use Rattle.std.specs.List.{list_all}
use Rattle.std.specs.Str.{IsAscii, chars}
use Rattle.odd_pool.specs.Pattern.{Pattern, Fits, Leaves}
use Rattle.odd_pool.specs.Pool.{pattern_at, Grows}
use Rattle.odd_pool.proofs.Kept.{at_grown, at_old_or_last, grows_length}
use Rattle.rng_matching.specs.Staying.{IsNew, Stay, is_at, is_known}

pub new_more : (known : List (Option ℕ)) → IsNew known → IsNew (known ++ None ∷ [])
new_more known h c at there = elim (at_old_or_last known None c (Some at) there) [ inl old ↦ h c at old | inr last ↦ let is = last.1 in cc ]

is_there : (o : Option (Option ℕ)) (at : ℕ) → is_at o at ≡ true → o ≡ Some (Some at)
is_there (Some (Some known)) at h = ap (λ k. Some (Some k)) (eqb-true known at h)
is_there (Some None) at h = absurd (false≢true h)
is_there None at h = absurd (false≢true h)

module _ (takes : ℕ → ℕ → Bool) where
  stays_left : (ps qs : List (Pattern ℕ)) (at c : ℕ) → Grows ps qs → at < length ps → Leaves takes (pattern_at ps at) c (pattern_at ps at) → Leaves takes (pattern_at qs at) c (pattern_at qs at)
  stays_left ps qs at c g l h = subst (λ p. Leaves takes p c p) (sym (at_grown ps qs g at l)) h

  pub stay_none : (ps : List (Pattern ℕ)) (known : List (Option ℕ)) → IsNew known → Stay takes ps known
  stay_none ps known n c at there = absurd (n c at there)

  pub stay_grown : (ps qs : List (Pattern ℕ)) (known : List (Option ℕ)) → Grows ps qs → Stay takes ps known → Stay takes qs known
  stay_grown ps qs known g s c at there = let h = s c at there in (h.0, grows_length ps qs at g h.1, stays_left ps qs at c g h.1 h.2)

  pub stay_more : (ps : List (Pattern ℕ)) (old new : List (Option ℕ)) (at c : ℕ) → at < length ps → Leaves takes (pattern_at ps at) c (pattern_at ps at)
      → ((k e : ℕ) → slice_get new k ≡ Some (Some e) → ((k ≡ c) × (c < 128) × (e ≡ at)) ⊎ (slice_get old k ≡ Some (Some e))) → Stay takes ps old → Stay takes ps new
  stay_more ps old new at c l left noted s k e there = elim (noted k e there) [
    | inl one ↦ (
      subst (λ n. n < 128) (sym one.0) one.1,
      subst (λ n. n < length ps) (sym one.2) l,
      subst (λ n. Leaves takes (pattern_at ps n) k (pattern_at ps n)) (sym one.2) (subst (λ n. Leaves takes (pattern_at ps at) n (pattern_at ps at)) (sym one.0) left),
    )
    | inr before ↦ s k e before
  ]

  module _ (ps : List (Pattern ℕ)) (known : List (Option ℕ)) (at : ℕ) (s : Stay takes ps known) where
    all_ascii : (front : List ℕ) → list_all (is_known known at) front ≡ true → IsAscii front
    all_ascii [] h = IsAscii-nil
    all_ascii (b ∷ bs) h = let p = and_parts _ _ h in IsAscii-cons b bs (s b at (is_there (slice_get known b) at p.0)).0 (all_ascii bs p.1)

    all_left : (front v : List ℕ) → list_all (is_known known at) front ≡ true → Fits takes (pattern_at ps at) (front ++ v) ↔ Fits takes (pattern_at ps at) v
    all_left [] v h = (λ m. m, λ m. m)
    all_left (b ∷ bs) v h =
        let p = and_parts _ _ h in
        let one = (s b at (is_there (slice_get known b) at p.0)).2 (bs ++ v) in
        let more = all_left bs v p.1 in
        (λ m. more.0 (one.1 m), λ m. one.0 (more.1 m))

    -- what is matched after such characters is what was matched before them
    pub passed : (text front rest : List ℕ) → text ≡ front ++ rest → list_all (is_known known at) front ≡ true → (v : List ℕ)
        → Fits takes (pattern_at ps at) (chars rest ++ v) ↔ Fits takes (pattern_at ps at) (chars text ++ v)
    passed text front rest is h v =
        let a = all_ascii front h in
        let spelled : chars text ≡ front ++ chars rest = ap chars is ∙ chars-append front rest (IsUtf8-from_ascii front a) ∙ ap (λ cs. cs ++ chars rest) (chars-IsAscii front a) in
        let left = all_left front (chars rest ++ v) h in
        let same : front ++ (chars rest ++ v) ≡ chars text ++ v = sym (append_assoc front (chars rest) v) ∙ ap (λ cs. cs ++ v) (sym spelled) in
        subst (λ w. Fits takes (pattern_at ps at) (chars rest ++ v) ↔ Fits takes (pattern_at ps at) w) same (left.1, left.0)
