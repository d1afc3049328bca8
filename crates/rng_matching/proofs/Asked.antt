-- What a search among spans that are ready finds.
use Rattle.std.proofs.Common.{◌≡◌, ◌≤◌, ◌<◌, ◌-◌, ℕ, true, false, nat_le, List, length, get_or, sym, ap, ◌∙◌, inl, inr, arith}
use Rattle.std.proofs.lemmas.Bool.{and_from, and_left, and_right, cases_Bool, cases_lt, leb-false, lt-leb}
use Rattle.std.proofs.lemmas.List.{get_or_default}
use Rattle.std.proofs.lemmas.List.Folds.{list_any_at, list_any_none}
use Rattle.std.specs.List.Sorted.{IsPartitionPoint}
use Rattle.rng_matching.specs.Chars.{is_of_span, is_of_spans}
use Rattle.rng_matching.specs.Spans.{AreReady}
use Rattle.rng_matching.specs.declared.spans.Span.{Span}

module _ (c : ℕ) (ss : List Span) where
  -- the place where the spans that begin at the character or before it end
  abbrev pub IsEnd : ℕ → Type 0
  IsEnd = IsPartitionPoint (λ (s : Span). nat_le s.low c ≡ true) (λ (s : Span). nat_le s.low c ≡ false) ss

  -- where no span begins before the character, none has it
  pub none_begins : IsEnd 0 → is_of_spans ss c ≡ false
  none_begins p = list_any_none (is_of_span c) ss (λ k d l. and_left (nat_le (get_or ss k d).low c) (nat_le c (get_or ss k d).top) (p.1 k d (omega arith) l))

  -- the last of them tells whether one has it
  pub last_tells : (end : ℕ) (d : Span) → AreReady ss → IsEnd end → 0 < end → end ≤ length ss → nat_le c (get_or ss (end - 1) d).top ≡ is_of_spans ss c
  last_tells end d ready p some within = elim (cases_Bool (nat_le c (get_or ss (end - 1) d).top)) [
    | inl e ↦ e ∙ sym (list_any_at (is_of_span c) ss (end - 1) d (omega arith) (and_from _ _ (p.0 (end - 1) d (omega arith) (omega arith)) e))
    | inr f ↦ f ∙ sym (list_any_none (is_of_span c) ss (λ k e l. elim (cases_lt k end) [
      | inl before ↦ and_right (nat_le (get_or ss k e).low c) _ (below k e before f)
      | inr after ↦ and_left _ (nat_le c (get_or ss k e).top) (p.1 k e after l)
    ]))
  ]
    where
      -- the same place whatever the default
      below : (k : ℕ) (e : Span) → k < end → nat_le c (get_or ss (end - 1) d).top ≡ false → nat_le c (get_or ss k e).top ≡ false
      below k e lt f =
          let high = leb-false c (get_or ss (end - 1) d).top f in
          let same : get_or ss (end - 1) d ≡ get_or ss (end - 1) e = get_or_default ss (end - 1) d e (omega arith) in
          let rise = ready.1 k (end - 1) e (omega arith) (omega arith) in
          lt-leb c (get_or ss k e).top (omega (arith, ap (λ (s : Span). s.top) same))
