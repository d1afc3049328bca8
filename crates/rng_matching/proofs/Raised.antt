-- Spans that were sorted and raised: they have the characters of the members, and are ready to be asked.
use Rattle.std.proofs.Common.{◌≡◌, ◌≤◌, ◌<◌, ℕ, zero, suc, Bool, true, false, ◌&&◌, ◌||◌, ◌==◌, max, nat_le, List, [], ◌∷◌, ◌++◌, map, take, length, get_or, refl, sym, ap, subst, ◌∙◌, inl, inr, arith}
use Rattle.std.proofs.Math.Nat.{le-max_left, zero-max}
use Rattle.std.proofs.Math.Seq.{take-append_seam}
use Rattle.std.proofs.lemmas.Bool.{cases_lt, le-leb, lt-leb, leb-true, leb-false, cases_eq, eq-eqb, ne_eqb}
use Rattle.std.proofs.lemmas.List.Sorted.{list_any-IsPermutation}
use Rattle.std.specs.List.Sorted.{IsNonDecreasingBy, IsPermutation}
use Rattle.rng_dialect.specs.declared.regex.Member.{Member}
use Rattle.rng_dialect.specs.declared.regex.Member.TheVariants as member
use Rattle.rng_matching.specs.Chars.{is_of_member, is_of_members, is_of_span, is_of_spans}
use Rattle.rng_matching.specs.Spans.{AreReady, raised, span_of}
use Rattle.rng_matching.specs.declared.spans.Span.{Span}

-- the front of a list that goes on
pub front_of : {X : Type 0} → (n : ℕ) (xs ys : List X) → length xs ≡ n → take n (xs ++ ys) ≡ xs
front_of n xs ys e = subst (λ k. take k (xs ++ ys) ≡ xs) e (take-append_seam xs ys)

module _ {X : Type 0} (n : X → ℕ) where
  -- the numbers rise, the first of them from a given one
  abbrev Rises : ℕ → List X → Type 0
  Rises b [] = Unit {0}
  Rises b (x ∷ xs) = (b ≤ n x) × Rises (n x) xs

  -- numbers that never fall rise so
  rises_from : (b : ℕ) (xs : List X) → ((d : X) → 0 < length xs → b ≤ n (get_or xs 0 d)) → IsNonDecreasingBy n xs → Rises b xs
  rises_from b [] h up = tt
  rises_from b (x ∷ xs) h up = (h x (omega arith), rises_from (n x) xs (λ d l. up 0 1 d (omega arith) (omega arith)) (λ i j d le l. up (suc i) (suc j) d (omega arith) (omega arith)))

  -- then none is below the given one
  at_least : (b : ℕ) (xs : List X) (j : ℕ) (d : X) → Rises b xs → j < length xs → b ≤ n (get_or xs j d)
  at_least b [] j d r l = absurd (omega arith)
  at_least b (x ∷ xs) zero d r l = r.0
  at_least b (x ∷ xs) (suc j) d r l = let h = at_least (n x) xs j d r.1 (omega arith) in omega (arith, r.0)

  -- and none is below one from before it
  never_falls : (b : ℕ) (xs : List X) → Rises b xs → (i j : ℕ) (d : X) → i ≤ j → j < length xs → n (get_or xs i d) ≤ n (get_or xs j d)
  never_falls b [] r i j d le l = absurd (omega arith)
  never_falls b (x ∷ xs) r zero zero d le l = omega arith
  never_falls b (x ∷ xs) r zero (suc j) d le l = at_least (n x) xs j d r.1 (omega arith)
  never_falls b (x ∷ xs) r (suc i) zero d le l = absurd (omega arith)
  never_falls b (x ∷ xs) r (suc i) (suc j) d le l = never_falls (n x) xs r.1 i j d (omega arith) (omega arith)

-- the two ends of a span
abbrev low_of : Span → ℕ
low_of s = s.low

abbrev top_of : Span → ℕ
top_of s = s.top

-- the first characters stay as they are
raised_lows : (b t : ℕ) (ss : List Span) → Rises low_of b ss → Rises low_of b (raised t ss)
raised_lows b t [] r = tt
raised_lows b t (s ∷ ss) r = (r.0, raised_lows s.low (max t s.top) ss r.1)

-- the last ones rise
raised_tops : (t : ℕ) (ss : List Span) → Rises top_of t (raised t ss)
raised_tops t [] = tt
raised_tops t (s ∷ ss) = (le-max_left t s.top, raised_tops (max t s.top) ss)

-- so raised spans are ready
pub raised_ready : (ss : List Span) → IsNonDecreasingBy (λ (s : Span). s.low) ss → AreReady (raised 0 ss)
raised_ready ss up = (
  never_falls low_of 0 (raised 0 ss) (raised_lows 0 0 ss (rises_from low_of 0 ss (λ d l. omega arith) up)),
  never_falls top_of 0 (raised 0 ss) (raised_tops 0 ss),
)

-- tests by twos
or_again : (a b c : Bool) → (a || (b || c)) ≡ ((a || b) || c)
or_again true b c = refl
or_again false b c = refl

-- two tests of which the first is passed wherever r is, by tests that differ only where q is passed
beside : (p q r s u : Bool) → (r ≡ true → p ≡ true) → (q ≡ false → s ≡ u) → ((p && q) || (r && s)) ≡ ((p && q) || (r && u))
beside p false r s u f g = ap (λ x. (p && false) || (r && x)) (g refl)
beside true true r s u f g = refl
beside false true true s u f g = let e = f refl in cc
beside false true false s u f g = refl

-- a span that reaches as far as one from before it has no more characters with that one than it had
beyond : (c t h : ℕ) → nat_le c t ≡ false → nat_le c (max t h) ≡ nat_le c h
beyond c t h e =
    let l = leb-false c t e in
    elim (cases_lt h c) [
      | inl lt ↦ lt-leb c (max t h) (omega arith) ∙ sym (lt-leb c h lt)
      | inr ge ↦ le-leb c (max t h) (omega arith) ∙ sym (le-leb c h ge)
    ]

-- so a span may reach that far or not, beside one from before it
reaching : (c b t l h : ℕ) → b ≤ l → ((nat_le b c && nat_le c t) || (nat_le l c && nat_le c (max t h))) ≡ ((nat_le b c && nat_le c t) || (nat_le l c && nat_le c h))
reaching c b t l h le = beside (nat_le b c) (nat_le c t) (nat_le l c) (nat_le c (max t h)) (nat_le c h) (λ e. let k = leb-true l c e in le-leb b c (omega arith)) (beyond c t h)

-- after a span that reaches so far, spans that are raised have the characters that they had
raised_after : (c b t : ℕ) (ss : List Span) → Rises low_of b ss → ((nat_le b c && nat_le c t) || is_of_spans (raised t ss) c) ≡ ((nat_le b c && nat_le c t) || is_of_spans ss c)
raised_after c b t [] r = refl
raised_after c b t (s ∷ ss) r =
    let first = nat_le b c && nat_le c t in
    ap (λ x. first || x) (raised_after c s.low (max t s.top) ss r.1)
    ∙ or_again first (nat_le s.low c && nat_le c (max t s.top)) (is_of_spans ss c)
    ∙ ap (λ x. x || is_of_spans ss c) (reaching c b t s.low s.top r.0)
    ∙ sym (or_again first (nat_le s.low c && nat_le c s.top) (is_of_spans ss c))

-- and so do all spans, where the first begins them
raised_has : (c : ℕ) (ss : List Span) → Rises low_of 0 ss → is_of_spans (raised 0 ss) c ≡ is_of_spans ss c
raised_has c [] r = refl
raised_has c (s ∷ ss) r = raised_after c s.low (max 0 s.top) ss r.1 ∙ ap (λ t. (nat_le s.low c && nat_le c t) || is_of_spans ss c) (zero-max s.top)

-- one character as a span
one_char : (c d : ℕ) → (nat_le d c && nat_le c d) ≡ (c == d)
one_char c d = elim (cases_eq c d) [
  | inl e ↦ rw e (ap (λ x. x && nat_le d d) (le-leb d d (omega arith)) ∙ le-leb d d (omega arith) ∙ sym (eq-eqb d d refl))
  | inr ne ↦ elim (cases_lt c d) [
    | inl lt ↦ ap (λ x. x && nat_le c d) (lt-leb d c lt) ∙ sym (ne_eqb c d ne)
    | inr ge ↦ ap (λ x. x && nat_le c d) (le-leb d c ge) ∙ lt-leb c d (omega arith) ∙ sym (ne_eqb c d ne)
  ]
]

-- a member has as a span what it takes
member_span : (c : ℕ) (m : Member) → is_of_span c (span_of m) ≡ is_of_member c m
member_span c (member.Char d) = one_char c d
member_span c (member.Range low high) = refl

-- members as spans
member_spans : (c : ℕ) (members : List Member) → is_of_spans (map span_of members) c ≡ is_of_members members c
member_spans c [] = refl
member_spans c (m ∷ members) = (λ i. member_span c m i || member_spans c members i)

-- spans that were sorted and raised have the characters of the members
pub raised_same : (members : List Member) (unsorted sorted : List Span) (c : ℕ) → unsorted ≡ map span_of members → IsPermutation unsorted sorted → IsNonDecreasingBy (λ (s : Span). s.low) sorted
    → is_of_spans (raised 0 sorted) c ≡ is_of_members members c
raised_same members unsorted sorted c is same up =
    raised_has c sorted (rises_from low_of 0 sorted (λ d l. omega arith) up)
    ∙ sym (list_any-IsPermutation (is_of_span c) unsorted sorted same)
    ∙ ap (λ ss. is_of_spans ss c) is
    ∙ member_spans c members
