-- What groups, choices and repetitions match, of any items of which patterns by themselves take some.
use Rattle.std.proofs.Common.{◌≡◌, ◌↔◌, ◌⊎◌, inl, inr, ℕ, zero, suc, ◌+◌, ◌-◌, ◌≤◌, Option, Some, None, List, [], ◌∷◌, ◌++◌, map, replicate, refl, sym, subst, arith, rules}
use Rattle.std.specs.Prelude.{All}
use Rattle.compile_defines.specs.Repeating.{choice_pattern, further, group_pattern, repeated, repeated_within}
use Rattle.odd_meaning.specs.Contents.{IsUpTo, IsWithin}
use Rattle.odd_text.proofs.InList.{first_or_later, map_stands, nothing_stands, stands_first, stands_later, stands_map}
use Rattle.odd_text.specs.Standing.{StandsIn}
use Rattle.odd_tree.specs.Splits.{Counted, Pieces, Then}
use Rattle.rng_grammar.proofs.OnePattern.{ToldBy, choice_shown, empty_shown, group_shown, one_or_more_shown, optional_shown, zero_or_more_shown}
use Rattle.compile_laws.proofs.Leaves.{IsLeaf, TakesLeaves, parts_told}
use Rattle.rng_grammar.specs.Patterns as patterns
use Rattle.rng_grammar.specs.Patterns.{AreMatchedBy, IsMatchedBy, IsRepeatedBy}
use Rattle.rng_grammar.specs.declared.grammar.Expr as E
use Rattle.rng_grammar.specs.declared.grammar.Expr.{Expr, Expr-F, out-Expr}
use Rattle.rng_grammar.specs.declared.grammar.Expr.TheOpen as shape
use Rattle.rng_grammar.specs.declared.grammar.Expr.TheVariants as expr
use Rattle.rng_grammar.specs.declared.grammar.Grammar.{Grammar}
use Rattle.rng_types.specs.Bounds.{IsFormedBounds}
use Rattle.rng_types.specs.declared.bounds.Bounds.{Bounds}
use Rattle.compile_laws.proofs.Pieces.{Same, at_most_more, counted_same, counts_same, none_same, one_more, swap, then_end, then_same, trans}

module _ (g : Grammar) {S : Type 0} (Takes : Expr → List S → Type 0) (leaves : TakesLeaves Takes) where
  -- the pattern matches
  abbrev pub Matches : Expr → List S → Type 0
  Matches = IsMatchedBy g Takes

  -- what a match tells of a pattern that is made of others
  made : (p : Expr) (q : Expr-F Expr) (w : List S) → out-Expr p ≡ q → (IsLeaf q → ⊥) → Matches p w → ToldBy g Takes q w
  made = parts_told g Takes leaves

  -- nothing matches `notAllowed`
  pub none_matched : (w : List S) → Matches expr.NotAllowed w → ⊥
  none_matched w m = made expr.NotAllowed shape.NotAllowed w (search (rules, E.the_lemmas)) (λ x. x) m

  -- one of the patterns matches
  abbrev OneMatched : List Expr → List S → Type 0
  OneMatched ps w = (p : Expr) × StandsIn ps p × Matches p w

  -- what a choice matches one of its patterns does
  choice_told : (ps : List Expr) (w : List S) → Matches (choice_pattern ps) w → OneMatched ps w
  choice_told [] w m = absurd (none_matched w m)
  choice_told (p ∷ []) w m = (p, stands_first p [], m)
  choice_told (p ∷ r ∷ ps) w m = made _ (shape.Choice (p ∷ r ∷ ps)) w (choice_shown (p ∷ r ∷ ps)) (λ x. x) m

  -- and the other way round
  choice_made : (ps : List Expr) (w : List S) (p : Expr) → StandsIn ps p → Matches p w → Matches (choice_pattern ps) w
  choice_made [] w p s m = absurd (nothing_stands p s)
  choice_made (r ∷ []) w p s m = elim (first_or_later r p [] s) [
    | inl e ↦ subst (λ x. Matches x w) e m
    | inr later ↦ absurd (nothing_stands p later)
  ]
  choice_made (q ∷ r ∷ ps) w p s m = patterns.choice refl s m

  -- a choice of the patterns of some items matches what one of them does
  pub each_law : {A : Type 0} (f : A → Expr) (xs : List A) (w : List S) → Matches (choice_pattern (map f xs)) w ↔ ((x : A) × StandsIn xs x × Matches (f x) w)
  each_law f xs w = (
    λ m.
        let c = choice_told (map f xs) w m in
        let s = stands_map f xs c.0 c.1 in
        (s.0, s.1, subst (λ p. Matches p w) s.2 c.2),
    λ h. choice_made (map f xs) w (f h.0) (map_stands f xs h.0 h.1) h.2,
  )

  -- what one pattern matches
  abbrev pub InChoice : List Expr → List S → Type 0
  InChoice [] w = ⊥
  InChoice (p ∷ ps) w = Matches p w ⊎ InChoice ps w

  -- the pattern that matches, of those of a choice
  choosing : (ps : List Expr) (w : List S) → InChoice ps w → OneMatched ps w
  choosing [] w h = absurd h
  choosing (p ∷ ps) w (inl m) = (p, stands_first p ps, m)
  choosing (p ∷ ps) w (inr h) = let c = choosing ps w h in (c.0, stands_later p c.0 ps c.1, c.2)

  -- and the other way round
  chosen : (ps : List Expr) (w : List S) (p : Expr) → StandsIn ps p → Matches p w → InChoice ps w
  chosen [] w p s m = absurd (nothing_stands p s)
  chosen (r ∷ ps) w p s m = elim (first_or_later r p ps s) [
    | inl e ↦ inl (subst (λ x. Matches x w) e m)
    | inr later ↦ inr (chosen ps w p later m)
  ]

  -- a choice of any patterns matches what one of them does
  pub choice_law : (Q : S → Type 0) (ps : List Expr) → Same Q (InChoice ps) (Matches (choice_pattern ps))
  choice_law Q ps w q = (
    λ h. let c = choosing ps w h in choice_made ps w c.0 c.1 c.2,
    λ m. let c = choice_told ps w m in chosen ps w c.0 c.1 c.2,
  )

module _ {S : Type 0} (Q : S → Type 0) (g : Grammar) (Takes : Expr → List S → Type 0) (leaves : TakesLeaves Takes) where
  abbrev Holds : Expr → List S → Type 0
  Holds = IsMatchedBy g Takes

  -- one piece a pattern, in order
  abbrev pub InGroup : List Expr → List S → Type 0
  InGroup [] w = w ≡ []
  InGroup (p ∷ ps) w = Then (Holds p) (InGroup ps) w

  -- what splits so, each piece by its pattern
  are_matched : (ps : List Expr) (w : List S) → InGroup ps w → AreMatchedBy g Takes ps w
  are_matched [] w h = subst (AreMatchedBy g Takes []) (sym h) patterns.nothing
  are_matched (p ∷ ps) w h = patterns.more h.left h.right h.split h.first (are_matched ps h.right h.second)

  -- and the other way round
  in_group : (ps : List Expr) (w : List S) → AreMatchedBy g Takes ps w → InGroup ps w
  in_group [] w patterns.nothing = refl
  in_group (p ∷ ps) w (patterns.more left right split m ms) = record { left = left; right = right; split = split; first = m; second = in_group ps right ms }

  -- a group of any patterns matches what splits so
  pub group_law : (ps : List Expr) → Same Q (InGroup ps) (Holds (group_pattern ps))
  group_law [] w q = (λ none. subst (Holds expr.Empty) (sym none) patterns.empty, made g Takes leaves expr.Empty shape.Empty w empty_shown (λ x. x))
  group_law (p ∷ []) w q = swap Q (then_end Q (Holds p)) w q
  group_law (p ∷ r ∷ ps) w q = (
    λ h. patterns.group refl (are_matched (p ∷ r ∷ ps) w h),
    λ m. in_group (p ∷ r ∷ ps) w (made g Takes leaves _ (shape.Group (p ∷ r ∷ ps)) w (group_shown (p ∷ r ∷ ps)) (λ x. x) m),
  )

  module _ (p : Expr) where
    -- so many pieces are so many repetitions
    is_repeated : (n : ℕ) (w : List S) → Pieces (Holds p) n w → IsRepeatedBy g Takes n p w
    is_repeated zero w h = subst (IsRepeatedBy g Takes zero p) (sym h) patterns.none
    is_repeated (suc n) w h = patterns.again h.left h.right h.split h.first (is_repeated n h.right h.second)

    -- and the other way round
    pieces : (n : ℕ) (w : List S) → IsRepeatedBy g Takes n p w → Pieces (Holds p) n w
    pieces zero w patterns.none = refl
    pieces (suc n) w (patterns.again left right split m ms) = record { left = left; right = right; split = split; first = m; second = pieces n right ms }

    -- nothing, or one piece
    optional_law : Same Q (Holds (expr.Optional p)) (λ w. (w ≡ []) ⊎ Holds p w)
    optional_law w q = (
      made g Takes leaves (expr.Optional p) (shape.Optional p) w (optional_shown p) (λ x. x),
      λ h. elim h [ inl e ↦ subst (Holds (expr.Optional p)) (sym e) (patterns.absent p refl) | inr m ↦ patterns.present refl m ],
    )

    -- any number of pieces
    zero_or_more_law : Same Q (Holds (expr.ZeroOrMore p)) (Counted (λ n. Unit {0}) (Holds p))
    zero_or_more_law w q = (
      λ m. let h = made g Takes leaves (expr.ZeroOrMore p) (shape.ZeroOrMore p) w (zero_or_more_shown p) (λ x. x) m in record { count = h.0; allowed = tt; pieces = pieces h.0 w h.1 },
      λ h. patterns.zero_or_more h.count refl (is_repeated h.count w h.pieces),
    )

    -- any number but none
    one_or_more_law : Same Q (Holds (expr.OneOrMore p)) (Counted (λ n. (1 ≤ n) × Unit {0}) (Holds p))
    one_or_more_law w q = (
      λ m.
          let h = made g Takes leaves (expr.OneOrMore p) (shape.OneOrMore p) w (one_or_more_shown p) (λ x. x) m in
          record { count = suc h.0; allowed = (omega arith, tt); pieces = pieces (suc h.0) w h.1 },
      λ h. some h.count h.allowed.0 h.pieces,
    )
      where
        some : (n : ℕ) → 1 ≤ n → Pieces (Holds p) n w → Holds (expr.OneOrMore p) w
        some zero l h = absurd (omega arith)
        some (suc n) l h = patterns.one_or_more n refl (is_repeated (suc n) w h)

    -- so many needed pieces before a rest
    needed : (Fits : ℕ → ℕ → Type 0) → ((k n : ℕ) → Fits k n ↔ Fits (suc k) (suc n)) → ((k : ℕ) → Fits (suc k) zero → ⊥) → (rest : List Expr)
        → Same Q (InGroup rest) (Counted (Fits zero) (Holds p)) → (k : ℕ) → Same Q (InGroup (replicate k p ++ rest)) (Counted (Fits k) (Holds p))
    needed Fits more never rest h zero = h
    needed Fits more never rest h (suc k) = one_more Q (more k) (never k) (needed Fits more never rest h k)

    -- at most so many pieces
    offered : (k : ℕ) → Same Q (InGroup (replicate k (expr.Optional p))) (Counted (λ n. n ≤ k) (Holds p))
    offered zero = none_same Q
    offered (suc k) = trans Q (then_same Q optional_law (offered k)) (at_most_more Q k)

    -- a number of pieces within the bounds
    listed : (min : ℕ) (max : Option ℕ) → IsUpTo max min → Same Q (InGroup (replicate min p ++ further p min max)) (Counted (λ n. (min ≤ n) × IsUpTo max n) (Holds p))
    listed min None o = needed (λ k n. (k ≤ n) × Unit {0}) (λ k n. (λ h. (omega arith, tt), λ h. (omega arith, tt))) (λ k h. omega arith) _
        (trans Q (swap Q (then_end Q (Holds (expr.ZeroOrMore p)))) (trans Q zero_or_more_law (counts_same Q (λ n. (λ h. (omega arith, tt), λ h. tt))))) min
    listed min (Some max) o = trans Q
        (needed (λ k n. (k ≤ n) × (n ≤ k + (max - min))) (λ k n. (λ h. (omega arith, omega arith), λ h. (omega arith, omega arith))) (λ k h. omega arith) _
        (trans Q (offered (max - min)) (counts_same Q (λ n. (λ h. (omega arith, omega arith), λ h. omega arith)))) min)
        (counts_same Q (λ n. (λ h. (omega arith, omega arith), λ h. (omega arith, omega arith))))

    -- and so does the pattern, which is written in another way for one and more
    written : (min : ℕ) (max : Option ℕ) → IsUpTo max min → Same Q (Counted (λ n. (min ≤ n) × IsUpTo max n) (Holds p)) (Holds (repeated_within p min max))
    written (suc zero) None o = swap Q one_or_more_law
    written min max o = trans Q (swap Q (listed min max o)) (group_law (replicate min p ++ further p min max))

  -- the least number of formed bounds is up to the greatest
  in_bounds : (max : Option ℕ) (min : ℕ) → ((n : ℕ) → max ≡ Some n → min ≤ n) → IsUpTo max min
  in_bounds None min h = tt
  in_bounds (Some n) min h = h n refl

  -- a repetition within formed bounds matches what splits into a number of pieces within them
  pub repeated_law : (A : List S → Type 0) (p : Expr) (b : Bounds) → IsFormedBounds b → ((w : List S) → All Q w → A w ↔ Holds p w)
      → (w : List S) → All Q w → Counted (IsWithin b) A w ↔ Holds (repeated p b) w
  repeated_law A p b f h = trans Q (counted_same Q h) (written p b.min b.max (in_bounds b.max b.min f.ordered))
