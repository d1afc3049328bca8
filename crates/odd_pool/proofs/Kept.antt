-- What nodes stand for stays as more come.
use Rattle.std.proofs.Common.{◌≡◌, ◌⊎◌, inl, inr, ℕ, zero, suc, ◌+◌, ◌<◌, List, [], ◌∷◌, ◌++◌, length, Some, refl, sym, ap, subst, ◌∙◌, arith, append_assoc, length-append, slice_get}
use Rattle.std.proofs.lemmas.List.{append-nil}
use Rattle.std.specs.Prelude.{unwrap_or}
use Rattle.odd_pool.specs.Pattern.{Pattern, never, choice, group, more, has_empty}
use Rattle.odd_pool.specs.Pool.{PartsBelow, IsPooled, AreRight, IsRight, pattern_at, kind_pattern, patterns_after, patterns, Grows}
use Rattle.odd_pool.specs.declared.node.Node.{Node}
use Rattle.odd_pool.specs.declared.node.Kind.{Kind}
use Rattle.odd_pool.specs.declared.node.Kind.TheVariants.{Never, Empty, Leaf, Choice, Group, More}

module _ {X : Type 0} where
  pub get_left : (xs ys : List X) (i : ℕ) → i < length xs → slice_get (xs ++ ys) i ≡ slice_get xs i
  get_left [] ys i h = absurd (omega arith)
  get_left (x ∷ xs) ys zero h = refl
  get_left (x ∷ xs) ys (suc i) h = get_left xs ys i (omega arith)

  pub get_within : (xs : List X) (i : ℕ) (x : X) → slice_get xs i ≡ Some x → i < length xs
  get_within [] i x e = cc
  get_within (y ∷ xs) zero x e = omega arith
  get_within (y ∷ xs) (suc i) x e = let h = get_within xs i x e in omega arith

  -- what stands within the length
  pub get_some : (xs : List X) (i : ℕ) → i < length xs → (x : X) × (slice_get xs i ≡ Some x)
  get_some [] i h = absurd (omega arith)
  get_some (x ∷ xs) zero h = (x, refl)
  get_some (x ∷ xs) (suc i) h = get_some xs i (omega arith)

  -- what is there stays as the list grows
  pub get_grown : (old new : List X) (i : ℕ) (x : X) → Grows old new → slice_get old i ≡ Some x → slice_get new i ≡ Some x
  get_grown old new i x g e = subst (λ ys. slice_get ys i ≡ Some x) (sym g.1) (get_left old g.0 i (get_within old i x e) ∙ e)

  pub grows_twice : (a b c : List X) → Grows a b → Grows b c → Grows a c
  grows_twice a b c g h = (g.0 ++ h.0, h.1 ∙ ap (λ x. x ++ h.0) g.1 ∙ append_assoc a g.0 h.0)

  pub grows_none : (a : List X) → Grows a a
  grows_none a = ([], sym (append-nil a))

  pub grows_length : (a b : List X) (i : ℕ) → Grows a b → i < length a → i < length b
  grows_length a b i g h = let e = length-append a g.0 in let f = ap length g.1 in omega arith

  get_at_end : (xs ys : List X) (x : X) → slice_get ((xs ++ x ∷ []) ++ ys) (length xs) ≡ Some x
  get_at_end [] ys x = refl
  get_at_end (y ∷ xs) ys x = get_at_end xs ys x

  pub at_old_or_last : (xs : List X) (x : X) (i : ℕ) (y : X) → slice_get (xs ++ x ∷ []) i ≡ Some y → (slice_get xs i ≡ Some y) ⊎ ((i ≡ length xs) × (y ≡ x))
  at_old_or_last [] x zero y e = inr (refl, cc)
  at_old_or_last [] x (suc i) y e = cc
  at_old_or_last (z ∷ xs) x zero y e = inl e
  at_old_or_last (z ∷ xs) x (suc i) y e = elim (at_old_or_last xs x i y e) [ inl k ↦ inl k | inr k ↦ inr (ap suc k.0, k.1) ]

module _ {L : Type 0} where
  grows_after : (ps : List (Pattern L)) (ns : List (Node L)) → Grows ps (patterns_after ps ns)
  grows_after ps [] = ([], sym (append-nil ps))
  grows_after ps (n ∷ ns) = grows_twice ps (ps ++ kind_pattern ps n.kind ∷ []) (patterns_after (ps ++ kind_pattern ps n.kind ∷ []) ns) (kind_pattern ps n.kind ∷ [], refl) (grows_after (ps ++ kind_pattern ps n.kind ∷ []) ns)

  after_append : (ps : List (Pattern L)) (ns ms : List (Node L)) → patterns_after ps (ns ++ ms) ≡ patterns_after (patterns_after ps ns) ms
  after_append ps [] ms = refl
  after_append ps (n ∷ ns) ms = after_append (ps ++ kind_pattern ps n.kind ∷ []) ns ms

  pub patterns_grow : (old new : List (Node L)) → Grows old new → Grows (patterns old) (patterns new)
  patterns_grow old new g = subst (λ ns. Grows (patterns old) (patterns ns)) (sym g.1) (subst (λ ps. Grows (patterns old) ps) (sym (after_append [] old g.0)) (grows_after (patterns old) g.0))

  length_after : (ps : List (Pattern L)) (ns : List (Node L)) → length (patterns_after ps ns) ≡ length ps + length ns
  length_after ps [] = omega arith
  length_after ps (n ∷ ns) = let e = length_after (ps ++ kind_pattern ps n.kind ∷ []) ns in let f = length-append ps (kind_pattern ps n.kind ∷ []) in omega arith

  pub length_patterns : (ns : List (Node L)) → length (patterns ns) ≡ length ns
  length_patterns ns = let e = length_after [] ns in omega arith

  pub at_grown : (ps qs : List (Pattern L)) → Grows ps qs → (i : ℕ) → i < length ps → pattern_at qs i ≡ pattern_at ps i
  at_grown ps qs g i h = ap (λ o. unwrap_or o never) (subst (λ ys. slice_get ys i ≡ slice_get ps i) (sym g.1) (get_left ps g.0 i h))

  pub kind_grown : (ps qs : List (Pattern L)) → Grows ps qs → (k : Kind L) → PartsBelow k (length ps) → kind_pattern qs k ≡ kind_pattern ps k
  kind_grown ps qs g Never h = refl
  kind_grown ps qs g Empty h = refl
  kind_grown ps qs g (Leaf l) h = refl
  kind_grown ps qs g (Choice i j) h = λ t. choice (at_grown ps qs g i h.0 t) (at_grown ps qs g j h.1 t)
  kind_grown ps qs g (Group i j) h = λ t. group (at_grown ps qs g i h.0 t) (at_grown ps qs g j h.1 t)
  kind_grown ps qs g (More i) h = ap more (at_grown ps qs g i h)

  -- parts before a position are before a later one
  pub below_more : (k : Kind L) (i n : ℕ) → i < n → PartsBelow k i → PartsBelow k n
  below_more Never i n h b = tt
  below_more Empty i n h b = tt
  below_more (Leaf l) i n h b = tt
  below_more (Choice x y) i n h b = let p = b.0 in let q = b.1 in (omega arith, omega arith)
  below_more (Group x y) i n h b = let p = b.0 in let q = b.1 in (omega arith, omega arith)
  below_more (More x) i n h b = omega arith

  -- a node's pattern stands at its position
  at_after : (ps : List (Pattern L)) (ns : List (Node L)) (k at : ℕ) (n : Node L) → slice_get ns k ≡ Some n → at ≡ length ps + k → PartsBelow n.kind at
      → slice_get (patterns_after ps ns) at ≡ Some (kind_pattern (patterns_after ps ns) n.kind)
  at_after ps [] k at n e is h = cc
  at_after ps (m ∷ ns) zero at n e is h =
      let same : m ≡ n = cc in
      let here : at ≡ length ps = omega arith in
      let g = grows_after (ps ++ kind_pattern ps m.kind ∷ []) ns in
      let whole = grows_after ps (m ∷ ns) in
      let put : slice_get (patterns_after ps (m ∷ ns)) (length ps) ≡ Some (kind_pattern ps m.kind) =
      subst (λ ys. slice_get ys (length ps) ≡ Some (kind_pattern ps m.kind)) (sym g.1) (get_at_end ps g.0 (kind_pattern ps m.kind)) in
      let below : PartsBelow n.kind (length ps) = subst (λ z. PartsBelow n.kind z) here h in
      subst (λ z. slice_get (patterns_after ps (m ∷ ns)) z ≡ Some (kind_pattern (patterns_after ps (m ∷ ns)) n.kind)) (sym here)
      (put ∙ ap (λ z. Some (kind_pattern ps z.kind)) same ∙ ap Some (sym (kind_grown ps (patterns_after ps (m ∷ ns)) whole n.kind below)))
  at_after ps (m ∷ ns) (suc k) at n e is h =
      let f = length-append ps (kind_pattern ps m.kind ∷ []) in
      at_after (ps ++ kind_pattern ps m.kind ∷ []) ns k at n e (omega arith) h

  pub pattern_of : (ns : List (Node L)) (at : ℕ) (n : Node L) → AreRight ns → slice_get ns at ≡ Some n → slice_get (patterns ns) at ≡ Some (kind_pattern (patterns ns) n.kind)
  pattern_of ns at n r e = at_after [] ns at at n e (omega arith) (r at n e).0

  pub placed : (old new : List (Node L)) (k : ℕ) (n : Node L) → Grows old new → AreRight new → slice_get new k ≡ Some n → PartsBelow n.kind (length (patterns old))
      → slice_get (patterns new) k ≡ Some (kind_pattern (patterns old) n.kind)
  placed old new k n g r e h = pattern_of new k n r e ∙ ap Some (kind_grown (patterns old) (patterns new) (patterns_grow old new g) n.kind h)

  -- one more node
  pub right_more : (old : List (Node L)) (n : Node L) → AreRight old → IsRight (patterns old) n (length old) → AreRight (old ++ n ∷ [])
  right_more old n r h at m e = elim (at_old_or_last old n at m e) [
    | inl k ↦ let b = r at m k in
        let w = get_within old at m k in
        let z = length_patterns old in
        let c = below_more m.kind at (length (patterns old)) (omega arith) b.0 in
        (b.0, b.1 ∙ ap has_empty (sym (kind_grown (patterns old) (patterns (old ++ n ∷ [])) (patterns_grow old (old ++ n ∷ []) (n ∷ [], refl)) m.kind c)))
    | inr k ↦ let z = length_patterns old in
        let c = subst (PartsBelow n.kind) (sym z) h.0 in
        let all : IsRight (patterns (old ++ n ∷ [])) n (length old) = (h.0, h.1 ∙ ap has_empty (sym (kind_grown (patterns old) (patterns (old ++ n ∷ [])) (patterns_grow old (old ++ n ∷ []) (n ∷ [], refl)) n.kind c))) in
        subst (λ x. IsRight (patterns (old ++ n ∷ [])) x at) (sym k.1) (subst (λ x. IsRight (patterns (old ++ n ∷ [])) n x) (sym k.0) all)
  ]

  -- what a node's empty word is, and what it is made of, in all that the pool becomes
  pub at_of : (ps : List (Pattern L)) (i : ℕ) (p : Pattern L) → slice_get ps i ≡ Some p → pattern_at ps i ≡ p
  at_of ps i p e = ap (λ o. unwrap_or o never) e

  pub nullable_of : (ns : List (Node L)) (at : ℕ) (n : Node L) → IsPooled ns → slice_get ns at ≡ Some n → n.nullable ≡ has_empty (pattern_at (patterns ns) at)
  nullable_of ns at n p e = (p.0 at n e).1 ∙ ap has_empty (sym (at_of (patterns ns) at (kind_pattern (patterns ns) n.kind) (pattern_of ns at n p.0 e)))

  pub reads : (ns : List (Node L)) (at : ℕ) (n : Node L) → IsPooled ns → slice_get ns at ≡ Some n → (ps : List (Pattern L)) → Grows (patterns ns) ps → pattern_at ps at ≡ kind_pattern ps n.kind
  reads ns at n p e ps g =
      let there = get_grown (patterns ns) ps at (kind_pattern (patterns ns) n.kind) g (pattern_of ns at n p.0 e) in
      let w = get_within ns at n e in
      let z = length_patterns ns in
      let below = below_more n.kind at (length (patterns ns)) (omega arith) (p.0 at n e).0 in
      at_of ps at (kind_pattern (patterns ns) n.kind) there ∙ sym (kind_grown (patterns ns) ps g n.kind below)

  -- the node at a position, where ps is seen of the nodes
  pub node_right : (ns : List (Node L)) (ps : List (Pattern L)) (at : ℕ) (n : Node L) → IsPooled ns → patterns ns ≡ ps → slice_get ns at ≡ Some n
      → PartsBelow n.kind at × (n.nullable ≡ has_empty (pattern_at ps at)) × ((qs : List (Pattern L)) → Grows ps qs → pattern_at qs at ≡ kind_pattern qs n.kind)
  node_right ns ps at n p is e =
      subst (λ x. PartsBelow n.kind at × (n.nullable ≡ has_empty (pattern_at x at)) × ((qs : List (Pattern L)) → Grows x qs → pattern_at qs at ≡ kind_pattern qs n.kind)) is
      ((p.0 at n e).0, nullable_of ns at n p e, reads ns at n p e)

  -- what is right of what is seen is right of the nodes
  pub right_seen : (ns : List (Node L)) (ps : List (Pattern L)) (n : Node L) → patterns ns ≡ ps → IsRight ps n (length ps) → IsRight (patterns ns) n (length ns)
  right_seen ns ps n is r = let h = subst (λ x. IsRight x n (length x)) (sym is) r in (subst (λ z. PartsBelow n.kind z) (length_patterns ns) h.0, h.1)

  pub placed_seen : (old new : List (Node L)) (ps : List (Pattern L)) (k : ℕ) (n : Node L) → patterns old ≡ ps → Grows old new → AreRight new → slice_get new k ≡ Some n → PartsBelow n.kind (length ps)
      → slice_get (patterns new) k ≡ Some (kind_pattern ps n.kind)
  placed_seen old new ps k n is g r e h = placed old new k n g r e (subst (λ x. PartsBelow n.kind (length x)) (sym is) h) ∙ ap (λ x. Some (kind_pattern x n.kind)) is
