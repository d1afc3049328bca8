-- No two patterns of a pool are equal.
use Rattle.std.proofs.Common.{◌≡◌, ℕ, ◌<◌, List, length, Some, refl, sym, ap, subst, ◌∙◌, arith, slice_get}
use Rattle.std.specs.Prelude.{unwrap_or}
use Rattle.odd_pool.specs.Pattern.{Pattern, never, empty, leaf, choice, group, more, has_empty}
use Rattle.odd_pool.specs.Pool.{PartsBelow, IsPooled, AreRight, NoTwo, pattern_at, kind_pattern, patterns}
use Rattle.odd_pool.specs.declared.node.Node.{Node}
use Rattle.odd_pool.specs.declared.node.Kind.{Kind}
use Rattle.odd_pool.specs.declared.node.Kind.TheVariants.{Never, Empty, Leaf, Choice, Group, More}
use Rattle.odd_pool.proofs.Kept.{get_some, get_within, length_patterns, pattern_of}

module _ {L : Type 0} where
  -- how a pattern is made of those at positions
  abbrev Made : List (Pattern L) → Pattern L → Kind L → Type 0
  Made ps never k = k ≡ Never
  Made ps empty k = k ≡ Empty
  Made ps (leaf l) k = k ≡ Leaf l
  Made ps (choice p q) k = (i : ℕ) × (j : ℕ) × (k ≡ Choice i j) × (pattern_at ps i ≡ p) × (pattern_at ps j ≡ q)
  Made ps (group p q) k = (i : ℕ) × (j : ℕ) × (k ≡ Group i j) × (pattern_at ps i ≡ p) × (pattern_at ps j ≡ q)
  Made ps (more p) k = (i : ℕ) × (k ≡ More i) × (pattern_at ps i ≡ p)

  made : (ps : List (Pattern L)) (k : Kind L) → Made ps (kind_pattern ps k) k
  made ps Never = refl
  made ps Empty = refl
  made ps (Leaf l) = refl
  made ps (Choice i j) = (i, j, refl, refl, refl)
  made ps (Group i j) = (i, j, refl, refl, refl)
  made ps (More i) = (i, refl, refl)

  -- the node at the position of a pattern
  abbrev NodeOf : List (Node L) → ℕ → Pattern L → Type 0
  NodeOf ns at p = (n : Node L) × (slice_get ns at ≡ Some n) × (p ≡ kind_pattern (patterns ns) n.kind) × (n.nullable ≡ has_empty p) × PartsBelow n.kind at × Made (patterns ns) p n.kind

  node_of : (ns : List (Node L)) (at : ℕ) (p : Pattern L) → AreRight ns → slice_get (patterns ns) at ≡ Some p → NodeOf ns at p
  node_of ns at p r e =
      let w = get_within (patterns ns) at p e in
      let z = length_patterns ns in
      let n = get_some ns at (omega arith) in
      let f = pattern_of ns at n.0 r n.1 in
      let same : p ≡ kind_pattern (patterns ns) n.0.kind = cc in
      let is = r at n.0 n.1 in
      (n.0, n.1, same, is.1 ∙ ap has_empty (sym same), is.0, subst (λ q. Made (patterns ns) q n.0.kind) (sym same) (made (patterns ns) n.0.kind))

  same_node : (n m : Node L) → n.kind ≡ m.kind → n.nullable ≡ m.nullable → n ≡ m
  same_node n m e f = λ t. record { kind = e t; nullable = f t }

  at_get : (ps : List (Pattern L)) (i : ℕ) (p : Pattern L) → i < length ps → pattern_at ps i ≡ p → slice_get ps i ≡ Some p
  at_get ps i p h e = let s = get_some ps i h in s.1 ∙ ap Some (sym (ap (λ o. unwrap_or o never) s.1) ∙ e)

  end : (ns : List (Node L)) (p : Pattern L) (i j : ℕ) → NoTwo ns → (a : NodeOf ns i p) → (b : NodeOf ns j p) → a.0.kind ≡ b.0.kind → i ≡ j
  end ns p i j u a b e =
      let same = same_node a.0 b.0 e (a.3 ∙ sym b.3) in
      u b.0 i j (a.1 ∙ ap Some same) b.1

  part : (ns : List (Node L)) (at i : ℕ) (p : Pattern L) → at < length (patterns ns) → i < at → pattern_at (patterns ns) i ≡ p → slice_get (patterns ns) i ≡ Some p
  part ns at i p w h e = at_get (patterns ns) i p (omega arith) e

  pub one_position : (ns : List (Node L)) → IsPooled ns → (p : Pattern L) (i j : ℕ) → slice_get (patterns ns) i ≡ Some p → slice_get (patterns ns) j ≡ Some p → i ≡ j
  one_position ns h never i j e f = let a = node_of ns i never h.0 e in let b = node_of ns j never h.0 f in end ns never i j h.1 a b (a.5 ∙ sym b.5)
  one_position ns h empty i j e f = let a = node_of ns i empty h.0 e in let b = node_of ns j empty h.0 f in end ns empty i j h.1 a b (a.5 ∙ sym b.5)
  one_position ns h (leaf l) i j e f = let a = node_of ns i (leaf l) h.0 e in let b = node_of ns j (leaf l) h.0 f in end ns (leaf l) i j h.1 a b (a.5 ∙ sym b.5)
  one_position ns h (choice p q) i j e f =
      let a = node_of ns i (choice p q) h.0 e in
      let b = node_of ns j (choice p q) h.0 f in
      let v = get_within (patterns ns) i (choice p q) e in
      let w = get_within (patterns ns) j (choice p q) f in
      let c : PartsBelow {L = L} (Choice a.5.0 a.5.1) i = subst (λ k. PartsBelow {L = L} k i) a.5.2 a.4 in
      let d : PartsBelow {L = L} (Choice b.5.0 b.5.1) j = subst (λ k. PartsBelow {L = L} k j) b.5.2 b.4 in
      let x = one_position ns h p a.5.0 b.5.0 (part ns i a.5.0 p v c.0 a.5.3) (part ns j b.5.0 p w d.0 b.5.3) in
      let y = one_position ns h q a.5.1 b.5.1 (part ns i a.5.1 q v c.1 a.5.4) (part ns j b.5.1 q w d.1 b.5.4) in
      end ns (choice p q) i j h.1 a b (a.5.2 ∙ (λ t. Choice (x t) (y t)) ∙ sym b.5.2)
  one_position ns h (group p q) i j e f =
      let a = node_of ns i (group p q) h.0 e in
      let b = node_of ns j (group p q) h.0 f in
      let v = get_within (patterns ns) i (group p q) e in
      let w = get_within (patterns ns) j (group p q) f in
      let c : PartsBelow {L = L} (Group a.5.0 a.5.1) i = subst (λ k. PartsBelow {L = L} k i) a.5.2 a.4 in
      let d : PartsBelow {L = L} (Group b.5.0 b.5.1) j = subst (λ k. PartsBelow {L = L} k j) b.5.2 b.4 in
      let x = one_position ns h p a.5.0 b.5.0 (part ns i a.5.0 p v c.0 a.5.3) (part ns j b.5.0 p w d.0 b.5.3) in
      let y = one_position ns h q a.5.1 b.5.1 (part ns i a.5.1 q v c.1 a.5.4) (part ns j b.5.1 q w d.1 b.5.4) in
      end ns (group p q) i j h.1 a b (a.5.2 ∙ (λ t. Group (x t) (y t)) ∙ sym b.5.2)
  one_position ns h (more p) i j e f =
      let a = node_of ns i (more p) h.0 e in
      let b = node_of ns j (more p) h.0 f in
      let v = get_within (patterns ns) i (more p) e in
      let w = get_within (patterns ns) j (more p) f in
      let c : PartsBelow {L = L} (More a.5.0) i = subst (λ k. PartsBelow {L = L} k i) a.5.1 a.4 in
      let d : PartsBelow {L = L} (More b.5.0) j = subst (λ k. PartsBelow {L = L} k j) b.5.1 b.4 in
      let x = one_position ns h p a.5.0 b.5.0 (part ns i a.5.0 p v c a.5.2) (part ns j b.5.0 p w d b.5.2) in
      end ns (more p) i j h.1 a b (a.5.1 ∙ ap (λ z. More z) x ∙ sym b.5.1)
