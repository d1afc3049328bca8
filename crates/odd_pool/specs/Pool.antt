-- The patterns of nodes that name their parts by position.
use Rattle.std.specs.Prelude.{◌≡◌, ◌⊎◌, ℕ, ◌<◌, List, [], ◌∷◌, ◌++◌, slice_get, unwrap_or, ⊤, Some}
use Rattle.odd_pool.specs.Pattern.{Pattern, never, empty, leaf, choice, group, more, has_empty}
use Rattle.odd_pool.specs.declared.node.Node.{Node}
use Rattle.odd_pool.specs.declared.node.Kind.{Kind}
use Rattle.odd_pool.specs.declared.node.Kind.TheVariants.{Never, Empty, Leaf, Choice, Group, More}

-- the parts of a node are before the position
abbrev pub PartsBelow : {L : Type 0} → Kind L → ℕ → Type 0
PartsBelow Never n = ⊤
PartsBelow Empty n = ⊤
PartsBelow (Leaf l) n = ⊤
PartsBelow (Choice i j) n = (i < n) × (j < n)
PartsBelow (Group i j) n = (i < n) × (j < n)
PartsBelow (More i) n = i < n

abbrev pub pattern_at : {L : Type 0} → List (Pattern L) → ℕ → Pattern L
pattern_at ps i = unwrap_or (slice_get ps i) never

-- the pattern of a node, by those before it
abbrev pub kind_pattern : {L : Type 0} → List (Pattern L) → Kind L → Pattern L
kind_pattern ps Never = never
kind_pattern ps Empty = empty
kind_pattern ps (Leaf l) = leaf l
kind_pattern ps (Choice i j) = choice (pattern_at ps i) (pattern_at ps j)
kind_pattern ps (Group i j) = group (pattern_at ps i) (pattern_at ps j)
kind_pattern ps (More i) = more (pattern_at ps i)

abbrev pub patterns_after : {L : Type 0} → List (Pattern L) → List (Node L) → List (Pattern L)
patterns_after ps [] = ps
patterns_after ps (n ∷ ns) = patterns_after (ps ++ kind_pattern ps n.kind ∷ []) ns

-- the patterns that the nodes stand for
abbrev pub patterns : {L : Type 0} → List (Node L) → List (Pattern L)
patterns ns = patterns_after [] ns

-- the old list goes on
abbrev pub Grows : {X : Type 0} → List X → List X → Type 0
Grows {X} old new = (more : List X) × (new ≡ old ++ more)

-- no two of the list are equal
abbrev pub NoTwo : {X : Type 0} → List X → Type 0
NoTwo {X} xs = (x : X) (i j : ℕ) → slice_get xs i ≡ Some x → slice_get xs j ≡ Some x → i ≡ j

-- the value was there, or is put at the end
abbrev pub IsPut : {X : Type 0} → List X → List X → X → Type 0
IsPut old new x = (new ≡ old) ⊎ ((new ≡ old ++ x ∷ []) × ((i : ℕ) → slice_get old i ≡ Some x → ⊥))

-- the node may stand at the position
abbrev pub IsRight : {L : Type 0} → List (Pattern L) → Node L → ℕ → Type 0
IsRight ps n at = PartsBelow n.kind at × (n.nullable ≡ has_empty (kind_pattern ps n.kind))

abbrev pub AreRight : {L : Type 0} → List (Node L) → Type 0
AreRight {L} ns = (at : ℕ) (n : Node L) → slice_get ns at ≡ Some n → IsRight (patterns ns) n at

abbrev pub IsPooled : {L : Type 0} → List (Node L) → Type 0
IsPooled ns = AreRight ns × NoTwo ns
