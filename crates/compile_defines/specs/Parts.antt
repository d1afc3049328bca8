-- A content as a part and how often it stands.
use Rattle.std.specs.Prelude.{ℕ, zero, Bool, true, false, List, Option, Some}
use Rattle.odd_content.specs.declared.content.Condition.{Condition}
use Rattle.odd_content.specs.declared.content.Content.{Content, Empty, Text, Value, Vals, Element, Class, Macro, Any, Sequence', Alternate'}
use Rattle.odd_library.specs.declared.library.Library.{Library}
use Rattle.odd_meaning.specs.Classes.{Members}
use Rattle.rng_grammar.specs.declared.grammar.Expr.{Expr}
use Rattle.rng_grammar.specs.declared.grammar.Expr.TheVariants as expr
use Rattle.rng_types.specs.declared.bounds.Bounds.{Bounds}
use Rattle.compile_defines.specs.Contents.{condition_pattern, element_pattern, macro_pattern, members_pattern, part_patterns}
use Rattle.compile_defines.specs.Data.{item_pattern, list_pattern}
use Rattle.compile_defines.specs.Repeating.{choice_pattern, group_pattern}

-- how often its part stands: once, where nothing is said
abbrev pub bounds_of : Content → Bounds
bounds_of Empty = record { min = 1; max = Some 1 }
bounds_of Text = record { min = 1; max = Some 1 }
bounds_of (Value item) = record { min = 1; max = Some 1 }
bounds_of (Vals list) = record { min = 1; max = Some 1 }
bounds_of (Element key b) = b
bounds_of (Class key p b) = b
bounds_of (Macro key b) = b
bounds_of (Any c b) = b
bounds_of (Sequence' shape parts b) = b
bounds_of (Alternate' shape parts b) = b

-- the pattern of its part
abbrev pub part_pattern : Library → List Condition → Members → Content → Expr
part_pattern library conditions members Empty = expr.Empty
part_pattern library conditions members Text = expr.Text
part_pattern library conditions members (Value item) = item_pattern item
part_pattern library conditions members (Vals list) = list_pattern list
part_pattern library conditions members (Element key b) = element_pattern library key
part_pattern library conditions members (Class key p b) = members_pattern key p (members key)
part_pattern library conditions members (Macro key b) = macro_pattern library key
part_pattern library conditions members (Any c b) = condition_pattern conditions c
part_pattern library conditions members (Sequence' shape parts b) = group_pattern (part_patterns library conditions members parts)
part_pattern library conditions members (Alternate' shape parts b) = choice_pattern (part_patterns library conditions members parts)

-- it stands at no time
abbrev pub never_within : ℕ → Option ℕ → Bool
never_within zero (Some zero) = true
never_within min max = false

abbrev pub is_never : Bounds → Bool
is_never b = never_within b.min b.max
