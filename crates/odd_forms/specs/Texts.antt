-- The text of an element, without that of the elements in it.
use Rattle.std.specs.Prelude.{ℕ, List}
use Rattle.odd_tree.specs.Elements.{text_of}
use Rattle.odd_tree.specs.declared.tree.Tree.{Tree}
use Rattle.rng_values.specs.Treated.{collapsed_text}

-- with white space collapsed
abbrev pub collapsed_in : Tree → List ℕ
collapsed_in t = collapsed_text (text_of t)
