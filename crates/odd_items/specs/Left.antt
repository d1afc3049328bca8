-- What is left of some nodes, of which some are still to come.
use Rattle.std.specs.Prelude.{ℕ, List}
use Rattle.std.specs.declared.option.Option.{Option}
use Rattle.std.specs.declared.option.Option.TheVariants.{None, Some}
use Rattle.odd_tree.specs.declared.tree.Node.{Node}
use Rattle.odd_items.specs.Without.{text_before}

-- the text that may stand at the end of what is left so far, before what is left of the rest
abbrev pub before_rest : Option (List ℕ) → List Node → List Node
before_rest None rest = rest
before_rest (Some bytes) rest = text_before bytes rest
