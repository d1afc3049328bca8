-- What breaks the form of a `content`, in it and in its parts at any depth.
use Rattle.std.specs.Prelude.{ℕ, List}
use Rattle.odd_text.specs.declared.name.Bind.{Bind}
use Rattle.odd_tree.specs.declared.tree.Tree.{Tree}
use Rattle.odd_forms.specs.Deep.{DeepFault}
use Rattle.odd_forms.specs.declared.element.Element.TheVariants as element

abbrev pub ContentFault : List Bind → Tree → ℕ → Type 0
ContentFault around t = DeepFault element.Content 60 around t
