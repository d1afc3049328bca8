use Rattle.std.proofs.Common.{◌≡◌, ◌++◌, drop}
use Rattle.odd_tree.specs.Elements.{texts_in}
use Rattle.odd_forms.proofs.texts.text_of.Given as goal

abbrev pub invariant-loop-node : goal.invariant-loop-node
invariant-loop-node l = texts_in l.node-items ≡ l.text ++ texts_in (drop l.node-index l.node-items)
