use Rattle.std.proofs.Common.{◌≡◌, ℕ, List, take}
use Rattle.std.specs.BTreeMap.{get}
use Rattle.odd_text.specs.Text.{text_cmp}
use Rattle.odd_tree.specs.Names.{last_bound}
use Rattle.odd_tree.proofs.bindings.Bindings.new.Given as goal

abbrev pub invariant-loop-bind : goal.invariant-loop-bind
invariant-loop-bind l = (prefix : List ℕ) → get text_cmp l.index prefix ≡ last_bound (take l.bind-index l.bind-items) prefix
