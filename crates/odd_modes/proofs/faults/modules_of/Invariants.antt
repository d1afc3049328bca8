use Rattle.std.proofs.Common.{◌≡◌, ℕ, List, take}
use Rattle.std.specs.List.{list_any}
use Rattle.odd_text.specs.Same.{is_same}
use Rattle.odd_library.specs.Library.{module_of}
use Rattle.odd_modes.specs.Index.{has_text}
use Rattle.odd_modes.proofs.faults.modules_of.Given as goal

abbrev pub invariant-loop-part : goal.invariant-loop-part
invariant-loop-part l = (name : List ℕ) → has_text l.modules name ≡ list_any (λ e. is_same (module_of e.1) name) (take l.part-index l.part-items)
