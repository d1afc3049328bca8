use Rattle.std.proofs.Common.{◌≡◌, ◌++◌, drop, map}
use Rattle.odd_forms.specs.Faults.{idents_of}
use Rattle.odd_forms.proofs.twice.idents_of.Given as goal

abbrev pub invariant-loop-def : goal.invariant-loop-def
invariant-loop-def l = l.idents ++ idents_of (map (λ t. t.now) (drop l.def-index l.defs)) ≡ idents_of (map (λ t. t.now) l.defs)
