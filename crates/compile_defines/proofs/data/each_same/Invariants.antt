use Rattle.std.proofs.Common.{◌≡◌, map, take}
use Rattle.rng_grammar.specs.declared.grammar.Expr.TheVariants as expr
use Rattle.compile_defines.proofs.data.each_same.Given as goal

abbrev pub invariant-loop-value : goal.invariant-loop-value
invariant-loop-value l = l.made ≡ map expr.Same (take l.value-index l.values)
