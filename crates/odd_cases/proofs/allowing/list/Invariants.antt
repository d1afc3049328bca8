use Rattle.std.proofs.Common.{All}
use Rattle.rng_allows.specs.Formed.{IsFormedValue}
use Rattle.odd_cases.proofs.allowing.list.Given as goal

abbrev pub invariant-loop-leaf : goal.invariant-loop-leaf
invariant-loop-leaf l = record {
  made : All IsFormedValue l.leaves;
  left : All IsFormedValue l.leaf-iterator.rest.items;
}
