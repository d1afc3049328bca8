use Rattle.std.proofs.Common.{rules, inl, inr}
use Rattle.odd_base.proofs.mem_shelf.MemShelfShelf.read.Goals.{then-self-eq0-via-then-self-eq0, then-self-eq0-via-else-self-eq0+then-contains}
use Rattle.odd_base.proofs.mem_shelf.MemShelfShelf.read.Goals as goal

pub returns-then-self-eq0-clause-fails_only : goal.returns-then-self-eq0-clause-fails_only
returns-then-self-eq0-clause-fails_only c = elim c.then-self-eq0.branch [
  | then-self-eq0-via-then-self-eq0 w ↦ inr (search rules)
  | then-self-eq0-via-else-self-eq0+then-contains w ↦ inl (search rules)
]
