use Rattle.std.proofs.Common.{rules, inl, inr}
use Rattle.odd_base.proofs.mem_sink.MemSinkSink.put.Goals.{then-left-eq0-via-then-left-eq0, then-left-eq0-via-else-left-eq0+then-contains}
use Rattle.odd_base.proofs.mem_sink.MemSinkSink.put.Goals as goal

pub returns-then-left-eq0-clause-fails_only : goal.returns-then-left-eq0-clause-fails_only
returns-then-left-eq0-clause-fails_only c = elim c.then-left-eq0.branch [
  | then-left-eq0-via-then-left-eq0 w ↦ inr (search rules)
  | then-left-eq0-via-else-left-eq0+then-contains w ↦ inl (search rules)
]
