use Rattle.std.proofs.Common.{◌≡◌, false, nat_le, rules, sym, ap, subst, ◌∙◌, arith}
use Rattle.std.proofs.lemmas.List.Sorted.{IsPartitionPoint-from_clause, IsPartitionedBy-leb}
use Rattle.rng_matching.specs.Chars.{is_of_spans}
use Rattle.rng_matching.specs.Spans.{AreReady}
use Rattle.rng_matching.specs.declared.spans.Span.{Span}
use Rattle.rng_matching.proofs.Asked.{IsEnd, last_tells, none_begins}
use Rattle.rng_matching.proofs.spans.Spans.holds.Goals as goal

pub returns-then-end-eq0 : goal.returns-then-end-eq0
returns-then-end-eq0 c =
    let own = c.args.c in
    let items = c.as_slice-items.result.now in
    let ready = subst AreReady (sym c.as_slice-items.ensures.value) c.self.invariant in
    let p = IsPartitionPoint-from_clause (λ (s : Span). nat_le s.low own) items _ c.partition_point-end.ensures.partitioned (IsPartitionedBy-leb (λ (s : Span). s.low) items own ready.0) (λ a r q k. search rules) in
    let is = c.as_slice-items.ensures.value ∙ c.self.view_is in
    sym (subst (λ ss. is_of_spans ss own ≡ false) is (none_begins own items (subst (IsEnd own items) c.if-end-eq0.true p)))

pub returns : goal.returns
returns c =
    let own = c.args.c in
    let items = c.as_slice-items.result.now in
    let ready = subst AreReady (sym c.as_slice-items.ensures.value) c.self.invariant in
    let p = IsPartitionPoint-from_clause (λ (s : Span). nat_le s.low own) items _ c.partition_point-end.ensures.partitioned (IsPartitionedBy-leb (λ (s : Span). s.low) items own ready.0) (λ a r q k. search rules) in
    let is = c.as_slice-items.ensures.value ∙ c.self.view_is in
    last_tells own items c.partition_point-end.result (record { low = 0; top = 0 }) ready p (omega arith) c.partition_point-end.ensures.bound ∙ ap (λ ss. is_of_spans ss own) is
