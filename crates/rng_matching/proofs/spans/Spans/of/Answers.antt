use Rattle.std.proofs.Common.{◌≡◌, ℕ, ◌++◌, drop, length, take, sym, ap, subst, ◌∙◌, arith}
use Rattle.rng_matching.specs.Chars.{is_of_members, is_of_spans}
use Rattle.rng_matching.specs.Spans.{AreReady, raised}
use Rattle.rng_matching.proofs.Raised.{front_of, raised_ready, raised_same}
use Rattle.rng_matching.proofs.spans.Spans.of.Goals as goal

pub invariant_of-result : goal.invariant_of-result
invariant_of-result c =
    let n = c.in_ok-items.items.len in
    let sorted = c.sort.new.spans in
    let first : take n (sorted ++ drop (length sorted) c.in_ok-items.items.items) ≡ sorted = front_of n sorted _ (omega arith) in
    let done : c.raise.new.spans ≡ raised 0 sorted = c.raise.ensures ∙ ap (raised 0) (c.deref_mut-2.ensures.value ∙ first) in
    let whole = front_of n c.raise.new.spans _ (omega arith) ∙ done in
    subst AreReady (sym whole) (raised_ready sorted c.sort.ensures.rising)

pub returns : goal.returns
returns c =
    let n = c.in_ok-items.items.len in
    let sorted = c.sort.new.spans in
    let members = c.args.members.now in
    let first : take n (sorted ++ drop (length sorted) c.in_ok-items.items.items) ≡ sorted = front_of n sorted _ (omega arith) in
    let done : c.raise.new.spans ≡ raised 0 sorted = c.raise.ensures ∙ ap (raised 0) (c.deref_mut-2.ensures.value ∙ first) in
    let whole = front_of n c.raise.new.spans _ (omega arith) ∙ done in
    λ (own : ℕ). subst (λ ss. is_of_spans ss own ≡ is_of_members members own) (sym whole)
    (raised_same members c.deref_mut.result.now sorted own (c.deref_mut.ensures.value ∙ c.in_ok-items.ensures) c.sort.ensures.same c.sort.ensures.rising)
