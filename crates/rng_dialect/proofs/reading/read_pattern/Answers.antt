use Rattle.std.proofs.Common.{◌≡◌, ◌∙◌, ap, sym, subst, Bool, IfOk, Result}
use Rattle.std.proofs.lemmas.Result.{IfOk-weaker}
use Rattle.std.specs.Str.{chars}
use Rattle.std.specs.Str.Iter.{char_indices_offset, char_indices_rest}
use Rattle.rng_dialect.specs.Dialect.{IsNoPatternAt, IsPattern, SpellsRegex}
use Rattle.rng_dialect.specs.Keeping.{Takes}
use Rattle.rng_dialect.specs.Reading.{step}
use Rattle.rng_dialect.specs.declared.refusal.PatternRefusal.{PatternRefusal}
use Rattle.rng_dialect.specs.declared.regex.Regex.{Regex}
use Rattle.rng_dialect.proofs.Complete.{one_pattern}
use Rattle.rng_dialect.proofs.Fronts.{ended_bad, ended_pattern, misfit_place, next_taken, none_taken}
use Rattle.rng_dialect.proofs.reading.read_pattern.Goals as goal

pub loop-at-init : goal.loop-at-init
loop-at-init c =
    let h = c.char_indices-at-items.ensures in
    none_taken c.as_str-text.result.now _ _ c.new-reader.result c.as_str-text.utf8
    (ap char_indices_rest c.into_iter-at-iterator.ensures.into_iter_gives ∙ h.rest) (ap char_indices_offset c.into_iter-at-iterator.ensures.into_iter_gives ∙ h.offset) c.new-reader.ensures

pub loop-at-preserved : goal.loop-at-preserved
loop-at-preserved c =
    let h = c.in-Some.ensures.steps in
    let taken = c.loop-at.invariant in
    let old = c.loop-at.at-iterator in
    let new = c.next.new.self in
    next_taken c.as_str-text.result.now (char_indices_rest old) (char_indices_rest new) (char_indices_offset old) c.in-Some.c c.loop-at.reader c.take.new.self taken h.1 (char_indices_offset new) h.2
    (subst (λ (b : Bool). Takes (step taken.state c.in-Some.c) b c.take.new.self) c.if-not-branch.false (c.in_ok-take.ensures taken.state taken.kept))

pub returns-then-not-branch-clause-bad : goal.returns-then-not-branch-clause-bad
returns-then-not-branch-clause-bad c =
    let h = c.in-Some.ensures.steps in
    let taken = c.loop-at.invariant in
    let old = c.loop-at.at-iterator in
    λ at e.
    let place : char_indices_offset old ≡ at = cc (h.0, e) in
    subst (λ bytes. IsNoPatternAt (chars bytes) at) c.as_str-text.ensures
    (subst (IsNoPatternAt (chars c.as_str-text.result.now)) place
    (misfit_place c.as_str-text.result.now (char_indices_rest old) (char_indices_rest c.next.new.self) (char_indices_offset old) c.in-Some.c c.loop-at.reader c.take.new.self taken h.1
    (subst (λ (b : Bool). Takes (step taken.state c.in-Some.c) b c.take.new.self) c.if-not-branch.true (c.in_ok-take.ensures taken.state taken.kept))))

pub returns-clause-ok : goal.returns-clause-ok
returns-clause-ok c =
    let text = c.as_str-text.result.now in
    subst (λ bytes. IfOk c.ok_or.result (IsPattern (chars bytes))) c.as_str-text.ensures
    (subst (λ (r : Result Regex PatternRefusal). IfOk r (IsPattern (chars text))) (sym c.ok_or.ensures.value)
    (ended_pattern text _ _ c.loop-at.reader c.in_ok-finish.field-0 c.loop-at.invariant c.in-None.ensures.steps.0 c.in_ok-finish.ensures))

pub returns-clause-one : goal.returns-clause-one
returns-clause-one c =
    let cs = chars c.args.text.now in
    IfOk-weaker c.ok_or.result (IsPattern cs) (λ r. (other : Regex) → SpellsRegex cs other → other ≡ r)
    (λ r p other s. one_pattern cs other r s (p.size, p.levels, p.spelled)) (returns-clause-ok c)

pub returns-clause-bad : goal.returns-clause-bad
returns-clause-bad c =
    let text = c.as_str-text.result.now in
    λ at e.
    subst (λ bytes. IsNoPatternAt (chars bytes) at) c.as_str-text.ensures
    (ended_bad text _ _ c.loop-at.reader c.in_ok-finish.field-0 c.loop-at.invariant c.in-None.ensures.steps.0 c.as_str-text.utf8 c.in_ok-finish.ensures at (sym c.ok_or.ensures.value ∙ e))
