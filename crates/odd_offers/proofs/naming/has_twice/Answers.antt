use Rattle.std.proofs.Common.{◌≡◌, [], refl, subst, sym, ◌∙◌}
use Rattle.std.proofs.lemmas.List.{nil_from_length}
use Rattle.odd_offers.specs.Names.{IsNamedTwice}
use Rattle.odd_offers.proofs.AlikeNames.{alike_seen, none_alike, none_seen, value_seen}
use Rattle.odd_offers.proofs.naming.has_twice.Goals as goal

pub returns-then-do_rise : goal.returns-then-do_rise
returns-then-do_rise c = (λ h. cc, λ s. absurd (c.do_rise.ensures c.if-do_rise.true (subst IsNamedTwice (sym c.as_slice.ensures) s)))

pub loop-name-init : goal.loop-name-init
loop-name-init c = none_seen c.args.names _ _ (cc) c.new-seen.ensures.empty

pub returns-then-not-branch : goal.returns-then-not-branch
returns-then-not-branch c = (
  λ _. alike_seen c.args.names _ _ c.in-Some.name c.loop-name.seen c.loop-name.invariant c.in-Some.ensures.steps.0 c.in_ok-insert.field-0 c.in_ok-insert.ensures.added c.if-not-branch.true,
  λ _. refl,
)

pub loop-name-preserved : goal.loop-name-preserved
loop-name-preserved c =
    value_seen c.args.names _ _ c.in-Some.name c.loop-name.seen c.loop-name.invariant c.in-Some.ensures.steps.0 c.in_ok-insert.field-0 c.in_ok-insert.ensures.added c.insert.new.self
    c.in_ok-insert.ensures.updates.0 c.if-not-branch.false

pub returns : goal.returns
returns c =
    let rest = c.loop-name.name-iterator.rest in
    let none_left : rest.items ≡ [] = nil_from_length rest.items (sym rest.ok.0 ∙ c.in-None.ensures.steps.0) in
    (λ h. cc, λ s. absurd (none_alike c.args.names _ _ c.loop-name.invariant none_left s.0 s.1))
