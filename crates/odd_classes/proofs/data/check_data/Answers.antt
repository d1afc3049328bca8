use Rattle.std.proofs.Common.{◌≡◌, sym, subst, arith, ◌∙◌}
use Rattle.std.proofs.lemmas.Bool.{false≢true}
use Rattle.odd_meaning.specs.Rules.{BreaksWithin, IsFirstBreak}
use Rattle.odd_classes.proofs.MixesData.{MixesData, first_mixes, mixed_told, none_mixes}
use Rattle.odd_classes.proofs.Places.{entry_held, entry_here}
use Rattle.odd_classes.proofs.Scanning.{none_earlier, none_held, none_more}
use Rattle.odd_classes.proofs.data.check_data.Goals as goal

pub loop-key-init : goal.loop-key-init
loop-key-init c = λ place key part before. absurd (omega arith)

pub returns-then-is_mixed-clause-first : goal.returns-then-is_mixed-clause-first
returns-then-is_mixed-clause-first c = λ key rule e.
    let library = c.args.library.now in
    let here = c.loop-key-item.result in
    let there = rw c.entries-key-items.ensures.all at (entry_here c.entries-key-items.result.now c.loop-key.key-index here c.loop-key-test.true c.loop-key-item.is) in
    let up = c.entries-key-items.ensures.rising in
    let mixed = (mixed_told library _ c.in_ok-macros.ensures here.1 c.is_mixed.result c.is_mixed.ensures).0 c.if-is_mixed.true in
    let first = first_mixes library here.0 here.1 (entry_held library.parts up c.loop-key.key-index here.0 here.1 there) mixed
    (none_earlier library (MixesData library) up c.loop-key.key-index here.0 here.1 c.loop-key.invariant there) in
    let key_is : here.0 ≡ key = sym c.in_ok-key.ensures ∙ (cc) in
    let rule_is : 18 ≡ rule = cc in
    subst (λ r. IsFirstBreak (BreaksWithin 18 18 library) key r) rule_is (subst (λ k. IsFirstBreak (BreaksWithin 18 18 library) k 18) key_is first)

pub loop-key-preserved : goal.loop-key-preserved
loop-key-preserved c =
    let library = c.args.library.now in
    let here = c.loop-key-item.result in
    let there = rw c.entries-key-items.ensures.all at (entry_here c.entries-key-items.result.now c.loop-key.key-index here c.loop-key-test.true c.loop-key-item.is) in
    none_more library (MixesData library) c.loop-key.key-index here.0 here.1 c.loop-key.invariant there
    (λ m. false≢true (sym c.if-is_mixed.false ∙ (mixed_told library _ c.in_ok-macros.ensures here.1 c.is_mixed.result c.is_mixed.ensures).1 m))

pub returns-clause-none : goal.returns-clause-none
returns-clause-none c = λ ok.
    let library = c.args.library.now in
    let at = c.loop-key.key-index in
    let end = rw c.entries-key-items.ensures.all at c.loop-key-test.false in
    none_mixes library (none_held library (MixesData library) at end c.loop-key.invariant)
