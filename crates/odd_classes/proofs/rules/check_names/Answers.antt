use Rattle.std.proofs.Common.{◌≡◌, sym, ◌∙◌}
use Rattle.std.proofs.lemmas.Bool.{false≢true}
use Rattle.odd_classes.specs.Placing.{rule_of}
use Rattle.odd_classes.proofs.Places.{entry_here, entry_held}
use Rattle.odd_classes.proofs.Scanning.{none_earlier, none_held, none_more}
use Rattle.odd_classes.proofs.WrongNames.{NamesOne, first_wrong, none_wrong}
use Rattle.odd_classes.proofs.rules.check_names.Goals as goal

pub returns-then-branch-clause-first : goal.returns-then-branch-clause-first
returns-then-branch-clause-first c = λ key rule is.
    let library = c.args.library.now in
    let at = c.loop-key.key-index in
    let item = c.loop-key-item.result in
    let Is = NamesOne library c.args.wrong in
    let all = c.entries-key-items.ensures.all in
    let up = c.entries-key-items.ensures.rising in
    let there = entry_here library.parts at item (rw all at c.loop-key-test.true) (rw all at c.loop-key-item.is) in
    let held = entry_held library.parts up at item.0 item.1 there in
    let names = c.in_ok-names.ensures.0 c.if-branch.true in
    let first = first_wrong library c.args.wrong item.0 item.1 held names (none_earlier library Is up at item.0 item.1 c.loop-key.invariant there) in
    let same_key : item.0 ≡ key = cc c.in_ok-key.ensures in
    let same_rule : rule_of c.args.wrong ≡ rule = cc c.rule-rule.ensures in
    rw (← same_key, ← same_rule) first

pub loop-key-preserved : goal.loop-key-preserved
loop-key-preserved c =
    let library = c.args.library.now in
    let at = c.loop-key.key-index in
    let item = c.loop-key-item.result in
    let all = c.entries-key-items.ensures.all in
    let there = entry_here library.parts at item (rw all at c.loop-key-test.true) (rw all at c.loop-key-item.is) in
    none_more library (NamesOne library c.args.wrong) at item.0 item.1 c.loop-key.invariant there (λ names. false≢true (sym c.if-branch.false ∙ c.in_ok-names.ensures.1 names))

pub returns-clause-none : goal.returns-clause-none
returns-clause-none c =
    let library = c.args.library.now in
    let end = rw c.entries-key-items.ensures.all at c.loop-key-test.false in
    λ _. none_wrong library c.args.wrong (none_held library (NamesOne library c.args.wrong) c.loop-key.key-index end c.loop-key.invariant)
