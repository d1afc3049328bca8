use Rattle.std.proofs.Common.{rules, sym, ◌∙◌}
use Rattle.odd_offers.specs.Same.{def_test}
use Rattle.odd_offers.proofs.Lists.{told}
use Rattle.odd_offers.proofs.TestsTold.{and_fails, and_later, or_later}
use Rattle.odd_offers.proofs.telling.is_def_told.Goals as goal

pub returns-then-same_def : goal.returns-then-same_def
returns-then-same_def c = let same = told def_test c.same_def.result c.args.first.now c.args.def.now c.same_def.ensures in search rules

pub returns-then-are_told : goal.returns-then-are_told
returns-then-are_told c =
    let same = told def_test c.same_def.result c.args.first.now c.args.def.now c.same_def.ensures in
    or_later _ _ _ (sym same ∙ c.if-same_def.false) (and_later _ _ _ (sym c.are_told.ensures ∙ c.if-are_told.true) c.are_words_told.ensures)

pub returns-else-are_told : goal.returns-else-are_told
returns-else-are_told c =
    let same = told def_test c.same_def.result c.args.first.now c.args.def.now c.same_def.ensures in
    or_later _ _ _ (sym same ∙ c.if-same_def.false) (and_fails _ _ _ (sym c.are_told.ensures ∙ c.if-are_told.false) c.if-are_told.false)
