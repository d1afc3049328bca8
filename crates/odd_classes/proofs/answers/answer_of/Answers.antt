use Rattle.std.proofs.Common.{inl, inr, refl, sym, ◌∙◌}
use Rattle.std.proofs.lemmas.Bool.{false≢true}
use Rattle.odd_meaning.specs.Rules.{Contradicts}
use Rattle.odd_offers.proofs.LeastGivers.{answer_right}
use Rattle.odd_offers.proofs.Named.{names_shared}
use Rattle.odd_classes.proofs.Asking.{clash_contradicts}
use Rattle.odd_classes.proofs.answers.answer_of.Goals as goal

pub returns-then-clashes : goal.returns-then-clashes
returns-then-clashes c = λ library element held all. inl (refl, (clash_contradicts library element c.args.part.now c.args.table held all c.clashes.result c.clashes.ensures).0 c.if-clashes.true)

pub returns-then-branch : goal.returns-then-branch
returns-then-branch c = λ library element held all.
    let agrees : Contradicts library element → ⊥ = λ k. false≢true (sym c.if-clashes.false ∙ (clash_contradicts library element c.args.part.now c.args.table held all c.clashes.result c.clashes.ensures).1 k) in
    let right = answer_right library element c.args.part.now c.args.table held all agrees c.in_ok-givens.givens c.in_ok-givens.ensures in
    inr (refl, agrees, (names_shared library element c.in_ok-givens.givens right).0 (c.in_ok-shares_name.ensures.0 c.if-branch.true))

pub returns : goal.returns
returns c = λ library element held all.
    let agrees : Contradicts library element → ⊥ = λ k. false≢true (sym c.if-clashes.false ∙ (clash_contradicts library element c.args.part.now c.args.table held all c.clashes.result c.clashes.ensures).1 k) in
    let right = answer_right library element c.args.part.now c.args.table held all agrees c.in_ok-givens.givens c.in_ok-givens.ensures in
    (agrees, λ s. false≢true (sym c.if-branch.false ∙ c.in_ok-shares_name.ensures.1 ((names_shared library element c.in_ok-givens.givens right).1 s)), right)
