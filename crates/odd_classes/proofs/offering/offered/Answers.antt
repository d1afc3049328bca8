use Rattle.std.proofs.Common.{◌≡◌, arith, subst, sym, refl, ◌∙◌, Some}
use Rattle.std.proofs.lemmas.Bool.{false≢true}
use Rattle.std.proofs.lemmas.Option.{slice_get_within}
use Rattle.odd_library.specs.Odd.{element_key}
use Rattle.odd_classes.proofs.Asking.{loop_least, none_of_offering, right_least}
use Rattle.odd_classes.proofs.Linked.{held}
use Rattle.odd_classes.proofs.Places.{held_at}
use Rattle.odd_classes.specs.Offered.{IsRight, IsRightRule, ReachesLoop}
use Rattle.odd_classes.specs.declared.answers.Answer.TheVariants as answer
use Rattle.odd_classes.specs.Placing.{IsGraphOf, IsPlaceOf}
use Rattle.odd_meaning.specs.Links.{classes_of}
use Rattle.odd_classes.proofs.Asking.{answer_taken}
use Rattle.odd_classes.proofs.OffersListed.{offers_set}
use Rattle.odd_classes.proofs.offering.offered.Goals as goal

pub unreachable-requires : goal.unreachable-requires
unreachable-requires c =
    let library = c.args.library.now in
    let key = element_key c.args.element.now in
    let found = held key library c.requires in
    let there = held_at library.parts key found.0 found.1 in
    let at = subst (λ k. IsPlaceOf c.entries-entries.result.now there.0 k) (sym c.in_ok-element_key.ensures) (subst (λ es. IsPlaceOf es there.0 key) (sym c.entries-entries.ensures.all) (found.0, there.1)) in
    let is = (c.in_default.ensures there.0).1 at in
    cc

pub returns-then-branch-clause-rule : goal.returns-then-branch-clause-rule
returns-then-branch-clause-rule c = λ rule e.
    let library = c.args.library.now in
    let key = element_key c.args.element.now in
    let place = c.in-Some.place in
    let here = subst (λ es. IsPlaceOf es place key) c.entries-entries.ensures.all (subst (λ k. IsPlaceOf c.entries-entries.result.now place k) c.in_ok-element_key.ensures ((c.in-Some.ensures place).0 refl)) in
    let is : rule ≡ 13 = cc in
    rw is (loop_least library c.args.element.now ((c.in_ok-reaches_loop.ensures key here).0 c.if-branch.true))

pub answers-requires : goal.answers-requires
answers-requires c = rw c.as_slice-2.ensures.value (subst (λ es. IsGraphOf classes_of es c.in_ok-arrows.arrows.items) c.entries-entries.ensures.all c.in_ok-arrows.ensures)

pub index_mut-requires : goal.index_mut-requires
index_mut-requires c =
    let library = c.args.library.now in
    let key = element_key c.args.element.now in
    let place = c.in-Some.place in
    let here = subst (λ es. IsPlaceOf es place key) c.entries-entries.ensures.all (subst (λ k. IsPlaceOf c.entries-entries.result.now place k) c.in_ok-element_key.ensures ((c.in-Some.ensures place).0 refl)) in
    let within = slice_get_within library.parts place (key, here.0) here.1 in
    let many = c.in_ok-answers.ensures.as_many in
    omega (arith, within, many, c.in_ok-answers.answers.ok.0)

pub returns-in-Some-Offers-clause-offers : goal.returns-in-Some-Offers-clause-offers
returns-in-Some-Offers-clause-offers c =
    let library = c.args.library.now in
    let element = c.args.element.now in
    let key = element_key element in
    let place = c.in-Some.place in
    let here = subst (λ es. IsPlaceOf es place key) c.entries-entries.ensures.all (subst (λ k. IsPlaceOf c.entries-entries.result.now place k) c.in_ok-element_key.ensures ((c.in-Some.ensures place).0 refl)) in
    let none : ReachesLoop library key → ⊥ = λ r. false≢true (sym c.if-branch.false ∙ (c.in_ok-reaches_loop.ensures key here).1 r) in
    let told = answer_taken library c.in_ok-answers.answers.items c.in_ok-answers.ensures place element here none c.take.result _ (c.take.ensures.value ∙ c.index_mut.ensures.value) in
    let is : told.0 ≡ answer.Offers c.in-Some-Offers.givens = cc (told.1, c.in-Some-Offers.is, c.in-Some-Offers.field-0-is) in
    rw c.in_ok-offers_of-in-Some-Offers.ensures (offers_set library element c.in-Some-Offers.givens (subst (IsRight library element) is told.2).2)

pub returns-in-Some-Offers-clause-none : goal.returns-in-Some-Offers-clause-none
returns-in-Some-Offers-clause-none c = λ ok rule breaks.
    let library = c.args.library.now in
    let element = c.args.element.now in
    let key = element_key element in
    let place = c.in-Some.place in
    let here = subst (λ es. IsPlaceOf es place key) c.entries-entries.ensures.all (subst (λ k. IsPlaceOf c.entries-entries.result.now place k) c.in_ok-element_key.ensures ((c.in-Some.ensures place).0 refl)) in
    let none : ReachesLoop library key → ⊥ = λ r. false≢true (sym c.if-branch.false ∙ (c.in_ok-reaches_loop.ensures key here).1 r) in
    let told = answer_taken library c.in_ok-answers.answers.items c.in_ok-answers.ensures place element here none c.take.result _ (c.take.ensures.value ∙ c.index_mut.ensures.value) in
    let is : told.0 ≡ answer.Offers c.in-Some-Offers.givens = cc (told.1, c.in-Some-Offers.is, c.in-Some-Offers.field-0-is) in
    let right = subst (IsRight library element) is told.2 in
    none_of_offering library element none right.0 right.1 rule breaks

pub returns-in-Some-Breaks-clause-rule : goal.returns-in-Some-Breaks-clause-rule
returns-in-Some-Breaks-clause-rule c = λ rule e.
    let library = c.args.library.now in
    let element = c.args.element.now in
    let key = element_key element in
    let place = c.in-Some.place in
    let here = subst (λ es. IsPlaceOf es place key) c.entries-entries.ensures.all (subst (λ k. IsPlaceOf c.entries-entries.result.now place k) c.in_ok-element_key.ensures ((c.in-Some.ensures place).0 refl)) in
    let none : ReachesLoop library key → ⊥ = λ r. false≢true (sym c.if-branch.false ∙ (c.in_ok-reaches_loop.ensures key here).1 r) in
    let told = answer_taken library c.in_ok-answers.answers.items c.in_ok-answers.ensures place element here none c.take.result _ (c.take.ensures.value ∙ c.index_mut.ensures.value) in
    let is : told.0 ≡ answer.Breaks c.in-Some-Breaks.rule = cc (told.1, c.in-Some-Breaks.is, c.in-Some-Breaks.field-0-is) in
    let same : c.in-Some-Breaks.rule ≡ rule = cc in
    right_least library element none rule (subst (IsRightRule library element) same (subst (IsRight library element) is told.2))

pub unreachable-requires-in-None : goal.unreachable-requires-in-None
unreachable-requires-in-None c =
    let library = c.args.library.now in
    let element = c.args.element.now in
    let key = element_key element in
    let place = c.in-Some.place in
    let here = subst (λ es. IsPlaceOf es place key) c.entries-entries.ensures.all (subst (λ k. IsPlaceOf c.entries-entries.result.now place k) c.in_ok-element_key.ensures ((c.in-Some.ensures place).0 refl)) in
    let none : ReachesLoop library key → ⊥ = λ r. false≢true (sym c.if-branch.false ∙ (c.in_ok-reaches_loop.ensures key here).1 r) in
    let told = answer_taken library c.in_ok-answers.answers.items c.in_ok-answers.ensures place element here none c.take.result _ (c.take.ensures.value ∙ c.index_mut.ensures.value) in
    let no = told.1 in
    cc (no, c.in-None.is)
