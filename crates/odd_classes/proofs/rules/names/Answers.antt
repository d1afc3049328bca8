use Rattle.std.proofs.Common.{⊎_elim, refl, sym, ap, subst, take, ◌∙◌}
use Rattle.std.proofs.lemmas.Bool.{false≢true}
use Rattle.std.proofs.lemmas.List.{take_all}
use Rattle.odd_text.proofs.InList.{StandsOnce, ends, nothing_stands, once_push, standing}
use Rattle.odd_text.specs.Standing.{StandsIn}
use Rattle.odd_meaning.specs.Links.{named_by}
use Rattle.odd_classes.proofs.WrongNames.{wrong_among}
use Rattle.odd_classes.specs.Placing.{IsWrong, those_of}
use Rattle.odd_classes.proofs.rules.names.Goals as goal

pub loop-key-init : goal.loop-key-init
loop-key-init c = λ s. nothing_stands s.0 s.1

pub returns-then-is_wrong : goal.returns-then-is_wrong
returns-then-is_wrong c =
    let key = c.key-item.result in
    let stands = standing c.as_slice-key-items.result.now key (c.loop-key.key-index, c.loop-key-test.true, sym c.key-item.is) in
    let named = subst (λ keys. StandsIn keys key) (c.as_slice-key-items.ensures ∙ c.in_ok-named.ensures ∙ ap (λ k. those_of k (named_by c.args.part.now)) c.kind.ensures) stands in
    (λ _. (wrong_among c.args.library.now c.args.wrong (named_by c.args.part.now)).0 (key, named, c.is_wrong.ensures.0 c.if-is_wrong.true), λ _. refl)

pub loop-key-preserved : goal.loop-key-preserved
loop-key-preserved c = λ s.
    let Is = IsWrong c.args.library.now c.args.wrong in
    let keys = c.as_slice-key-items.result.now in
    let i = c.loop-key.key-index in
    let more = subst (StandsOnce Is) (ends keys i c.key-item.result c.loop-key-test.true c.key-item.is) s in
    ⊎_elim c.loop-key.invariant (λ w. false≢true (sym c.if-is_wrong.false ∙ c.is_wrong.ensures.1 w)) ((once_push Is (take i keys) c.key-item.result).0 more)

pub returns : goal.returns
returns c =
    let Is = IsWrong c.args.library.now c.args.wrong in
    let part = c.args.part.now in
    let all = take_all c.loop-key.key-index c.as_slice-key-items.result.now c.loop-key-test.false ∙ c.as_slice-key-items.ensures ∙ c.in_ok-named.ensures ∙ ap (λ k. those_of k (named_by part)) c.kind.ensures in
    (λ f. absurd (false≢true f), λ s. absurd (c.loop-key.invariant (subst (StandsOnce Is) (sym all) ((wrong_among c.args.library.now c.args.wrong (named_by part)).1 s))))
