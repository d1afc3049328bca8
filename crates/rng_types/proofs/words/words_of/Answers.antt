use Rattle.std.proofs.Common.{◌≡◌, [], ◌++◌, sym, ap, ◌∙◌}
use Rattle.std.proofs.lemmas.List.{nil_from_length}
use Rattle.rng_types.proofs.Spaced.{all_words, at_other, words_after}
use Rattle.rng_types.proofs.words.words_of.Goals as goal

pub loop-c-preserved : goal.loop-c-preserved
loop-c-preserved c =
    let words = c.loop-c.words in
    let rest = c.next.new.self.rest.now in
    ap (λ w. words ++ words_after w rest) c.in_ok-push.ensures.ok
    ∙ ap (λ x. words ++ x) (sym (at_other c.loop-c.word rest c.in-Some.c (sym c.is_space.ensures ∙ c.if-is_space.false)))
    ∙ ap (λ bytes. words ++ words_after c.loop-c.word bytes) (sym c.in-Some.ensures.steps.0) ∙ c.loop-c.invariant

pub returns : goal.returns
returns c =
    let done : c.loop-c.c-iterator.rest.now ≡ [] = nil_from_length _ c.in-None.ensures.steps.0.0 in
    c.in_ok-end_word-2.ensures ∙ ap (λ bytes. c.loop-c.words ++ words_after c.loop-c.word bytes) (sym done) ∙ c.loop-c.invariant ∙ all_words c.args.value.now
