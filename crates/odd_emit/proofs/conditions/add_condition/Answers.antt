use Rattle.std.proofs.Common.{◌∷◌, ◌∙◌, ◌++◌, [], ap, codes}
use Rattle.std.proofs.lemmas.Result.{on_ok_weaker}
use Rattle.odd_emit.specs.Contents.{except_words, words_value}
use Rattle.odd_emit.specs.Saying.{said_printed, says_if}
use Rattle.odd_emit.proofs.Put.{said_put}
use Rattle.odd_emit.proofs.conditions.add_condition.Goals as goal

pub returns : goal.returns
returns c =
    let condition = c.args.condition.now in
    let require = says_if (codes "require") (words_value condition.require) in
    let except = says_if (codes "except") (words_value (except_words condition)) in
    on_ok_weaker c.add_words-2.result
    (λ e. said_put c.args.out.now (require ∷ []) (except ∷ []) c.add_words.new.out c.add_words-2.new.out c.in_ok-add_words.ensures
    (e ∙ ap (λ words. c.add_words.new.out ++ said_printed (says_if (codes "except") (words_value words) ∷ [])) c.in_ok-words.ensures))
    c.add_words-2.ensures
