use Rattle.std.proofs.lemmas.Result.{IfOk-weaker}
use Rattle.odd_patterns.specs.Words.{IsChoiceOf, SameWords}
use Rattle.odd_patterns.specs.declared.pattern.Pat.TheVariants.{Choice}
use Rattle.odd_patterns.proofs.Pieces.{choice_halves, choice_of_few}
use Rattle.odd_patterns.proofs.making.+choice_of_items.Goals as goal

pub returns-then-count-lt2 : goal.returns-then-count-lt2
returns-then-count-lt2 g t c = choice_of_few c.args.items.items c.only.result c.only.ensures

pub returns : goal.returns
returns g t c =
    let p = c.in_ok-left.left in
    let q = c.in_ok-right.right in
    let cut = c.in_ok-rest.ensures in
    IfOk-weaker c.choice.result (λ made. SameWords made (Choice p q)) (λ made. IsChoiceOf c.args.items.items made)
    (λ made one. choice_halves c.args.items.items _ _ _ p q made cut.items cut.tail c.in_ok-left.ensures c.in_ok-right.ensures one) c.choice.ensures.words
