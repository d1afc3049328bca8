use Rattle.std.proofs.Common.{◌≡◌, sym, subst}
use Rattle.std.proofs.lemmas.Result.{IfOk-weaker}
use Rattle.odd_patterns.specs.Words.{SameWords}
use Rattle.odd_patterns.specs.declared.pattern.Pat.TheVariants.{Choice}
use Rattle.odd_patterns.proofs.Pieces.{either_same, never_left, never_right, same_words}
use Rattle.odd_patterns.proofs.making.choice.Goals as goal

pub returns-in-Never-clause-words : goal.returns-in-Never-clause-words
returns-in-Never-clause-words g c = subst (λ y. SameWords c.args.right (Choice y c.args.right)) (sym c.in-Never.is) (never_left c.args.right)

pub returns-in-Never-right-clause-words : goal.returns-in-Never-right-clause-words
returns-in-Never-right-clause-words g c = subst (λ y. SameWords c.args.left (Choice c.args.left y)) (sym c.in-Never-right.is) (never_right c.args.left)

pub returns-then-same-clause-words : goal.returns-then-same-clause-words
returns-then-same-clause-words g c = either_same c.args.left c.args.right (c.same.ensures.0 c.if-same.true)

pub returns-else-same-clause-words : goal.returns-else-same-clause-words
returns-else-same-clause-words g c =
    let whole = Choice c.args.left c.args.right in
    IfOk-weaker c.plain_choice.result (λ made. made ≡ whole) (λ made. SameWords made whole) (λ made e. same_words made whole e) c.plain_choice.ensures
