use Rattle.std.proofs.Common.{◌≡◌, sym, subst}
use Rattle.std.proofs.lemmas.Result.{IfOk-weaker}
use Rattle.odd_patterns.specs.Words.{SameWords}
use Rattle.odd_patterns.specs.declared.pattern.Pat.TheVariants.{Group, Never}
use Rattle.odd_patterns.proofs.Pieces.{empty_after, empty_before, never_after, never_before, same_words}
use Rattle.odd_patterns.proofs.making.group.Goals as goal

pub returns-in-Never : goal.returns-in-Never
returns-in-Never g c = subst (λ y. SameWords Never (Group y c.args.right)) (sym c.in-Never.is) (never_before c.args.right)

pub returns-in-Empty : goal.returns-in-Empty
returns-in-Empty g c = subst (λ y. SameWords c.args.right (Group y c.args.right)) (sym c.in-Empty.is) (empty_before c.args.right)

pub returns-in-Never-right : goal.returns-in-Never-right
returns-in-Never-right g c = subst (λ y. SameWords Never (Group c.args.left y)) (sym c.in-Never-right.is) (never_after c.args.left)

pub returns-in-Empty-right : goal.returns-in-Empty-right
returns-in-Empty-right g c = subst (λ y. SameWords c.args.left (Group c.args.left y)) (sym c.in-Empty-right.is) (empty_after c.args.left)

pub returns-in_default-right : goal.returns-in_default-right
returns-in_default-right g c =
    let whole = Group c.args.left c.args.right in
    IfOk-weaker c.plain_group.result (λ made. made ≡ whole) (λ made. SameWords made whole) (λ made e. same_words made whole e) c.plain_group.ensures
