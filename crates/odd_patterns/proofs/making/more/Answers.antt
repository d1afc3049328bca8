use Rattle.std.proofs.Common.{◌≡◌, sym, subst}
use Rattle.std.proofs.lemmas.Result.{IfOk-weaker}
use Rattle.odd_patterns.specs.Words.{SameWords}
use Rattle.odd_patterns.specs.declared.pattern.Pat.TheVariants.{More}
use Rattle.odd_patterns.proofs.Pieces.{more_again, more_empty, more_never, same_words}
use Rattle.odd_patterns.proofs.making.more.Goals as goal

pub returns-in-Never : goal.returns-in-Never
returns-in-Never g c = more_never c.args.pat c.in-Never.is

pub returns-in-Empty : goal.returns-in-Empty
returns-in-Empty g c = more_empty c.args.pat c.in-Empty.is

pub returns-in-More : goal.returns-in-More
returns-in-More g c = subst (λ y. SameWords (More c.in-More.part) (More y)) (sym c.in-More.is) (more_again c.in-More.part)

pub returns-in_default : goal.returns-in_default
returns-in_default g c =
    let whole = More c.args.pat in
    IfOk-weaker c.plain_more.result (λ made. made ≡ whole) (λ made. SameWords made whole) (λ made e. same_words made whole e) c.plain_more.ensures
