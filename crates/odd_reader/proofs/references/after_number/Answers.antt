use Rattle.std.proofs.Common.{◌++◌, codes, sym, ap, ◌∙◌}
use Rattle.std.proofs.lemmas.Option.{IfSome_then}
use Rattle.odd_reader.proofs.NumberProofs.{decimal_first, hexadecimal_first}
use Rattle.odd_reader.proofs.references.after_number.Goals as goal

pub returns-in-Some : goal.returns-in-Some
returns-in-Some c =
    let found = c.in-Some.ensures.cases in
    let digits = c.in-Some.digits.now in
    IfSome_then c.after_digits.result c.after_digits.ensures
    (λ p f. hexadecimal_first c.args.text.now digits p.1.now p.0 (found.1.1 ∙ ap (λ bs. codes "&#x" ++ bs) (sym found.2)) f)

pub returns-in-Some-strip_prefix : goal.returns-in-Some-strip_prefix
returns-in-Some-strip_prefix c =
    let found = c.in-Some-strip_prefix.ensures.cases in
    let digits = c.in-Some-strip_prefix.digits.now in
    IfSome_then c.after_digits-in-Some-strip_prefix.result c.after_digits-in-Some-strip_prefix.ensures
    (λ p f. decimal_first c.args.text.now digits p.1.now p.0 (found.1.1 ∙ ap (λ bs. codes "&#" ++ bs) (sym found.2)) f)
