use Rattle.std.proofs.Common.{◌++◌, sym, ap, ◌∙◌}
use Rattle.odd_reader.proofs.SectionProofs.{reference_first}
use Rattle.odd_reader.proofs.references.after.Goals as goal

pub returns-in-Some : goal.returns-in-Some
returns-in-Some c = λ r i w e.
    let found = c.in-Some.ensures.cases in
    reference_first c.args.text.now c.args.written.now c.in-Some.rest.now c.args.c r i w e (found.1.1 ∙ ap (λ bs. c.args.written.now ++ bs) (sym found.2))

pub returns-in-None : goal.returns-in-None
returns-in-None c = λ r i w e. tt
