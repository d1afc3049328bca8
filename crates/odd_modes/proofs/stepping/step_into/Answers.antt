use Rattle.odd_modes.proofs.Formed.{after_formed}
use Rattle.odd_modes.proofs.stepping.step_into.Goals as goal

pub returns-clause-formed : goal.returns-clause-formed
returns-clause-formed c = λ formed of_doc.
    after_formed c.args.library _ c.args.doc.now formed of_doc c.in_ok-ident.ensures c.in_ok-start.ensures c.in_ok-parts.ensures.rising c.in_ok-parts.ensures.holds
