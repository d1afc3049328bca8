use Rattle.std.proofs.Common.{subst, sym}
use Rattle.std.proofs.lemmas.Result.{IfOk-weaker}
use Rattle.odd_chain.specs.Base.{SpellsBase}
use Rattle.odd_chain.proofs.Spelling.{spells_base}
use Rattle.odd_chain.proofs.printing.print_odd.Goals as goal

pub returns-clause-base : goal.returns-clause-base
returns-clause-base c = λ formed unbroken.
    let library = c.args.library.now in
    IfOk-weaker c.print_odd.result _ _ (λ text e. subst (SpellsBase library) (sym e) (spells_base library formed unbroken)) c.print_odd.ensures.text
