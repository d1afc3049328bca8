use Rattle.odd_modes.proofs.HeldEntries.{chosen_told}
use Rattle.odd_modes.proofs.faults.is_chosen.Goals as goal

pub returns-in-Some : goal.returns-in-Some
returns-in-Some c doc are =
    chosen_told c.args.library.now doc c.args.references.now c.args.key.now c.in-Some.part.now c.refer.result are c.in-Some.ensures c.refer.ensures
