use Rattle.std.proofs.Common.{length}
use Rattle.odd_cli.specs.Words.{of_chain, told}
use Rattle.odd_cli.proofs.words.read_words.Goals as goal

pub returns-clause-job : goal.returns-clause-job
returns-clause-job c =
    let asked = c.in_ok-asked.asked in
    of_chain (told asked.task) asked.aside asked.chain.now c.in_ok-asked.ensures.asks (λ i. record { command = c.command.ensures i; aside = asked.aside; files = length asked.chain.now; number = 0 })
