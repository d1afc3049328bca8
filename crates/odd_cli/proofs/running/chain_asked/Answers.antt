use Rattle.std.proofs.Common.{refl}
use Rattle.odd_cli.specs.Words.{told}
use Rattle.odd_cli.specs.Reply.{NamesFiles}
use Rattle.odd_cli.proofs.running.chain_asked.Goals as goal

pub returns-in_default-clause-err : goal.returns-in_default-clause-err
returns-in_default-clause-err c = NamesFiles.no_job (c.in_default.ensures.none refl)

pub returns-then-asked-gt-CHAIN_FILES-clause-err : goal.returns-then-asked-gt-CHAIN_FILES-clause-err
returns-then-asked-gt-CHAIN_FILES-clause-err c = NamesFiles.too_many (told c.in-Some.asked.task) c.in-Some.asked.aside c.in-Some.asked.chain.now c.in-Some.ensures.asks c.if-asked-gt-CHAIN_FILES.true

pub returns-clause-ok : goal.returns-clause-ok
returns-clause-ok c = NamesFiles.named c.in-Some.ensures.asks c.if-asked-gt-CHAIN_FILES.false
