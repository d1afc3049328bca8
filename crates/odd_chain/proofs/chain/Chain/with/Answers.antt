use Rattle.odd_chain.proofs.Files.{refused_more}
use Rattle.odd_chain.proofs.chain.Chain.with.Goals as goal

pub returns-in-Broken-clause-chain : goal.returns-in-Broken-clause-chain
returns-in-Broken-clause-chain c = λ trees first end formed of number. refused_more trees c.args.tree c.in-Broken.offence (rw c.in-Broken.is at of)
