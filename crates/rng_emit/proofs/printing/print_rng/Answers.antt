use Rattle.rng_emit.proofs.Plain.{text_denotes}
use Rattle.rng_emit.proofs.printing.print_rng.Goals as goal

pub returns-clause-denotes : goal.returns-clause-denotes
returns-clause-denotes c = text_denotes c.args.grammar.now c.declared_grammar.result c.declared_grammar.ensures
