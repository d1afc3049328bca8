use Rattle.std.proofs.Common.{sym, ◌∙◌}
use Rattle.odd_tokens.proofs.Unfinished.{legal_taken, illegal_none}
use Rattle.odd_tokens.proofs.lexer.Lexer.take.Goals as goal

pub returns-then-not-is_char-clause-malformed : goal.returns-then-not-is_char-clause-malformed
returns-then-not-is_char-clause-malformed c = λ n. illegal_none c.args.self.now c.args.at c.args.c (sym c.is_char.ensures ∙ c.if-not-is_char.true)

pub returns-clause-unfinished : goal.returns-clause-unfinished
returns-clause-unfinished c =
    (legal_taken c.args.self.now c.take_legal.new.self c.args.at c.args.c c.take_legal.result (sym c.is_char.ensures ∙ c.if-not-is_char.false) c.take_legal.ensures).0

pub returns-clause-ended : goal.returns-clause-ended
returns-clause-ended c =
    (legal_taken c.args.self.now c.take_legal.new.self c.args.at c.args.c c.take_legal.result (sym c.is_char.ensures ∙ c.if-not-is_char.false) c.take_legal.ensures).1

pub returns-clause-malformed : goal.returns-clause-malformed
returns-clause-malformed c =
    (legal_taken c.args.self.now c.take_legal.new.self c.args.at c.args.c c.take_legal.result (sym c.is_char.ensures ∙ c.if-not-is_char.false) c.take_legal.ensures).2
