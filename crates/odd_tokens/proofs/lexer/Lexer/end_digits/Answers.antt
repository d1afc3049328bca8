use Rattle.std.proofs.Common.{refl}
use Rattle.std.proofs.lemmas.Bool.{false_from_ne_true}
use Rattle.odd_tokens.proofs.Characters.{char_scalar}
use Rattle.odd_tokens.proofs.lexer.Lexer.end_digits.Goals as goal

pub returns-in_default : goal.returns-in_default
returns-in_default c = λ e. rw (false_from_ne_true _ (λ h. c.in_default.ensures.value (char_scalar c.args.self.now.number h))) refl
