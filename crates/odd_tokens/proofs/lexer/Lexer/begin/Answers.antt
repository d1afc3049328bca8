use Rattle.odd_tokens.proofs.Unfinished.{stands_in}
use Rattle.odd_tokens.proofs.lexer.Lexer.begin.Goals as goal

pub returns : goal.returns
returns c = λ fresh at read h n. (stands_in read h n).1
