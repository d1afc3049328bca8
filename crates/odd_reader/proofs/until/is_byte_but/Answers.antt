use Rattle.std.proofs.Common.{arith}
use Rattle.std.proofs.lemmas.Bool.Decides.{nat_tests}
use Rattle.odd_tokens.specs.Characters.{is_char}
use Rattle.odd_reader.proofs.until.is_byte_but.Goals as goal

pub returns-then-b-ge32 : goal.returns-then-b-ge32
unfolding is_char
returns-then-b-ge32 c = grind (arith, nat_tests)

pub returns-else-b-ge32 : goal.returns-else-b-ge32
unfolding is_char
returns-else-b-ge32 c = grind (arith, nat_tests, c.is_space_byte.ensures)
