use Rattle.std.proofs.Common.{arith}
use Rattle.std.proofs.lemmas.Bool.Decides.{nat_tests}
use Rattle.odd_tokens.specs.Characters.{is_char}
use Rattle.odd_reader.proofs.sections.is_section_byte.Goals as goal

pub returns-in-9 : goal.returns-in-9
unfolding is_char
returns-in-9 c = grind (arith, nat_tests)

pub returns-in_default : goal.returns-in_default
unfolding is_char
returns-in_default c = grind (arith, nat_tests)
