use Rattle.std.proofs.Common.{arith}
use Rattle.std.proofs.lemmas.Bool.Decides.{nat_tests}
use Rattle.std.proofs.lemmas.Str.{encode_ascii}
use Rattle.odd_printing.proofs.PrintedCharacters.{kept_in_text}
use Rattle.odd_printing.proofs.printing.add_text_character.Goals as goal

pub returns-in_default : goal.returns-in_default
returns-in_default c = grind (arith, nat_tests, encode_ascii c.args.c, kept_in_text c.args.c)
