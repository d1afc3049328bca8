use Rattle.std.proofs.Common.{◌≡◌, arith, encode_utf8}
use Rattle.std.proofs.lemmas.Bool.Decides.{nat_tests}
use Rattle.std.proofs.lemmas.Str.{encode_ascii}
use Rattle.odd_tree.specs.Markup.{escaped_text, escaped_value}
use Rattle.odd_printing.proofs.PrintedCharacters.{kept_in_text, kept_in_value}
use Rattle.odd_printing.proofs.printing.add_value_character.Goals as goal

pub returns-in_default : goal.returns-in_default
returns-in_default c =
    let same : escaped_value (encode_utf8 c.args.c) ≡ escaped_text (encode_utf8 c.args.c) = grind (arith, nat_tests, encode_ascii c.args.c, kept_in_text c.args.c, kept_in_value c.args.c) in
    rw same c.add_text_character.ensures
