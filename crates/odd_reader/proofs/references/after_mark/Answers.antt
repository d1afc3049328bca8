use Rattle.std.proofs.Common.{codes, refl}
use Rattle.odd_tokens.proofs.Ascii.{ascii_codes}
use Rattle.odd_tokens.specs.Tokens.{amp, apos}
use Rattle.odd_reader.proofs.references.after_mark.Goals as goal

pub returns-in-Some : goal.returns-in-Some
returns-in-Some c = c.in-Some.ensures amp tt (ascii_codes (codes "&amp;") refl) refl

pub returns-in-None : goal.returns-in-None
returns-in-None c = c.after-in-None.ensures apos tt (ascii_codes (codes "&apos;") refl) refl
