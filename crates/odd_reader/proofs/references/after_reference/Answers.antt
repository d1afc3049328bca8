use Rattle.std.proofs.Common.{codes, refl}
use Rattle.odd_tokens.proofs.Ascii.{ascii_codes}
use Rattle.odd_tokens.specs.Tokens.{gt, lt, quot}
use Rattle.odd_reader.proofs.references.after_reference.Goals as goal

pub returns-in-103 : goal.returns-in-103
returns-in-103 c = c.after.ensures gt tt (ascii_codes (codes "&gt;") refl) refl

pub returns-in-108 : goal.returns-in-108
returns-in-108 c = c.after-in-108.ensures lt tt (ascii_codes (codes "&lt;") refl) refl

pub returns-in-113 : goal.returns-in-113
returns-in-113 c = c.after-in-113.ensures quot tt (ascii_codes (codes "&quot;") refl) refl
