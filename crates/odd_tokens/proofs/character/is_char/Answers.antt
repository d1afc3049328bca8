use Rattle.std.proofs.Common.{◌∙◌}
use Rattle.odd_tokens.specs.Characters.{is_char as a_char}
use Rattle.std.proofs.Math.Bool.{or_assoc, or-false}
use Rattle.odd_tokens.proofs.Characters.{within_one}
use Rattle.odd_tokens.proofs.character.is_char.Goals as goal

pub returns : goal.returns
unfolding a_char
returns c = c.is_in.ensures ∙ simp (or_assoc, or-false, within_one)
