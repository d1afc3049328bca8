use Rattle.std.proofs.Common.{◌∙◌}
use Rattle.odd_tokens.specs.Characters.{is_name_start as a_name_start}
use Rattle.std.proofs.Math.Bool.{or_assoc, or-false}
use Rattle.odd_tokens.proofs.Characters.{within_one}
use Rattle.odd_tokens.proofs.names.is_name_start.Goals as goal

pub returns : goal.returns
unfolding a_name_start
returns c = c.is_in.ensures ∙ simp (or_assoc, or-false, within_one)
