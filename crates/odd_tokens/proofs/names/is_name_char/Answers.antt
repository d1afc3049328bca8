use Rattle.std.proofs.Common.{◌≡◌, true, false, ◌∙◌, sym}
use Rattle.odd_tokens.specs.Characters.{is_name_start as a_name_start, is_name_char as a_name_char}
use Rattle.std.proofs.Math.Bool.{or_assoc, or-false}
use Rattle.odd_tokens.proofs.Characters.{within_one}
use Rattle.odd_tokens.proofs.names.is_name_char.Goals as goal

pub returns-then-is_name_start : goal.returns-then-is_name_start
unfolding a_name_char
returns-then-is_name_start c =
    let is : a_name_start c.args.c ≡ true = sym c.is_name_start.ensures ∙ c.if-is_name_start.true in
    c.if-is_name_start.true ∙ rw is

pub returns-else-is_name_start : goal.returns-else-is_name_start
unfolding a_name_char
returns-else-is_name_start c =
    let is : a_name_start c.args.c ≡ false = sym c.is_name_start.ensures ∙ c.if-is_name_start.false in
    c.is_in.ensures ∙ simp (is, or_assoc, or-false, within_one)
