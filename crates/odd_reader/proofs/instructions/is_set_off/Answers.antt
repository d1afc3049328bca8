use Rattle.std.proofs.Common.{◌≡◌, length, sym, ap, ◌∙◌}
use Rattle.std.proofs.lemmas.List.{nil_from_length}
use Rattle.std.proofs.lemmas.Str.{chars-nil, chars_past_char}
use Rattle.std.specs.Str.{chars}
use Rattle.odd_tokens.specs.Tokens.{is_set_off}
use Rattle.odd_reader.proofs.instructions.is_set_off.Goals as goal

pub returns-in-Some : goal.returns-in-Some
returns-in-Some c =
    c.is_space.ensures ∙ sym (ap is_set_off (chars_past_char c.args.inside.now c.next.new.self.rest.now c.in-Some.c c.utf8.inside (sym c.chars.ensures.rest ∙ c.in-Some.ensures.steps.0)))

pub returns-in-None : goal.returns-in-None
returns-in-None c =
    let inside = c.args.inside.now in
    let none : length inside ≡ 0 = sym (ap length c.chars.ensures.rest) ∙ c.in-None.ensures.steps.0.0 in
    sym (ap (λ bs. is_set_off (chars bs)) (nil_from_length inside none) ∙ ap is_set_off chars-nil)
