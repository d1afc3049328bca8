use Rattle.std.proofs.Common.{◌≡◌, length, sym, ◌∙◌, rules}
use Rattle.std.proofs.lemmas.Str.{chars_from_encodes}
use Rattle.std.specs.Str.{chars}
use Rattle.rng_values.proofs.Collapsing.{none_goes}
use Rattle.rng_values.proofs.white_space.treated_length.Goals as goal

pub returns-in-String : goal.returns-in-String
returns-in-String c =
    let counted : c.count.result ≡ length (chars c.args.text.now) = search (rules, chars_from_encodes) in
    counted ∙ sym (none_goes c.args.kind (chars c.args.text.now) c.in-String.is)
