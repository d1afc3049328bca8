use Rattle.std.proofs.Common.{◌≡◌, ◌∙◌, sym, ap, subst}
use Rattle.std.specs.Str.{chars}
use Rattle.std.specs.Str.Parse.{digits_value}
use Rattle.rng_values.specs.Facets.{AreFewDigits}
use Rattle.rng_values.proofs.Asked.{number_read}
use Rattle.rng_values.proofs.meeting.number.Goals as goal

pub unreachable-requires : goal.unreachable-requires
unreachable-requires c =
    let few = subst (λ bytes. AreFewDigits 9 (chars bytes)) (sym c.as_str.ensures) c.requires in
    let read = number_read c.as_str.result.now c.parse.result c.as_str.utf8 few c.parse.ensures.value.0 in
    cc (read, c.in-Err.is)

pub returns : goal.returns
returns c =
    let few = subst (λ bytes. AreFewDigits 9 (chars bytes)) (sym c.as_str.ensures) c.requires in
    let read = number_read c.as_str.result.now c.parse.result c.as_str.utf8 few c.parse.ensures.value.0 in
    let same : c.in-Ok.number ≡ digits_value 10 (chars c.as_str.result.now) = cc (read, c.in-Ok.is) in
    same ∙ ap (λ bytes. digits_value 10 (chars bytes)) c.as_str.ensures
