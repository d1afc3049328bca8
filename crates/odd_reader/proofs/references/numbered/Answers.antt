use Rattle.std.proofs.Common.{◌≡◌, ◌≢◌, get_or, sym, ap, ◌∙◌, subst}
use Rattle.std.specs.Str.Parse.{IsNumeral, digits_value, without_leading_plus}
use Rattle.odd_reader.proofs.NumberProofs.{no_plus}
use Rattle.odd_reader.proofs.references.numbered.Goals as goal

pub returns : goal.returns
returns c =
    let base = c.args.base in
    let digits = c.args.digits.now in
    let plain : without_leading_plus digits ≡ digits = no_plus digits (subst (λ bs. get_or bs 0 0 ≢ 0x2B) c.as_bytes-bytes.ensures.value c.if-bytes-eq43.false) in
    let parsed = c.in-Ok.ensures.value in
    record {
      numeral = subst (IsNumeral base) plain parsed.0.0;
      value = c.in-Some.ensures.value.1 ∙ parsed.1 ∙ ap (digits_value base) plain;
      legal = sym c.is_char.ensures ∙ c.if-not-is_char.false;
    }
