use Rattle.std.proofs.Common.{◌↔◌, IsTrue, inl, inr, subst}
use Rattle.std.specs.Str.{chars}
use Rattle.rng_values.specs.Facets.{AreFewDigits, IsBound}
use Rattle.rng_values.proofs.Digits.{bound_tested}
use Rattle.rng_values.proofs.Naming.{through}
use Rattle.rng_values.proofs.facets.is_number_of.Goals as goal

pub returns-in-MinInclusive : goal.returns-in-MinInclusive
returns-in-MinInclusive c =
    let r = c.are_few_digits.result in
    let few = subst (λ digits. IsTrue r ↔ AreFewDigits 18 digits) c.split_sign.ensures.rest c.are_few_digits.ensures in
    let told = subst (λ bytes. IsTrue r ↔ IsBound (chars bytes)) c.as_str-text.ensures (through few (bound_tested (chars c.as_str-text.result.now))) in
    elim c.in-MinInclusive.is [ inl e ↦ rw e told | inr e ↦ rw e told ]

pub returns-in-Length : goal.returns-in-Length
returns-in-Length c =
    let told = rw c.as_str-text.ensures at c.are_few_digits-in-Length.ensures in
    elim c.in-Length.is [ inl e ↦ rw e told | inr either ↦ elim either [ inl e ↦ rw e told | inr e ↦ rw e told ] ]
