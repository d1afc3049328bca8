use Rattle.std.proofs.Common.{◌≡◌, ℕ, Err, IsOk, subst}
use Rattle.odd_library.specs.declared.library.Library.{Library}
use Rattle.odd_library.specs.declared.refusal.OddRefusal.TheVariants as refusal
use Rattle.odd_text.specs.declared.offence.Offence.{Offence}
use Rattle.odd_modes.specs.Offences.{IsFirstOffence, Offends}
use Rattle.odd_modes.proofs.stepping.step.Goals as goal

pub returns-clause-sound : goal.returns-clause-sound
returns-clause-sound c = subst (λ (l : Library). IsOk c.step_into.result → (place rule : ℕ) → Offends l c.args.doc.now place rule → ⊥) c.in_ok-copy.ensures c.step_into.ensures.sound

pub returns-clause-offence : goal.returns-clause-offence
returns-clause-offence c =
    subst (λ (l : Library). (offence : Offence) → c.step_into.result ≡ Err (refusal.Offence offence) → IsFirstOffence (Offends l c.args.doc.now) c.args.file offence) c.in_ok-copy.ensures
    c.step_into.ensures.offence
