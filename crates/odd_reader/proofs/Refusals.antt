-- Why a token is refused.
use Rattle.std.proofs.Common.{◌≡◌, ◌⊎◌, ⊎_elim, ℕ, Err}
use Rattle.odd_reader.specs.Building.{Built}
use Rattle.odd_reader.specs.Reading.{refusal_of_misfit}
use Rattle.odd_reader.specs.declared.misfit.Misfit.{Misfit}
use Rattle.odd_reader.specs.declared.misfit.Misfit.TheVariants as misfit
use Rattle.odd_reader.specs.declared.reader.ReadRefusal.TheVariants as refusal

pub misplaced_so : (at place : ℕ) (m : Misfit) (b : Built) → refusal_of_misfit at m ≡ refusal.NotXml place → (m ≡ misfit.NoMemory) ⊎ (b ≡ Err m) → (b ≡ Err misfit.Misplaced) × (at ≡ place)
misplaced_so at place misfit.Misplaced b e f = (⊎_elim (λ g. cc) (λ g. g) f, cc)
misplaced_so at place misfit.TooDeep b e f = cc
misplaced_so at place misfit.NoMemory b e f = cc

pub too_deep_so : (at place : ℕ) (m : Misfit) (b : Built) → refusal_of_misfit at m ≡ refusal.TooDeep place → (m ≡ misfit.NoMemory) ⊎ (b ≡ Err m) → (b ≡ Err misfit.TooDeep) × (at ≡ place)
too_deep_so at place misfit.Misplaced b e f = cc
too_deep_so at place misfit.TooDeep b e f = (⊎_elim (λ g. cc) (λ g. g) f, cc)
too_deep_so at place misfit.NoMemory b e f = cc
