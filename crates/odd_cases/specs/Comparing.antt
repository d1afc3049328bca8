-- When an answer is the wanted one.
use Rattle.std.specs.Prelude.{◌≡◌, ◌<◌, ℕ, List, All, IsTrue, length, drop, nat_eq}
use Rattle.std.specs.List.{starts_with}
use Rattle.odd_cases.specs.declared.question.Wanted.{Wanted}
use Rattle.odd_cases.specs.declared.question.Wanted.TheVariants.{Whole, Holding}
use Rattle.odd_cases.specs.declared.question.Reply.{Reply}
use Rattle.odd_cases.specs.declared.comparing.Answer.{Answer}

-- the part stands in the bytes, from one of them on
unfoldable pub StandsIn : List ℕ → List ℕ → Type 0
StandsIn part bytes =
    (at : ℕ) × (at < length bytes) × IsTrue (starts_with nat_eq (drop at bytes) part)

abbrev pub HoldsEach : List (List ℕ) → List ℕ → Type 0
HoldsEach parts bytes = All (λ part. StandsIn part bytes) parts

-- the bytes are the wanted ones, or have each wanted part
abbrev pub IsWanted : Wanted → List ℕ → Type 0
IsWanted (Whole whole) bytes = whole ≡ bytes
IsWanted (Holding parts) bytes = HoldsEach parts.items bytes

-- the answer is the wanted one
abbrev pub IsAnswered : Reply → Answer → Type 0
IsAnswered reply answer =
    (reply.code ≡ answer.code) × IsWanted reply.note answer.note × IsWanted reply.out answer.out
