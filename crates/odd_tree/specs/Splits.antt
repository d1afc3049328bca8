-- Lists of children that are split into pieces. Pieces may be empty.
use Rattle.std.specs.Prelude.{◌≡◌, ℕ, zero, suc, List, [], ◌++◌}

-- a split of the list into two pieces, one of each
pub record Then {C : Type 0} (P Q : List C → Type 0) (w : List C) : Type 0 where
  pub left : List C
  pub right : List C
  pub split : w ≡ left ++ right
  pub first : P left
  pub second : Q right

-- a split of the list into so many pieces, each of P
abbrev pub Pieces : {C : Type 0} → (List C → Type 0) → ℕ → List C → Type 0
Pieces P zero w = w ≡ []
Pieces P (suc n) w = Then P (Pieces P n) w

-- a split of the list into a number of pieces that is allowed, each of P
pub record Counted {C : Type 0} (Allowed : ℕ → Type 0) (P : List C → Type 0) (w : List C) : Type 0 where
  pub count : ℕ
  pub allowed : Allowed count
  pub pieces : Pieces P count w
