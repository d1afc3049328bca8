-- Words in pieces, which may be empty.
use Rattle.std.specs.Prelude.{◌≡◌, List, [], ◌∷◌, ◌++◌}
use Rattle.std.specs.List.{AllByRecursion}

-- the pieces, joined in order
abbrev pub joined : {S : Type 0} → List (List S) → List S
joined [] = []
joined (w ∷ ws) = w ++ joined ws

-- a piece that P holds of, and then one that Q holds of
abbrev pub Then : {S : Type 0} → (List S → Type 0) → (List S → Type 0) → List S → Type 0
Then {S} P Q w = (u : List S) × (v : List S) × (w ≡ u ++ v) × P u × Q v

-- one or more pieces that P holds of
abbrev pub Repeated : {S : Type 0} → (List S → Type 0) → List S → Type 0
Repeated {S} P w = (first : List S) × (others : List (List S)) × (w ≡ joined (first ∷ others)) × P first × AllByRecursion P others
