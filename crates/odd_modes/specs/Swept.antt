-- What is left where acts are laid over a table in one sweep.
use Rattle.std.specs.Prelude.{List, [], ◌∷◌, ◌++◌, Option, Some, None}
use Rattle.std.specs.FinMap.Entries.{by_order}
use Rattle.std.specs.declared.cmp.Ordering.{Ordering}
use Rattle.odd_modes.specs.declared.sweeping.Act.{Act}
use Rattle.odd_modes.specs.declared.sweeping.Act.TheVariants.{Keep, Put}

-- what an act, or none, leaves of what is held
abbrev pub swept_at : {E X : Type 0} → (E → Option X → Option X) → Option (Act E) → Option X → Option X
swept_at laid None x = None
swept_at laid (Some Keep) x = x
swept_at laid (Some (Put e)) x = laid e x

-- the value put at the end, where there is one
abbrev pub pushed : {K V : Type 0} → List (K × V) → K → Option V → List (K × V)
pushed m k None = m
pushed m k (Some v) = m ++ (k, v) ∷ []

-- the pairs below the key go, and the value at the key is taken
abbrev pub value_taken : {K V : Type 0} → (K → K → Ordering) → K → List (K × V) → Option V
value_taken order k [] = None
value_taken order k (e ∷ es) = by_order (order e.0 k) (value_taken order k es) (Some e.1) None

abbrev pub rest_taken : {K V : Type 0} → (K → K → Ordering) → K → List (K × V) → List (K × V)
rest_taken order k [] = []
rest_taken order k (e ∷ es) = by_order (order e.0 k) (rest_taken order k es) es (e ∷ es)
