-- A key above the last of a table.
use Rattle.std.specs.Prelude.{◌≡◌, List, [], ◌∷◌}
use Rattle.std.specs.declared.cmp.Ordering.{Ordering}
use Rattle.std.specs.declared.cmp.Ordering.TheVariants.{Less}

-- the key is above that of the last pair, where there is one
abbrev pub IsAboveLast : {K V : Type 0} → (K → K → Ordering) → List (K × V) → K → Type 0
IsAboveLast order [] key = Unit {0}
IsAboveLast order (e ∷ []) key = order e.0 key ≡ Less
IsAboveLast order (e ∷ f ∷ es) key = IsAboveLast order (f ∷ es) key
