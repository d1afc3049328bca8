-- The lesser of two values, of which each may be absent.
use Rattle.std.specs.Ordering.{ord_min}
use Rattle.std.specs.declared.cmp.Ordering.{Ordering}
use Rattle.std.specs.Prelude.{Option, Some, None}

abbrev pub lesser_of : {A : Type 0} → (A → A → Ordering) → Option A → Option A → Option A
lesser_of cmp None other = other
lesser_of cmp (Some one) None = Some one
lesser_of cmp (Some one) (Some other) = Some (ord_min cmp one other)
