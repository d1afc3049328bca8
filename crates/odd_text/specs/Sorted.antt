-- Lists in rising order, each item once.
use Rattle.std.specs.Prelude.{◌≡◌, List, [], ◌∷◌, ◌++◌, if◌then◌else◌}
use Rattle.std.specs.Ordering.{is_eq, is_gt}
use Rattle.std.specs.declared.cmp.Ordering.{Ordering}
use Rattle.std.specs.declared.cmp.Ordering.TheVariants.{Less}
use Rattle.odd_text.specs.Standing.{StandsIn}

-- each item is below the next
abbrev pub AreRising : {A : Type 0} → (A → A → Ordering) → List A → Type 0
AreRising {A} order items = (before after : List A) (item next : A) → items ≡ before ++ item ∷ (next ∷ after) → order item next ≡ Less

-- what is such, in rising order, each once, and nothing else
pub record IsSet {A : Type 0} (order : A → A → Ordering) (Is : A → Type 0) (items : List A) : Type 0 where
  pub rising : AreRising order items
  pub none_else : (item : A) → StandsIn items item → Is item
  pub each : (item : A) → Is item → StandsIn items item

-- the item among items in rising order, once
abbrev pub inserted : {A : Type 0} → (A → A → Ordering) → A → List A → List A
inserted order item [] = item ∷ []
inserted order item (x ∷ xs) = if is_gt (order item x) then x ∷ inserted order item xs else if is_eq (order item x) then x ∷ xs else item ∷ (x ∷ xs)

-- the items in rising order, each once
abbrev pub set_of : {A : Type 0} → (A → A → Ordering) → List A → List A
set_of order [] = []
set_of order (x ∷ xs) = inserted order x (set_of order xs)
