-- A sequence and an alternate, by the lists of their parts.
use Rattle.std.proofs.Common.{◌≡◌, ◌↔◌, ◌⊎◌, ℕ, zero, suc, List, [], ◌∷◌, subst, inl, inr}
use Rattle.odd_tree.specs.Significant.{Marking}
use Rattle.odd_tree.specs.Splits.{Counted, Pieces, Then}
use Rattle.odd_tree.specs.declared.tree.Node.{Node}
use Rattle.rng_types.specs.declared.bounds.Bounds.{Bounds}
use Rattle.odd_content.specs.declared.content.Content.{Content, Sequence, Alternate, Row_of-Content, end_of-Content, more_of-Content, items-the_row-Content, items_hidden-the_row-Content-0}
use Rattle.odd_content.specs.declared.content.Content.TheBlock.{hidden-the_row-Content-0}
use Rattle.odd_library.specs.declared.library.Library.{Library}
use Rattle.odd_meaning.specs.Contents.{AdmitsBy, ByOne, InOrder, IsWithin, Macros}
use Rattle.odd_meaning.specs.Labels.{Label}

-- one piece a part, in order
abbrev pub EachInOrder : (Content → List Node → Type 0) → List Content → List Node → Type 0
EachInOrder P [] w = w ≡ []
EachInOrder P (part ∷ parts) w = Then (P part) (EachInOrder P parts) w

-- what one part admits
abbrev pub OneOf : (Content → List Node → Type 0) → List Content → List Node → Type 0
OneOf P [] w = ⊥
OneOf P (part ∷ parts) w = P part w ⊎ OneOf P parts w

pieces_weaker : {C : Type 0} (P Q : List C → Type 0) → ((w : List C) → P w → Q w) → (n : ℕ) (w : List C) → Pieces P n w → Pieces Q n w
pieces_weaker P Q to zero w h = h
pieces_weaker P Q to (suc n) w h = record { left = h.left; right = h.right; split = h.split; first = to h.left h.first; second = pieces_weaker P Q to n h.right h.second }

-- pieces that are of the same kind
counted_same : {C : Type 0} (Allowed : ℕ → Type 0) (P Q : List C → Type 0) → ((w : List C) → P w ↔ Q w) → (w : List C) → Counted Allowed P w ↔ Counted Allowed Q w
counted_same Allowed P Q same w = (
  λ h. record { count = h.count; allowed = h.allowed; pieces = pieces_weaker P Q (λ v. (same v).0) h.count w h.pieces },
  λ h. record { count = h.count; allowed = h.allowed; pieces = pieces_weaker Q P (λ v. (same v).1) h.count w h.pieces },
)

module _ (macros : Macros) (library : Library) (m : Marking Label) where
  in_order_rows : {n : _} (row : Row_of-Content n) (w : List Node) → InOrder macros library m row w ↔ EachInOrder (AdmitsBy macros library m) (items-the_row-Content n row) w
  in_order_rows end_of-Content w = (λ h. h, λ h. h)
  in_order_rows (more_of-Content part row) w = (
    λ h. record { left = h.left; right = h.right; split = h.split; first = h.first; second = (in_order_rows row h.right).0 h.second },
    λ h. record { left = h.left; right = h.right; split = h.split; first = h.first; second = (in_order_rows row h.right).1 h.second },
  )

  by_one_rows : {n : _} (row : Row_of-Content n) (w : List Node) → ByOne macros library m row w ↔ OneOf (AdmitsBy macros library m) (items-the_row-Content n row) w
  by_one_rows end_of-Content w = (λ h. h, λ h. h)
  by_one_rows (more_of-Content part row) w = (
    λ h. elim h [ inl x ↦ inl x | inr y ↦ inr ((by_one_rows row w).0 y) ],
    λ h. elim h [ inl x ↦ inl x | inr y ↦ inr ((by_one_rows row w).1 y) ],
  )

  pub sequence_admits : (parts : List Content) (b : Bounds) (w : List Node) → AdmitsBy macros library m (Sequence parts b) w ↔ Counted (IsWithin b) (EachInOrder (AdmitsBy macros library m) parts) w
  sequence_admits parts b w =
      subst (λ cs. AdmitsBy macros library m (Sequence parts b) w ↔ Counted (IsWithin b) (EachInOrder (AdmitsBy macros library m) cs) w) (items_hidden-the_row-Content-0 parts)
      (counted_same (IsWithin b) _ _ (in_order_rows (hidden-the_row-Content-0 parts)) w)

  pub alternate_admits : (parts : List Content) (b : Bounds) (w : List Node) → AdmitsBy macros library m (Alternate parts b) w ↔ Counted (IsWithin b) (OneOf (AdmitsBy macros library m) parts) w
  alternate_admits parts b w =
      subst (λ cs. AdmitsBy macros library m (Alternate parts b) w ↔ Counted (IsWithin b) (OneOf (AdmitsBy macros library m) cs) w) (items_hidden-the_row-Content-0 parts)
      (counted_same (IsWithin b) _ _ (by_one_rows (hidden-the_row-Content-0 parts)) w)
