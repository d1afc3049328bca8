-- Which children a leaf takes.
use Rattle.std.specs.Prelude.{◌≡◌, ℕ, ◌==◌, Bool, true, false, List, slice_get, unwrap_or}
use Rattle.std.proofs.Common.{ap}
use Rattle.std.proofs.lemmas.Bool.{eqb-true, false≢true}
use Rattle.odd_patterns.specs.declared.children.ChildLeaf.{ChildLeaf}
use Rattle.odd_patterns.specs.declared.children.ChildLeaf.TheVariants as leaf
use Rattle.odd_patterns.specs.declared.children.ChildSymbol.{ChildSymbol}
use Rattle.odd_patterns.specs.declared.children.ChildSymbol.TheVariants as symbol

-- whether a label is on. One past the marks is off
abbrev pub is_marked : List Bool → ℕ → Bool
is_marked marks number = unwrap_or (slice_get marks number) false

-- a text for text, and for a label an element that has it
abbrev pub admits_child : ChildLeaf → ChildSymbol → Bool
admits_child leaf.Text symbol.Text = true
admits_child leaf.Text (symbol.Element marks) = false
admits_child (leaf.Label number) symbol.Text = false
admits_child (leaf.Label number) (symbol.Element marks) = is_marked marks number

-- equal leaves are one

pub label_exact : (m n : ℕ) → m == n ≡ true → leaf.Label m ≡ leaf.Label n
label_exact m n e = ap (λ k. leaf.Label k) (eqb-true m n e)

pub unequal : {A : Type 0} → false ≡ true → A
unequal e = absurd (false≢true e)
