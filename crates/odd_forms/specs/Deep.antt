-- What an element of the table breaks, in itself and in the children that may stand there, at any depth. At most 60 levels stand in one another.
use Rattle.std.specs.Prelude.{◌≡◌, ℕ, ◌-◌, Bool, true, false, if◌then◌else◌, nat_le, count_by, is_some, List, ◌⊎◌}
use Rattle.odd_text.specs.declared.name.Bind.{Bind}
use Rattle.odd_text.specs.Standing.{StandsIn}
use Rattle.odd_tree.specs.Elements.{children_of, within}
use Rattle.odd_tree.specs.declared.tree.Tree.{Tree}
use Rattle.odd_forms.specs.Children.{IsChild}
use Rattle.odd_forms.specs.Faults.{ChildFault, FormFault, child_in}
use Rattle.odd_forms.specs.Form.{Form}
use Rattle.odd_forms.specs.Table.{form_at}
use Rattle.odd_forms.specs.declared.element.Element.{Element}
use Rattle.odd_forms.specs.declared.form.Level.{Level}
use Rattle.odd_forms.specs.declared.form.Level.TheVariants as level

-- several of the children may stand there
abbrev pub has_several : Form → Tree → Bool
has_several form t = nat_le 2 (count_by (λ child. is_some (child_in form child)) (children_of t))

-- the element is a level
abbrev pub level_by : Level → Form → Tree → Bool
level_by level.Never form t = false
level_by level.Always form t = true
level_by level.OfSeveral form t = has_several form t

abbrev pub is_level : Form → Tree → Bool
is_level form t = level_by form.level form t

-- how many levels may still open inside
abbrev pub left_inside : Bool → ℕ → ℕ
left_inside is_level left = if is_level then left - 1 else left

-- what an element breaks under the declarations around it, where so many levels may still open
pub data DeepFault : Element → ℕ → List Bind → Tree → ℕ → Type 0 where
  itself : {e : Element} {left rule : ℕ} {around : List Bind} {t : Tree} → FormFault (form_at e) (within around t) t rule → DeepFault e left around t rule
  deep : {e : Element} {left : ℕ} {around : List Bind} {t : Tree} → is_level (form_at e) t ≡ true → left ≡ 0 → DeepFault e left around t 2
  inside : {e : Element} {left rule : ℕ} {around : List Bind} {t : Tree} (kind : Element) (child : Tree) → StandsIn (children_of t) child → IsChild e kind child
      → DeepFault kind (left_inside (is_level (form_at e) t) left) (within around t) child rule → DeepFault e left around t rule

-- what a child breaks: by standing there, or itself, where it may
abbrev pub PlacedFault : Element → ℕ → List Bind → Tree → ℕ → Type 0
PlacedFault parent left binds child rule = ChildFault (form_at parent) child rule ⊎ ((kind : Element) × IsChild parent kind child × DeepFault kind left binds child rule)
