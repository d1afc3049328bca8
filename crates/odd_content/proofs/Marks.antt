-- The values that a `valList` puts in and takes out, one child after the other.
use Rattle.std.proofs.Common.{◌≡◌, ℕ, Bool, false, not, ◌&&◌, List, ◌∷◌, Option, fold, map, refl, sym, ap, ◌∙◌}
use Rattle.std.specs.Prelude.{codes}
use Rattle.odd_tree.specs.declared.tree.Tree.{Tree, out-Tree}
use Rattle.odd_forms.specs.Tags.{tag_of}
use Rattle.odd_content.specs.Values.{has_mode, value_tagged, with_mark, with_value}

-- a child is passed that gives these marks
pub value_passed : (is_set : Bool) (marks new all : List (List ℕ × Bool)) (rest later : List Tree) (child : Tree) → fold (with_value is_set) marks (map tag_of rest) ≡ all → rest ≡ child ∷ later
    → with_value is_set marks (tag_of child) ≡ new → fold (with_value is_set) new (map tag_of later) ≡ all
value_passed is_set marks new all rest later child before is e =
    ap (λ m. fold (with_value is_set) m (map tag_of later)) (sym e) ∙ sym (ap (λ ts. fold (with_value is_set) marks (map tag_of ts)) is) ∙ before

-- a child that puts its value in, or takes it out
pub value_marks : (is_set : Bool) (marks : List (List ℕ × Bool)) (child : Tree) (value : Option (List ℕ)) → (not is_set && has_mode (codes "change") (out-Tree child).attrs) ≡ false
    → value_tagged (tag_of child) ≡ value → with_value is_set marks (tag_of child) ≡ with_mark value (not (has_mode (codes "delete") (out-Tree child).attrs)) marks
value_marks is_set marks child value other told = rw (other, told) refl
