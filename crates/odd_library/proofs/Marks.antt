-- The marks that the children of a `classes` give, one after the other.
use Rattle.std.proofs.Common.{◌≡◌, Bool, true, false, List, [], ◌∷◌, sym, ap, ◌∙◌, Option, ℕ, fold, if◌then◌else◌}
use Rattle.std.specs.Prelude.{codes}
use Rattle.odd_tree.specs.Elements.{given}
use Rattle.odd_tree.specs.declared.tree.Tree.{Tree}
use Rattle.odd_forms.specs.Names.{is_one_of}
use Rattle.odd_library.specs.Members.{adds, with_child, with_mark}

-- a child is passed that gives these marks
pub child_passed : (marks new all : List (List ℕ × Bool)) (rest later : List Tree) (child : Tree) → fold with_child marks rest ≡ all → rest ≡ child ∷ later → with_child marks child ≡ new
    → fold with_child new later ≡ all
child_passed marks new all rest later child before is e = ap (λ m. fold with_child m later) (sym e) ∙ sym (ap (fold with_child marks) is) ∙ before

-- the marks with that of a `memberOf`
pub member_marks : (marks : List (List ℕ × Bool)) (child : Tree) (key : Option (List ℕ)) → is_one_of (codes "memberOf" ∷ []) child ≡ true → given child (codes "key") ≡ key
    → with_child marks child ≡ with_mark key (adds child) marks
member_marks marks child key is told = ap (λ b. if b then with_mark (given child (codes "key")) (adds child) marks else marks) is ∙ ap (λ k. with_mark k (adds child) marks) told

-- and with another child
pub other_marks : (marks : List (List ℕ × Bool)) (child : Tree) → is_one_of (codes "memberOf" ∷ []) child ≡ false → with_child marks child ≡ marks
other_marks marks child is = ap (λ b. if b then with_mark (given child (codes "key")) (adds child) marks else marks) is
