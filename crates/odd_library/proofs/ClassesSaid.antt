-- What a `classes` gives is what the last `memberOf` of each class says.
use Rattle.std.proofs.Common.{◌≡◌, ℕ, Bool, true, false, if◌then◌else◌, List, [], ◌∷◌, Some, None, refl, ap, subst, codes}
use Rattle.std.proofs.lemmas.Option.{none-some}
use Rattle.std.specs.FinMap.{put}
use Rattle.odd_text.specs.Text.{text_cmp}
use Rattle.odd_tree.specs.Elements.{children_of, given}
use Rattle.odd_tree.specs.declared.tree.Tree.{Tree}
use Rattle.odd_forms.specs.Names.{is_one_of}
use Rattle.odd_content.proofs.SaidEach.{says_each, words_put}
use Rattle.odd_content.specs.Said.{SaysEach}
use Rattle.odd_library.specs.Members.{IsMembershipOf, SaysEachClass, adds, class_named, is_change, marks_of, with_child, with_mark}
use Rattle.odd_library.specs.declared.membership.Membership.{Membership}
use Rattle.odd_library.specs.declared.membership.Membership.TheVariants as membership

marks_said : (classes : Tree) → SaysEach class_named adds (children_of classes) (marks_of classes)
marks_said classes = says_each class_named adds with_child passes marks (children_of classes)
  where
    passes : (m : List (List ℕ × Bool)) (child : Tree) → class_named child ≡ None → with_child m child ≡ m
    passes m child = elim (is_one_of (codes "memberOf" ∷ []) child) as
        (λ b. (if b then given child (codes "key") else None) ≡ None → (if b then with_mark (given child (codes "key")) (adds child) m else m) ≡ m) [
          | true ↦ λ e. ap (λ o. with_mark o (adds child) m) e
          | false ↦ λ e. refl
        ]

    marks : (m : List (List ℕ × Bool)) (child : Tree) (key : List ℕ) → class_named child ≡ Some key → with_child m child ≡ put text_cmp key (adds child) m
    marks m child key = elim (is_one_of (codes "memberOf" ∷ []) child) as
        (λ b. (if b then given child (codes "key") else None) ≡ Some key → (if b then with_mark (given child (codes "key")) (adds child) m else m) ≡ put text_cmp key (adds child) m) [
          | true ↦ λ e. ap (λ o. with_mark o (adds child) m) e
          | false ↦ λ e. absurd (none-some key e)
        ]

-- a change has these marks
is_changed : (b : Bool) (marks others : List (List ℕ × Bool)) (words : List (List ℕ)) → membership.Change others ≡ (if b then membership.Change marks else membership.Replace words) → marks ≡ others
is_changed true marks others words e = cc
is_changed false marks others words e = cc

pub class_said : (classes : Tree) (made : Membership) → IsMembershipOf classes made → SaysEachClass classes made
class_said classes (membership.Replace words) h = words_put class_named adds (children_of classes) (marks_of classes) words (marks_said classes) h.set
class_said classes (membership.Change others) h =
    subst (SaysEach class_named adds (children_of classes)) (is_changed (is_change classes) (marks_of classes) others _ h.value) (marks_said classes)
