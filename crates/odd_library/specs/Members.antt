-- The memberships that a `classes` gives by its `memberOf`, and what it breaks.
use Rattle.std.specs.Prelude.{◌≡◌, ℕ, Bool, not, List, [], ◌∷◌, Option, Some, None, codes, unwrap_or, if◌then◌else◌}
use Rattle.std.specs.FinMap.{put}
use Rattle.std.specs.List.{fold}
use Rattle.odd_text.specs.Text.{text_cmp}
use Rattle.odd_text.specs.Same.{is_same}
use Rattle.odd_tree.specs.Elements.{children_of, given}
use Rattle.odd_tree.specs.declared.tree.Tree.{Tree}
use Rattle.odd_forms.specs.Deep.{DeepFault}
use Rattle.odd_forms.specs.Names.{is_one_of}
use Rattle.odd_text.specs.Sorted.{IsSet}
use Rattle.odd_forms.specs.declared.element.Element.TheVariants as element
use Rattle.odd_overlay.specs.Marks.{IsWordAfter, words_laid}
use Rattle.odd_content.specs.Said.{IsPutIn, SaysEach}
use Rattle.odd_library.specs.declared.membership.Membership.{Membership}
use Rattle.odd_library.specs.declared.membership.Membership.TheVariants as membership

-- a `classes` replaces the memberships, where its `mode` says nothing else
abbrev pub is_change : Tree → Bool
is_change classes = is_same (unwrap_or (given classes (codes "mode")) (codes "replace")) (codes "change")

-- a `memberOf` adds its class, where its `mode` says nothing else
abbrev pub adds : Tree → Bool
adds member = not (is_same (unwrap_or (given member (codes "mode")) (codes "add")) (codes "delete"))

-- the class that a child names, where it is a `memberOf`
abbrev pub class_named : Tree → Option (List ℕ)
class_named child = if is_one_of (codes "memberOf" ∷ []) child then given child (codes "key") else None

-- the marks with that of a class
abbrev pub with_mark : Option (List ℕ) → Bool → List (List ℕ × Bool) → List (List ℕ × Bool)
with_mark None is_added marks = marks
with_mark (Some key) is_added marks = put text_cmp key is_added marks

-- the marks with that of a child, where it is a `memberOf`
abbrev pub with_child : List (List ℕ × Bool) → Tree → List (List ℕ × Bool)
with_child marks child = if is_one_of (codes "memberOf" ∷ []) child then with_mark (given child (codes "key")) (adds child) marks else marks

-- the classes that the `memberOf` of a `classes` name, and whether they are added
abbrev pub marks_of : Tree → List (List ℕ × Bool)
marks_of classes = fold with_child [] (children_of classes)

-- the memberships that a `classes` gives: to replace is to change none
abbrev pub membership_of : Tree → Membership
membership_of classes = if is_change classes then membership.Change (marks_of classes) else membership.Replace (words_laid (marks_of classes) [])

-- the words of a membership by replacement are in rising order, each once: those that the marks add, and nothing else
abbrev pub IsSetOf : List (List ℕ × Bool) → Membership → Type 0
IsSetOf marks (membership.Replace words) = IsSet text_cmp (IsWordAfter marks []) words
IsSetOf marks (membership.Change others) = Unit {0}

-- each class is a member or not as the last `memberOf` of it says, and no class is named that no `memberOf` names
abbrev pub SaysEachClass : Tree → Membership → Type 0
SaysEachClass classes (membership.Replace words) = IsSet text_cmp (IsPutIn class_named adds (children_of classes)) words
SaysEachClass classes (membership.Change marks) = SaysEach class_named adds (children_of classes) marks

-- what a `classes` gives
pub record IsMembershipOf (classes : Tree) (made : Membership) : Type 0 where
  pub value : made ≡ membership_of classes
  pub set : IsSetOf (marks_of classes) made

-- what it breaks, which the declarations around it do not touch
abbrev pub ClassesFault : Tree → ℕ → Type 0
ClassesFault classes = DeepFault element.Classes 60 [] classes
