-- What holds of the memberships that a `classes` gives which breaks no rule, and of the classes of a component.
use Rattle.std.specs.Prelude.{ℕ, Bool, List, All, IsTrue}
use Rattle.std.specs.FinMap.{is_sorted}
use Rattle.odd_text.specs.Text.{text_cmp}
use Rattle.odd_tokens.specs.Characters.{IsNCName}
use Rattle.odd_text.specs.Sorted.{AreRising}
use Rattle.odd_library.specs.declared.membership.Membership.{Membership}
use Rattle.odd_library.specs.declared.membership.Membership.TheVariants as membership

-- idents of classes in rising order, each once
abbrev pub AreClasses : List (List ℕ) → Type 0
AreClasses words = AreRising text_cmp words × All IsNCName words

-- a map from the idents of classes
abbrev pub AreClassMarks : List (List ℕ × Bool) → Type 0
AreClassMarks marks = IsTrue (is_sorted text_cmp marks) × All (λ (mark : List ℕ × Bool). IsNCName mark.0) marks

abbrev pub IsFormedMembership : Membership → Type 0
IsFormedMembership (membership.Replace words) = AreClasses words
IsFormedMembership (membership.Change marks) = AreClassMarks marks
