-- The memberships of a component: what a declaration gives, laid over what it had (TEI Guidelines, the chapter Documentation Elements).
use Rattle.std.specs.Prelude.{◌≡◌, ℕ, Bool, List, [], Option, Some, None, unwrap_or, refl}
use Rattle.std.proofs.Common.{ap}
use Rattle.odd_overlay.specs.Marks.{IsWordAfter, marks_joined, marks_regrouped, words_laid, words_one_by_one}
use Rattle.odd_overlay.specs.Overlaid.{joined_at}
use Rattle.odd_library.specs.declared.membership.Membership.{Membership}
use Rattle.odd_library.specs.declared.membership.Membership.TheVariants as membership

-- the classes with some added and some taken away, in rising order, each once
abbrev pub changed : List (List ℕ × Bool) → List (List ℕ) → List (List ℕ)
changed marks before = words_laid marks before

-- so a class is one of them exactly where it was one and is not taken away, or is added
abbrev pub IsClassAfter : List (List ℕ × Bool) → List (List ℕ) → List ℕ → Type 0
IsClassAfter marks before class = IsWordAfter marks before class

abbrev pub laid_over : Membership → List (List ℕ) → List (List ℕ)
laid_over (membership.Replace words) before = words
laid_over (membership.Change marks) before = changed marks before

-- where nothing is given, what it had
abbrev pub classes_over : Option Membership → List (List ℕ) → List (List ℕ)
classes_over None before = before
classes_over (Some given) before = laid_over given before

-- two as one: those that replace stand alone, and a change after them changes them
abbrev pub membership_joined : Membership → Membership → Membership
membership_joined a (membership.Replace words) = membership.Replace words
membership_joined (membership.Replace words) (membership.Change marks) = membership.Replace (changed marks words)
membership_joined (membership.Change before) (membership.Change marks) = membership.Change (marks_joined before marks)

-- what one makes of the classes that there were; where there were none, of no class
abbrev pub membership_laid : Membership → Option (List (List ℕ)) → Option (List (List ℕ))
membership_laid given before = Some (laid_over given (unwrap_or before []))

laid_twice : (a b : Membership) (before : List (List ℕ)) → laid_over b (laid_over a before) ≡ laid_over (membership_joined a b) before
laid_twice a (membership.Replace words) before = refl
laid_twice (membership.Replace words) (membership.Change marks) before = refl
laid_twice (membership.Change first) (membership.Change marks) before = words_one_by_one first marks before

-- to lay one and then another is to lay the two as one
pub membership_one_by_one : (a b : Membership) (x : Option (List (List ℕ))) → membership_laid b (membership_laid a x) ≡ membership_laid (membership_joined a b) x
membership_one_by_one a b x = ap Some (laid_twice a b (unwrap_or x []))

-- and so where they may be given
pub classes_twice : (a b : Option Membership) (before : List (List ℕ)) → classes_over b (classes_over a before) ≡ classes_over (joined_at membership_joined a b) before
classes_twice None b before = refl
classes_twice (Some a) None before = refl
classes_twice (Some a) (Some b) before = laid_twice a b before

-- three are one, however they are grouped
pub membership_regrouped : (a b c : Membership) → membership_joined (membership_joined a b) c ≡ membership_joined a (membership_joined b c)
membership_regrouped a b (membership.Replace words) = refl
membership_regrouped a (membership.Replace words) (membership.Change marks) = refl
membership_regrouped (membership.Replace words) (membership.Change before) (membership.Change marks) = ap membership.Replace (words_one_by_one before marks words)
membership_regrouped (membership.Change first) (membership.Change before) (membership.Change marks) = ap membership.Change (marks_regrouped first before marks)
