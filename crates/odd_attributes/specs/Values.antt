-- Lists of values, and edits of them.
use Rattle.std.specs.Prelude.{◌≡◌, Bool, ℕ, List, Option, Some, None, unwrap_or, refl}
use Rattle.std.proofs.Common.{ap}
use Rattle.odd_overlay.specs.Tabled.{or_else}
use Rattle.odd_overlay.specs.Marks.{marks_joined, marks_regrouped, words_laid, words_one_by_one}
use Rattle.rng_types.specs.declared.val_list.ListKind.{ListKind}
use Rattle.rng_types.specs.declared.val_list.ValList.{ValList}
use Rattle.odd_attributes.specs.declared.val_edit.ValEdit.{ValEdit}
use Rattle.odd_attributes.specs.declared.val_edit.ValEdit.TheVariants.{Set, Change, Delete}

pub or_else_assoc : {A : Type 0} (a b c : Option A) → or_else a (or_else b c) ≡ or_else (or_else a b) c
or_else_assoc None b c = refl
or_else_assoc (Some x) b c = refl

pub unwrap_or_else : {A : Type 0} (a b : Option A) (x : A) → unwrap_or a (unwrap_or b x) ≡ unwrap_or (or_else a b) x
unwrap_or_else None b x = refl
unwrap_or_else (Some y) b x = refl

-- the list with the type put where it is given, and values put in and taken out
abbrev pub val_changed : Option ListKind → List (List ℕ × Bool) → ValList → ValList
val_changed kind marks list = record { kind = unwrap_or kind list.kind; values = words_laid marks list.values }

-- two edits of a list as one
abbrev pub val_joined : ValEdit → ValEdit → ValEdit
val_joined a (Set list) = Set list
val_joined a Delete = Delete
val_joined (Set list) (Change kind marks) = Set (val_changed kind marks list)
val_joined (Change k m) (Change kind marks) = Change (or_else kind k) (marks_joined m marks)
val_joined Delete (Change kind marks) = Delete

-- what an edit makes of a list, or of none
abbrev pub val_laid : ValEdit → Option ValList → Option ValList
val_laid (Set list) there = Some list
val_laid Delete there = None
val_laid (Change kind marks) None = None
val_laid (Change kind marks) (Some list) = Some (val_changed kind marks list)

-- to change a list twice is to change it once by both
changed_twice : (k l : Option ListKind) (m n : List (List ℕ × Bool)) (list : ValList) → val_changed l n (val_changed k m list) ≡ val_changed (or_else l k) (marks_joined m n) list
changed_twice k l m n list = λ i. record { kind = unwrap_or_else l k list.kind i; values = words_one_by_one m n list.values i }

-- to lay one edit and then another is to lay the two as one
pub val_one_by_one : (a b : ValEdit) (x : Option ValList) → val_laid b (val_laid a x) ≡ val_laid (val_joined a b) x
val_one_by_one a (Set list) x = refl
val_one_by_one a Delete x = refl
val_one_by_one (Set list) (Change kind marks) x = refl
val_one_by_one Delete (Change kind marks) x = refl
val_one_by_one (Change k m) (Change kind marks) None = refl
val_one_by_one (Change k m) (Change kind marks) (Some list) = ap Some (changed_twice k kind m marks list)

-- three edits are one, however they are grouped
pub val_regrouped : (a b c : ValEdit) → val_joined (val_joined a b) c ≡ val_joined a (val_joined b c)
val_regrouped a b (Set list) = refl
val_regrouped a b Delete = refl
val_regrouped a (Set list) (Change kind marks) = refl
val_regrouped a Delete (Change kind marks) = refl
val_regrouped (Set list) (Change k m) (Change kind marks) = ap Set (changed_twice k kind m marks list)
val_regrouped (Change l n) (Change k m) (Change kind marks) = λ i. Change (or_else_assoc kind k l i) (marks_regrouped n m marks i)
val_regrouped Delete (Change k m) (Change kind marks) = refl
