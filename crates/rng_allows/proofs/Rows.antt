-- Patterns of values by their parts: what a choice and a list allow, and when they are formed.
use Rattle.std.proofs.Common.{◌≡◌, ◌↔◌, ◌∙◌, ℕ, zero, suc, Bool, true, false, List, [], ◌∷◌, IsTrue, All, inl, inr, refl, sym, ap, subst, arith}
use denote.Hole.Carrier.{hidden}
use Rattle.rng_types.specs.Words.{words_of}
use Rattle.rng_allows.specs.Allowed.{AllowedBy, AreMatched, HasMarks, WordPattern}
use Rattle.rng_allows.specs.Formed.{AreFormedValues, IsFormedValue}
use Rattle.rng_allows.specs.Marked.{AreWordsAllowed, IsMarked}
use Rattle.rng_allows.specs.declared.value_pattern.ValuePattern.{ValuePattern, Row_of-ValuePattern, end_of-ValuePattern, more_of-ValuePattern, items-the_row-ValuePattern, items_hidden-the_row-ValuePattern-1}
use Rattle.rng_allows.specs.declared.value_pattern.ValuePattern.TheBlock.{hidden-the_row-ValuePattern-0, hidden-the_row-ValuePattern-1}
use Rattle.rng_allows.specs.declared.value_pattern.ValuePattern.TheVariants as value

-- the marks of a word for the leaves in a row are those for its list
marks_listed : {n : _} (row : Row_of-ValuePattern n) (word : List ℕ) (marks : List Bool) → HasMarks row word marks ≡ IsMarked (items-the_row-ValuePattern n row) word marks
marks_listed end_of-ValuePattern word [] = refl
marks_listed end_of-ValuePattern word (mark ∷ marks) = refl
marks_listed (more_of-ValuePattern leaf row) word [] = refl
marks_listed (more_of-ValuePattern leaf row) word (mark ∷ marks) = ap (λ T. (IsTrue mark ↔ AllowedBy leaf word) × T) (marks_listed row word marks)

-- so those for the leaves of a block are
marks_of_leaves : (leaves : List ValuePattern) → HasMarks (hidden-the_row-ValuePattern-1 leaves) ≡ IsMarked leaves
marks_of_leaves leaves = (λ i word marks. marks_listed (hidden-the_row-ValuePattern-1 leaves) word marks i) ∙ ap IsMarked (items_hidden-the_row-ValuePattern-1 leaves)

-- a list of words is allowed where its leaves and its pattern allow them
pub list_allows : (leaves : List ValuePattern) (pat : WordPattern) (cs : List ℕ) → AllowedBy (value.List leaves pat) cs ≡ AreWordsAllowed leaves pat (words_of cs)
list_allows leaves pat cs = ap (λ Marked. AreMatched Marked pat (words_of cs)) (marks_of_leaves leaves)

-- the values in a row that are formed are formed in its list
formed_listed : {n : _} (row : Row_of-ValuePattern n) → AreFormedValues row → All IsFormedValue (items-the_row-ValuePattern n row)
formed_listed end_of-ValuePattern h k d lt = let no : ⊥ = omega arith in absurd no
formed_listed (more_of-ValuePattern one row) h zero d lt = h.0
formed_listed (more_of-ValuePattern one row) h (suc k) d lt = formed_listed row h.1 k d (omega arith)

-- so are the leaves of a list
pub leaves_formed : (v : ValuePattern) (leaves : List ValuePattern) (pat : WordPattern) → v ≡ value.List leaves pat → IsFormedValue v → All IsFormedValue leaves
leaves_formed v leaves pat is h =
    subst (λ xs. All IsFormedValue xs) (items_hidden-the_row-ValuePattern-1 leaves) (formed_listed (hidden-the_row-ValuePattern-1 leaves) (subst IsFormedValue is h))

-- the values in a row are formed where those in its list are
formed_row : {n : _} (row : Row_of-ValuePattern n) → All IsFormedValue (items-the_row-ValuePattern n row) → AreFormedValues row
formed_row end_of-ValuePattern h = tt
formed_row (more_of-ValuePattern one row) h = (h zero one (omega arith), formed_row row (λ i d lt. h (suc i) d (omega arith)))

-- so a list of formed leaves is formed
pub list_formed : (leaves : List ValuePattern) (pat : WordPattern) → All IsFormedValue leaves → IsFormedValue (value.List leaves pat)
list_formed leaves pat h = formed_row (hidden-the_row-ValuePattern-1 leaves) (subst (λ xs. All IsFormedValue xs) (sym (items_hidden-the_row-ValuePattern-1 leaves)) h)

-- the sides of a choice are formed where it is

pub left_formed : (v p q left : ValuePattern) → v ≡ value.Choice p q → left ≡ p → IsFormedValue v → IsFormedValue left
unfolding hidden-the_row-ValuePattern-0 hidden
left_formed v p q left is l h = let both = subst IsFormedValue is h in subst IsFormedValue (sym l) both.0

pub right_formed : (v p q right : ValuePattern) → v ≡ value.Choice p q → right ≡ q → IsFormedValue v → IsFormedValue right
unfolding hidden-the_row-ValuePattern-0 hidden
right_formed v p q right is r h = let both = subst IsFormedValue is h in subst IsFormedValue (sym r) both.1

-- and it is where they are
pub choice_formed : (p q : ValuePattern) → IsFormedValue p → IsFormedValue q → IsFormedValue (value.Choice p q)
unfolding hidden-the_row-ValuePattern-0 hidden
choice_formed p q one other = (one, other)

module _ (cs : List ℕ) where
  -- the test tells whether the value is allowed
  abbrev pub Tells : Bool → ValuePattern → Type 0
  Tells said v = IsTrue said ↔ AllowedBy v cs

  -- a choice whose left side allows it
  pub choice_then : (v p q left : ValuePattern) (first : Bool) → v ≡ value.Choice p q → left ≡ p → first ≡ true → Tells first left → Tells true v
  unfolding hidden-the_row-ValuePattern-0 hidden
  choice_then v p q left first is l holds b =
      let known = subst (Tells first) l b in
      subst (Tells true) (sym is) (λ t. inl (known.0 holds), λ m. refl)

  -- and one whose left side doesn't
  pub choice_else : (v p q left right : ValuePattern) (first second : Bool) → v ≡ value.Choice p q → left ≡ p → right ≡ q → first ≡ false → Tells first left
      → Tells second right → Tells second v
  unfolding hidden-the_row-ValuePattern-0 hidden
  choice_else v p q left right first second is l r fails a b =
      let known = subst (Tells first) l a in
      let last = subst (Tells second) r b in
      subst (Tells second) (sym is) (λ t. inr (last.0 t), λ m. elim m [ inl x ↦ let holds = known.1 x in cc | inr y ↦ last.1 y ])
