-- Where the elements of an ODD file stand, and the search for those of some names.
use Rattle.std.specs.Prelude.{◌≡◌, ℕ, ◌&&◌, not, Bool, true, false, List, [], ◌∷◌, ◌++◌, map, if◌then◌else◌, codes}
use Rattle.odd_text.specs.declared.name.Bind.{Bind}
use Rattle.odd_tree.specs.Elements.{children_of, within}
use Rattle.odd_tree.specs.declared.tree.Tree.{Tree}
use Rattle.odd_forms.specs.Names.{is_one_of, is_tei}

-- an element, and the declarations of the elements around it
pub record Found : Type 0 where
  pub around : List Bind
  pub element : Tree

-- the children of an element, with what is declared around them
abbrev pub children_found : Found → List Found
children_found f = map (λ c. record { around = within f.around f.element; element = c }) (children_of f.element)

-- The search goes through TEI's elements, and never into a `constraintSpec`: what stands in one is no part of the file's declarations.
abbrev pub is_searched : Tree → Bool
is_searched t = is_tei t && not (is_one_of (codes "constraintSpec" ∷ []) t)

-- the element itself, where it has one of the names
abbrev pub own : List (List ℕ) → List Bind → Tree → List Found
own names around t = if is_one_of names t then record { around = around; element = t } ∷ [] else []

module _ (names : List (List ℕ)) (outermost : Bool) where
  mutual
    -- every element of one of these names in the element, itself and all around it searched, in document order; or of these the outermost alone
    pub data Finds : List Bind → Tree → List Found → Type 0 where
      passed : {around : List Bind} {t : Tree} → is_searched t ≡ false → Finds around t []
      outer : {around : List Bind} {t : Tree} → is_searched t ≡ true → outermost ≡ true → is_one_of names t ≡ true → Finds around t (record { around = around; element = t } ∷ [])
      through : {around : List Bind} {t : Tree} {found : List Found} (inner : List Found) → is_searched t ≡ true → (outermost && is_one_of names t) ≡ false
          → FindsAmong (within around t) (children_of t) inner → found ≡ own names around t ++ inner → Finds around t found

    pub data FindsAmong : List Bind → List Tree → List Found → Type 0 where
      nothing : {around : List Bind} → FindsAmong around [] []
      element : {around : List Bind} {t : Tree} {ts : List Tree} {found : List Found} (first later : List Found) → Finds around t first → FindsAmong around ts later
          → found ≡ first ++ later → FindsAmong around (t ∷ ts) found
