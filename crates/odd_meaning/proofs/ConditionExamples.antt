-- Which names and elements meet a condition.
use Rattle.std.proofs.Common.{◌≡◌, ⊎_elim, ℕ, List, [], ◌∷◌, ◌++◌, ◌⊎◌, inl, inr, refl, sym, ap, subst, ◌∙◌, codes}
use Rattle.odd_text.specs.declared.name.Name.{Name}
use Rattle.odd_content.specs.declared.content.Condition.{Condition}
use Rattle.odd_tree.proofs.InTree.{element_shown}
use Rattle.odd_text.proofs.InList.{nothing_stands, only_item, stands_first}
use Rattle.odd_text.specs.Standing.{StandsIn}
use Rattle.odd_tree.specs.Elements.{StandsWithin, children_of, inside, itself}
use Rattle.odd_tree.specs.declared.tree.Node.{Element}
use Rattle.odd_tree.specs.declared.tree.Tree.{Tree, out-Tree}
use Rattle.odd_meaning.specs.Conditions.{IsMetBy, IsMetThroughout}
use Rattle.odd_tree.proofs.PrintedTrees.{apart}
use Rattle.odd_meaning.proofs.ExampleTrees.{element_in}

-- names

abbrev in_x : List ℕ → Name
in_x local = record { ns = codes "urn:x"; local = local }

abbrev in_y : List ℕ → Name
in_y local = record { ns = codes "urn:y"; local = local }

abbrev in_none : List ℕ → Name
in_none local = record { ns = []; local = local }

-- conditions that require namespaces, and except none
abbrev requiring : List (List ℕ) → Condition
requiring spaces = record { require = spaces; spaces = []; names = [] }

-- where namespaces are required, and no others, a name that meets the condition is in one of them
in_required : (space : List ℕ) (spaces : List (List ℕ)) (name : Name) → IsMetBy (requiring (space ∷ spaces)) name → StandsIn (space ∷ spaces) name.ns
in_required space spaces name h = ⊎_elim (λ e. cc) (λ s. s) h.required

-- a name in the required namespace meets the condition
in_met : IsMetBy (requiring (codes "urn:x" ∷ [])) (in_x (codes "a"))
in_met = record { required = inr (stands_first _ _); space = nothing_stands _; named = nothing_stands _ }

-- one outside it doesn't, nor does one without a namespace
outside_unmet : IsMetBy (requiring (codes "urn:x" ∷ [])) (in_y (codes "a")) → ⊥
outside_unmet h = apart (codes "urn:y") (codes "urn:x") refl (only_item _ _ (in_required _ [] _ h))

none_unmet : IsMetBy (requiring (codes "urn:x" ∷ [])) (in_none (codes "a")) → ⊥
none_unmet h = apart [] (codes "urn:x") refl (only_item _ _ (in_required _ [] _ h))

-- where nothing is required, a name without a namespace meets the condition
none_met : IsMetBy (requiring []) (in_none (codes "a"))
none_met = record { required = inl refl; space = nothing_stands _; named = nothing_stands _ }

-- the empty namespace may be required: a name without a namespace meets that, and no other name does
empty_met : (local : List ℕ) → IsMetBy (requiring ([] ∷ [])) (in_none local)
empty_met local = record { required = inr (stands_first _ _); space = nothing_stands _; named = nothing_stands _ }

empty_only : (name : Name) → IsMetBy (requiring ([] ∷ [])) name → name.ns ≡ []
empty_only name h = only_item _ _ (in_required _ [] _ h)

-- all names but those in one namespace, and one name of another
abbrev excepting : Condition
excepting = record { require = []; spaces = codes "urn:x" ∷ []; names = in_y (codes "a") ∷ [] }

-- a name in the excepted namespace doesn't meet the condition, nor does the excepted name
space_excepted : IsMetBy excepting (in_x (codes "b")) → ⊥
space_excepted h = h.space (stands_first _ _)

name_excepted : IsMetBy excepting (in_y (codes "a")) → ⊥
name_excepted h = h.named (stands_first _ _)

-- another name of the same namespace does
another_met : IsMetBy excepting (in_y (codes "b"))
another_met = record {
  required = inl refl;
  space = λ s. apart (codes "urn:y") (codes "urn:x") refl (only_item _ _ s);
  named = λ s. apart (codes "b") (codes "a") refl (ap (λ (n : Name). n.local) (only_item _ _ s));
}

-- trees

-- a `b`, and an `a` around it
abbrev inner : List ℕ → Tree
inner ns = element_in ns (codes "b") []

abbrev outer : List ℕ → Tree
outer ns = element_in (codes "urn:x") (codes "a") (Element (inner ns) ∷ [])

one_child : (ns : List ℕ) → children_of (outer ns) ≡ inner ns ∷ []
one_child ns = ap (λ ts. ts ++ []) (element_shown (Element (inner ns)) (inner ns) refl)

child_within : (ns : List ℕ) → StandsWithin (outer ns) (inner ns)
child_within ns = inside (inner ns) ([], [], one_child ns) itself

-- a tree whose child doesn't meet the condition doesn't meet it throughout
child_unmet : IsMetThroughout (requiring (codes "urn:x" ∷ [])) (outer (codes "urn:y")) → ⊥
child_unmet h = apart (codes "urn:y") (codes "urn:x") refl (only_item _ _ (in_required _ [] _ (h _ (child_within (codes "urn:y")))))

-- in an element without children there is none but itself
within_one : (t u : Tree) → children_of t ≡ [] → StandsWithin t u → u ≡ t
within_one t u e itself = refl
within_one t u e (inside child s w) = absurd (nothing_stands child (subst (λ ts. StandsIn ts child) e s))

-- and in one around that, two
within_two : (t only u : Tree) → children_of t ≡ only ∷ [] → children_of only ≡ [] → StandsWithin t u → (u ≡ t) ⊎ (u ≡ only)
within_two t only u e none itself = inl refl
within_two t only u e none (inside child s w) =
    let is : child ≡ only = only_item only child (subst (λ ts. StandsIn ts child) e s) in
    inr (within_one only u none (subst (λ x. StandsWithin x u) is w))

-- a tree of two levels that meet the condition meets it throughout
both_met : IsMetThroughout (requiring (codes "urn:x" ∷ [])) (outer (codes "urn:x"))
both_met u w = ⊎_elim (met u (outer (codes "urn:x")) refl) (met u (inner (codes "urn:x")) refl) (within_two _ (inner (codes "urn:x")) u (one_child (codes "urn:x")) refl w)
  where
    met : (u t : Tree) → (out-Tree t).name.ns ≡ codes "urn:x" → u ≡ t → IsMetBy (requiring (codes "urn:x" ∷ [])) (out-Tree u).name
    met u t e same = record {
      required = inr ([], [], ap (λ ns. ns ∷ []) (sym e ∙ ap (λ (x : Tree). (out-Tree x).name.ns) (sym same)));
      space = nothing_stands _;
      named = nothing_stands _;
    }
