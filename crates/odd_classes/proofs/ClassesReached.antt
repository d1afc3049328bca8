-- The classes that an element is a member of, by the places that its own place leads to.
use Rattle.std.proofs.Common.{◌↔◌, ℕ, List, refl, ap, subst, ◌∙◌}
use Rattle.std.specs.FinMap.{is_sorted}
use Rattle.std.specs.Prelude.{IsTrue}
use Rattle.odd_graph.proofs.Chains.{first_step}
use Rattle.odd_graph.specs.Graph.{Chained, Leads}
use Rattle.odd_library.specs.Odd.{element_key}
use Rattle.odd_library.specs.declared.library.Library.{Library}
use Rattle.odd_meaning.specs.Classes.{IsMember}
use Rattle.odd_meaning.specs.Links.{IsLinked, class_key, classes_of}
use Rattle.odd_text.specs.Key.{key_cmp}
use Rattle.odd_classes.proofs.Linked.{chains_agree, linked_chain}
use Rattle.odd_classes.proofs.OnCycles.{reached_class}
use Rattle.odd_classes.proofs.Places.{held_at}
use Rattle.odd_classes.specs.Placing.{IsGraphOf, IsIdentAt, IsPlaceOf}

module _ (library : Library) (element : List ℕ) where
  -- an element that has no place is a member of no class
  pub no_class : ((place : ℕ) → IsPlaceOf library.parts place (element_key element) → ⊥) → (class : List ℕ) → IsMember library class (element_key element) → ⊥
  no_class none class m =
      let step = (first_step (IsLinked classes_of library) (element_key element) (class_key class) m).1 in
      let at = held_at library.parts (element_key element) step.part step.held in
      none at.0 (step.part, at.1)

  -- the idents at the places that its place leads to are those of the classes that it is a member of
  pub classes_reached : IsTrue (is_sorted key_cmp library.parts) → (arrows : List (List ℕ)) (place : ℕ) → IsGraphOf classes_of library.parts arrows → IsPlaceOf library.parts place (element_key element)
      → (class : List ℕ) → ((at : ℕ) × IsIdentAt library.parts class at × Leads arrows place at) ↔ IsMember library class (element_key element)
  classes_reached up arrows place is here class = (
    λ r.
        let linked = (chains_agree classes_of library up arrows is place r.0 (element_key element) r.1.0 here r.1.1).0 r.2 in
        subst (Chained (IsLinked classes_of library) (element_key element)) (reached_class library (element_key element) r.1.0 linked ∙ ap class_key r.1.2) linked,
    λ m.
        let last = linked_chain classes_of library up arrows is (element_key element) (class_key class) place here m in
        (last.0, (class_key class, last.1, refl), last.2),
  )
