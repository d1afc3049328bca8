-- The groups that elements refer to.
use Rattle.std.proofs.Common.{◌≡◌, ◌↔◌, ◌⊎◌, inl, inr, ⊎_elim, ℕ, List, [], ◌∷◌, ◌++◌, Some, None, Option, IsTrue, sym, ap, ◌∙◌, subst}
use Rattle.std.proofs.lemmas.Option.{same_Some}
use Rattle.std.specs.List.{Contains}
use Rattle.std.specs.Prelude.{codes}
use Rattle.odd_graph.proofs.OneMore.{contains_with}
use Rattle.odd_text.proofs.InList.{nothing_stands, stands_first, stands_later, first_or_later}
use Rattle.odd_tree.specs.Elements.{given}
use Rattle.odd_tree.specs.declared.tree.Tree.{Tree}
use Rattle.odd_forms.specs.Names.{is_one_of}
use Rattle.odd_items.specs.Arrows.{Refers, RefersAmong}
use Rattle.odd_items.specs.Groups.{RefersTo, reference_names}

-- a reference whose target is given refers to what stands after the `#`
pub refers_to : (t : Tree) (target : List ℕ) (made : Option (List ℕ)) → IsTrue (is_one_of reference_names t) → given t (codes "target") ≡ Some target → ((id : List ℕ) → (made ≡ Some id) ↔ (target ≡ 0x23 ∷ id))
    → (id : List ℕ) → (made ≡ Some id) ↔ RefersTo t id
refers_to t target made is at h id = (
  λ e. (is, at ∙ ap Some ((h id).0 e)),
  λ r. (h id).1 (same_Some _ _ (sym at ∙ r.1)),
)

-- the group that an element refers to is the first of the id
pub refers_some : (First : List ℕ → ℕ → Type 0) (t : Tree) (o : Option (List ℕ)) (id : List ℕ) (found : Option ℕ) → ((other : List ℕ) → (o ≡ Some other) ↔ RefersTo t other) → o ≡ Some id
    → ((place : ℕ) → (found ≡ Some place) ↔ First id place) → (place : ℕ) → (found ≡ Some place) ↔ Refers First t place
refers_some First t o id found h is first place = (
  λ e. (id, (h id).0 is, (first place).0 e),
  λ r. (first place).1 (subst (λ x. First x place) (same_Some _ _ (sym ((h r.0).1 r.1) ∙ is)) r.2),
)

-- and where it refers to no id there is none
pub refers_none : (First : List ℕ → ℕ → Type 0) (t : Tree) (o : Option (List ℕ)) → ((other : List ℕ) → (o ≡ Some other) ↔ RefersTo t other) → o ≡ None
    → (place : ℕ) → Refers First t place → ⊥
refers_none First t o h none place r =
    let some : None ≡ Some r.0 = sym none ∙ (h r.0).1 r.1 in
    cc

-- of several the first, or one of the others
among_first : (First : List ℕ → ℕ → Type 0) (t : Tree) (rest : List Tree) (place : ℕ) → RefersAmong First (t ∷ rest) place ↔ (Refers First t place ⊎ RefersAmong First rest place)
among_first First t rest place = (
  λ r. ⊎_elim (λ e. inl (subst (λ u. Refers First u place) e r.2)) (λ later. inr (r.0, later, r.2)) (first_or_later t r.0 rest r.1),
  λ s. ⊎_elim (λ one. (t, stands_first t rest, one)) (λ r. (r.0, stands_later t r.0 rest r.1, r.2)) s,
)

-- what the list contains with what the rest refer to
abbrev pub ToCome : (List ℕ → ℕ → Type 0) → List ℕ → List Tree → ℕ → Type 0
ToCome First list trees place = Contains list place ⊎ RefersAmong First trees place

-- the place of the group that an element refers to was put at the end
pub place_pushed : (First : List ℕ → ℕ → Type 0) (list : List ℕ) (t : Tree) (o : Option ℕ) (found : ℕ) → ((place : ℕ) → (o ≡ Some place) ↔ Refers First t place) → o ≡ Some found
    → (place : ℕ) → Contains (list ++ found ∷ []) place ↔ (Contains list place ⊎ Refers First t place)
place_pushed First list t o found h is place =
    let more = contains_with list found place in (
      λ c. ⊎_elim inl (λ e. inr ((h place).0 (is ∙ ap Some e))) (more.0 c),
      λ s. more.1 (⊎_elim inl (λ r. inr (same_Some _ _ (sym is ∙ (h place).1 r))) s),
    )

-- it refers to none
pub none_pushed : (First : List ℕ → ℕ → Type 0) (list : List ℕ) (t : Tree) (o : Option ℕ) → ((place : ℕ) → (o ≡ Some place) ↔ Refers First t place) → o ≡ None
    → (place : ℕ) → Contains list place ↔ (Contains list place ⊎ Refers First t place)
none_pushed First list t o h none place = (inl, λ s. ⊎_elim (λ c. c) (λ r. let e : None ≡ Some place = sym none ∙ (h place).1 r in cc) s)

-- the next one was passed
pub child_passed : (First : List ℕ → ℕ → Type 0) (list new : List ℕ) (trees rest : List Tree) (t : Tree) (All : ℕ → Type 0) → ((place : ℕ) → ToCome First list trees place ↔ All place) → trees ≡ t ∷ rest
    → ((place : ℕ) → Contains new place ↔ (Contains list place ⊎ Refers First t place)) → (place : ℕ) → ToCome First new rest place ↔ All place
child_passed First list new trees rest t All before steps more place =
    let now = subst (λ ts. ToCome First list ts place ↔ All place) steps (before place) in
    let first = among_first First t rest place in (
      λ s. now.0 (⊎_elim (λ c. ⊎_elim inl (λ one. inr (first.1 (inl one))) ((more place).0 c)) (λ r. inr (first.1 (inr r))) s),
      λ a. ⊎_elim (λ c. inl ((more place).1 (inl c))) (λ r. ⊎_elim (λ one. inl ((more place).1 (inr one))) inr (first.0 r)) (now.1 a),
    )

-- at the end none is left
pub all_pushed : (First : List ℕ → ℕ → Type 0) (list : List ℕ) (trees : List Tree) (All : ℕ → Type 0) → ((place : ℕ) → ToCome First list trees place ↔ All place) → trees ≡ []
    → (place : ℕ) → Contains list place ↔ All place
all_pushed First list trees All before none place =
    let now = subst (λ ts. ToCome First list ts place ↔ All place) none (before place) in
    (λ c. now.0 (inl c), λ a. ⊎_elim (λ c. c) (λ r. absurd (nothing_stands r.0 r.1)) (now.1 a))
