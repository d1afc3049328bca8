-- The facets in the order of their names make the item.
use Rattle.std.proofs.Common.{◌≡◌, ◌≤◌, ◌<◌, ◌+◌, ℕ, false, List, [], ◌∷◌, ◌++◌, Option, Some, None, length, get_or, take, ⊎_elim, refl, sym, ◌∙◌, ap, subst, arith, IsTrue, Any}
use Rattle.std.proofs.lemmas.Bool.{both_ways, cases_Bool, leb-false, leb-true, lt-ltb}
use Rattle.std.proofs.lemmas.List.{append-nil, take_all, take_more}
use Rattle.std.proofs.lemmas.List.Concat.{flat_map-append}
use Rattle.std.specs.List.{Contains, filter, find, flat_map}
use Rattle.std.specs.Option.{option_map, option_to_list}
use Rattle.std.specs.Prelude.{nat_le, nat_lt}
use Rattle.rng_types.specs.declared.data_type.DataType.{DataType}
use Rattle.rng_types.specs.declared.facet.Facet.{Facet}
use Rattle.rng_types.specs.declared.facet.FacetName.{FacetName}
use Rattle.rng_types.specs.declared.facet.FacetName.TheVariants as facet
use Rattle.rng_types.specs.declared.facet.FacetText.{FacetText}
use Rattle.rng_types.specs.declared.item.Item.TheVariants as items
use Rattle.rng_values.specs.Items.{FacetFault, IsFacetOf, IsItemOf, place_of}
use Rattle.rng_values.specs.Making.{IsUntaken, all_names, first_of, has_twice, in_order, is_of}
use Rattle.rng_values.specs.Names.{facet_names, named, type_names}
use Rattle.rng_values.proofs.ItemFaults.{twice_counted}
use Rattle.rng_values.proofs.Named.{name_stands, told_of}
use Rattle.rng_values.proofs.Standing.{found, here, here_or_later, nowhere, one_of, only, part_stands, stands_part}

-- the facet of a name that a text of one makes
abbrev made_of : FacetName → FacetText → Facet
made_of of f = record { name = of; value = f.value }

-- each stands after those before it, and the first from a place on
RisesFrom : ℕ → List Facet → Type 0
RisesFrom n [] = Unit {0}
RisesFrom n (g ∷ gs) = (n ≤ place_of g.name) × RisesFrom (place_of g.name + 1) gs

-- what rises from a place on rises from any before it
rises_lower : (n m : ℕ) (gs : List Facet) → n ≤ m → RisesFrom m gs → RisesFrom n gs
unfolding RisesFrom
rises_lower n m [] h r = tt
rises_lower n m (g ∷ gs) h r = let low = r.0 in (omega arith, r.1)

-- the facet of a name in front of those of later names
rises_one : (facets : List FacetText) (of : FacetName) (n : ℕ) (gs : List Facet) → n ≤ place_of of → RisesFrom (place_of of + 1) gs → RisesFrom n (first_of facets of ++ gs)
unfolding RisesFrom
rises_one facets of n gs h r =
    elim (find (is_of of) facets) as (λ o. RisesFrom n (option_to_list (option_map (made_of of) o) ++ gs)) [ None ↦ rises_lower n (place_of of + 1) gs (omega arith) r | Some f ↦ (h, r) ]

-- the facets in order rise
rises : (facets : List FacetText) → RisesFrom 0 (in_order facets)
unfolding RisesFrom
rises facets =
    rises_one facets facet.Length 0 _ (omega arith) (rises_one facets facet.MaxInclusive 1 _ (omega arith) (rises_one facets facet.MaxLength 2 _ (omega arith)
    (rises_one facets facet.MinInclusive 3 _ (omega arith) (rises_one facets facet.MinLength 4 _ (omega arith) (rises_one facets facet.Pattern 5 _ (omega arith) tt)))))

-- of two that stand side by side the second has the later name
rises_apart : (n : ℕ) (before after : List Facet) (f g : Facet) → RisesFrom n (before ++ f ∷ (g ∷ after)) → IsTrue (nat_lt (place_of f.name) (place_of g.name))
unfolding RisesFrom
rises_apart n [] after f g r = let up = r.1.0 in lt-ltb (place_of f.name) (place_of g.name) (omega arith)
rises_apart n (b ∷ before) after f g r = rises_apart (place_of b.name + 1) before after f g r.1

-- the only facet of a name is made
made_first : (facets : List FacetText) (of : FacetName) (f : FacetText) → find (is_of of) facets ≡ Some f → Contains (first_of facets of) (made_of of f)
made_first facets of f e = subst (λ o. Contains (option_to_list (option_map (made_of of) o)) (made_of of f)) (sym e) (here (made_of of f) [])

-- what is made of a name is made of a facet
first_made : (facets : List FacetText) (of : FacetName) (g : Facet) → Contains (first_of facets of) g → (f : FacetText) × (find (is_of of) facets ≡ Some f) × (made_of of f ≡ g)
first_made facets of g =
    elim (find (is_of of) facets) as (λ o. find (is_of of) facets ≡ o → Contains (option_to_list (option_map (made_of of) o)) g → (f : FacetText) × (find (is_of of) facets ≡ Some f) × (made_of of f ≡ g)) [
      | None ↦ λ e c. absurd (nowhere g c)
      | Some f ↦ λ e c. (f, e, ⊎_elim (λ same. same) (λ k. absurd (nowhere g k)) (here_or_later (made_of of f) g [] c))
    ] refl

-- one name more
pub made_more : (facets : List FacetText) (i : ℕ) (d : FacetName) (made new : List Facet) (o : Option FacetText) → made ≡ flat_map (first_of facets) (take i all_names) → i < length all_names
    → o ≡ find (is_of (get_or all_names i d)) facets → new ≡ made ++ option_to_list (option_map (made_of (get_or all_names i d)) o) → new ≡ flat_map (first_of facets) (take (i + 1) all_names)
made_more facets i d made new o so_far low e is =
    let of = get_or all_names i d in
    let before = flat_map (first_of facets) (take i all_names) in
    is ∙ ap (λ gs. gs ++ option_to_list (option_map (made_of of) o)) so_far ∙ ap (λ f. before ++ option_to_list (option_map (made_of of) f)) e
    ∙ ap (λ gs. before ++ gs) (sym (append-nil (first_of facets of))) ∙ sym (flat_map-append (first_of facets) (take i all_names) (of ∷ []))
    ∙ ap (flat_map (first_of facets)) (sym (take_more all_names i d low))

-- all names
pub all_made : (facets : List FacetText) (i : ℕ) (made : List Facet) → length all_names ≤ i → made ≡ flat_map (first_of facets) (take i all_names) → made ≡ in_order facets
all_made facets i made high e = e ∙ ap (flat_map (first_of facets)) (take_all i all_names high)

-- where no name stands twice
few : (facets : List FacetText) (of : FacetName) → has_twice facets ≡ false → length (filter (is_of of) facets) ≤ 1
few facets of h =
    let n = length (filter (is_of of) facets) in
    ⊎_elim (λ e. absurd (both_ways (has_twice facets) h (twice_counted facets of (leb-true 2 n e)))) (λ e. let low = leb-false 2 n e in omega arith) (cases_Bool (nat_le 2 n))

-- each facet that is made is of one that was given
pub none_else : (facets : List FacetText) (g : Facet) → Contains (in_order facets) g → (f : FacetText) × Contains facets f × IsFacetOf f g
none_else facets g c =
    let part = stands_part (first_of facets) all_names g c in
    let from = first_made facets part.0 g part.1 in
    let stands = found (is_of part.0) facets from.0 from.1 in (
      from.0,
      stands.1,
      record { name = (told_of part.0 from.0).0 stands.0 ∙ ap (λ (g : Facet). Some g.name) from.2; value = ap (λ (g : Facet). g.value) (sym from.2) },
    )

-- the item
pub made_item : (name : List ℕ) (facets : List FacetText) (k : DataType) → named type_names name ≡ Some k → (Any (IsUntaken k) facets → ⊥) → has_twice facets ≡ false
    → IsItemOf name facets (items.Typed k (in_order facets))
made_item name facets k e taken h = record {
  kind = k;
  is_kind = e;
  made = in_order facets;
  item_is = refl;
  rising = λ before after f g parts. rises_apart 0 before after f g (subst (RisesFrom 0) parts (rises facets));
  each = each;
  none_else = none_else facets;
}
  where
    each : (f : FacetText) → Contains facets f → (g : Facet) × Contains (in_order facets) g × IsFacetOf f g
    each f c =
        elim (named facet_names f.name) as (λ o. named facet_names f.name ≡ o → (g : Facet) × Contains (in_order facets) g × IsFacetOf f g) [
          | None ↦ λ n. absurd (taken (one_of (IsUntaken k) facets f c (IsUntaken.broken (FacetFault.unknown n))))
          | Some of ↦ λ n.
              let first = only (is_of of) facets f (few facets of h) c ((told_of of f).1 n) in
              (made_of of f, part_stands (first_of facets) all_names of (made_of of f) (name_stands of) (made_first facets of f first), record { name = n; value = refl })
        ] refl
