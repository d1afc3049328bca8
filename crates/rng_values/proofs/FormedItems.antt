-- The facets of an item that breaks no rule are formed.
use Rattle.std.proofs.Common.{◌≡◌, ℕ, ◌+◌, false, List, [], ◌∷◌, Some, All, Any, ◌⊎◌, inl, inr, ⊎_elim, length, refl, sym, subst, arith}
use Rattle.std.proofs.lemmas.Bool.{cases_Bool, cases_lt, false_from_ne_true}
use Rattle.std.proofs.lemmas.List.Elements.{All-contains_itself, All-weaker}
use Rattle.std.specs.Char.{is_ascii_digit}
use Rattle.std.specs.List.{Contains, list_all}
use Rattle.std.specs.Str.{chars}
use Rattle.rng_types.specs.declared.data_type.DataType.{DataType}
use Rattle.rng_types.specs.declared.facet.Facet.{Facet}
use Rattle.rng_types.specs.declared.facet.FacetName.{FacetName}
use Rattle.rng_types.specs.declared.facet.FacetName.TheVariants as facet
use Rattle.rng_types.specs.declared.facet.FacetText.{FacetText}
use Rattle.rng_types.specs.declared.item.Item.TheVariants as items
use Rattle.rng_values.specs.Facets.{AreFewDigits, IsNumberOf, takes_facet}
use Rattle.rng_values.specs.Formed.{IsFormedFacet}
use Rattle.rng_values.specs.Items.{FacetFault, ItemFault}
use Rattle.rng_values.specs.Making.{IsMadeOf, IsUntaken, has_twice, in_order}
use Rattle.rng_values.specs.Names.{named, type_names}
use Rattle.std.specs.Str.Parse.{without_leading_sign}
use Rattle.rng_values.proofs.Digits.{bound_tested}
use Rattle.rng_values.proofs.InOrder.{made_item, none_else}
use Rattle.rng_values.proofs.ItemFaults.{malformed_least, twice_least, untaken_least}
use Rattle.rng_values.proofs.Standing.{one_of}

-- digits are few, or they are not
few_decided : (most : ℕ) (cs : List ℕ) → AreFewDigits most cs ⊎ (AreFewDigits most cs → ⊥)
few_decided most [] = inr (λ h. h.some refl)
few_decided most (c ∷ cs) =
    ⊎_elim
    (λ short. ⊎_elim (λ d. inl (record { some = λ e. cc; few = omega arith; digits = d })) (λ n. inr (λ h. cc (n, h.digits))) (cases_Bool (list_all is_ascii_digit (c ∷ cs))))
    (λ long. inr (λ h. omega (arith, h.few)))
    (cases_lt (length (c ∷ cs)) (most + 1))

-- a number of a form, or none
number_decided : (name : FacetName) (cs : List ℕ) → IsNumberOf name cs ⊎ (IsNumberOf name cs → ⊥)
number_decided facet.Pattern cs = inl tt
number_decided facet.MinInclusive cs = let same = bound_tested cs in ⊎_elim (λ h. inl (same.0 h)) (λ n. inr (λ h. n (same.1 h))) (few_decided 18 (without_leading_sign cs))
number_decided facet.MaxInclusive cs = let same = bound_tested cs in ⊎_elim (λ h. inl (same.0 h)) (λ n. inr (λ h. n (same.1 h))) (few_decided 18 (without_leading_sign cs))
number_decided facet.Length cs = few_decided 9 cs
number_decided facet.MinLength cs = few_decided 9 cs
number_decided facet.MaxLength cs = few_decided 9 cs

-- each facet that is made is formed
made_is_formed : (facets : List FacetText) (k : DataType) → (Any (λ f. FacetFault f 1) facets → ⊥) → (Any (IsUntaken k) facets → ⊥) → (g : Facet) → Contains (in_order facets) g → IsFormedFacet k g
made_is_formed facets k well taken g stands =
    let from = none_else facets g stands in
    let f = from.0 in
    let is = from.2 in
    record {
      taken = ⊎_elim (λ yes. yes) (λ no. absurd (taken (one_of (IsUntaken k) facets f from.1 (IsUntaken.not_taken is.name no)))) (cases_Bool (takes_facet k g.name));
      number = ⊎_elim (λ h. h) (λ n. absurd (well (one_of (λ f. FacetFault f 1) facets f from.1 (FacetFault.malformed is.name (λ h. n (subst (λ value. IsNumberOf g.name (chars value)) (sym is.value) h))))))
          (number_decided g.name (chars g.value));
    }

pub made_formed : (facets : List FacetText) (k : DataType) → (Any (λ f. FacetFault f 1) facets → ⊥) → (Any (IsUntaken k) facets → ⊥) → All (IsFormedFacet k) (in_order facets)
made_formed facets k well taken = All-weaker (Contains (in_order facets)) (IsFormedFacet k) (made_is_formed facets k well taken) (in_order facets) (All-contains_itself (in_order facets))

-- the item of a name and facets that break nothing is the one that they say
pub made_whole : (name : List ℕ) (facets : List FacetText) (k : DataType) → named type_names name ≡ Some k → ((rule : ℕ) → ItemFault name facets rule → ⊥)
    → IsMadeOf name facets (Some (items.Typed k (in_order facets)))
made_whole name facets k e sound =
    let well : Any (λ f. FacetFault f 1) facets → ⊥ = λ a. sound 1 (malformed_least name facets a).0 in
    let taken : Any (IsUntaken k) facets → ⊥ = λ a. sound 2 (untaken_least name facets k well e a).0 in
    let once : has_twice facets ≡ false = false_from_ne_true (has_twice facets) (λ t. sound 4 (twice_least name facets k well e taken t).0) in
    record { item = items.Typed k (in_order facets); is_made = refl; said = made_item name facets k e taken once; formed = made_formed facets k well taken }
