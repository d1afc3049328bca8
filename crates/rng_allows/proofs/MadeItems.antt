-- The items that `make_item` gives are such as patterns of values want.
use Rattle.std.proofs.Common.{◌≡◌, ◌∙◌, ℕ, All, List, Some, ap, sym, subst}
use Rattle.std.proofs.Math.ListN.{get_or}
use Rattle.std.proofs.lemmas.List.Elements.{Contains-get_or}
use Rattle.std.specs.List.{Contains}
use Rattle.std.specs.Str.{chars}
use Rattle.rng_dialect.specs.Dialect.{IsPattern}
use Rattle.rng_types.specs.declared.data_type.DataType.{DataType}
use Rattle.rng_types.specs.declared.facet.Facet.{Facet}
use Rattle.rng_types.specs.declared.facet.FacetText.{FacetText}
use Rattle.rng_types.specs.declared.item.Item.TheVariants as items
use Rattle.rng_values.specs.Formed.{IsFormedFacet}
use Rattle.rng_values.specs.Items.{FacetFault, IsItemOf, ItemFault}
use Rattle.rng_allows.specs.Formed.{AreMade, IsMade}

-- each facet is one that the texts say, so a pattern of it is one where the texts break no rule
one_made : (name : List ℕ) (texts : List FacetText) (k : DataType) (facets : List Facet) → IsItemOf name texts (items.Typed k facets) → ((rule : ℕ) → ItemFault name texts rule → ⊥) → (f : Facet) → Contains facets f
    → IsFormedFacet k f → IsMade k f
one_made name texts k facets item sound f among formed = record {
  formed = formed;
  pattern = λ is none.
      let same : facets ≡ item.made = cc in
      let said = item.none_else f (subst (λ fs. Contains fs f) same among) in
      let text = said.0 in
      sound 2 (ItemFault.of_facet text said.1 (FacetFault.no_pattern (said.2.name ∙ ap Some is) (λ r p. none r (subst (λ v. IsPattern (chars v) r) (sym said.2.value) p))));
}

pub item_made : (name : List ℕ) (texts : List FacetText) (k : DataType) (facets : List Facet) → IsItemOf name texts (items.Typed k facets) → ((rule : ℕ) → ItemFault name texts rule → ⊥) → All (IsFormedFacet k) facets
    → AreMade k facets
item_made name texts k facets item sound formed = λ i d within. one_made name texts k facets item sound (get_or facets i d) (Contains-get_or facets i d within) (formed i d within)
