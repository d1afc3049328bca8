-- What holds of each item and of each list of values that an ODD file gives which breaks no rule.
use Rattle.std.specs.Prelude.{◌≡◌, ◌≢◌, ℕ, Bool, List, [], All, IsTrue}
use Rattle.std.specs.FinMap.{is_sorted}
use Rattle.odd_text.specs.Text.{text_cmp}
use Rattle.odd_tokens.specs.Characters.{IsLegal, IsNCName}
use Rattle.rng_types.specs.declared.data_type.DataType.{DataType}
use Rattle.rng_types.specs.declared.facet.Facet.{Facet}
use Rattle.rng_types.specs.declared.facet.FacetText.{FacetText}
use Rattle.rng_types.specs.declared.item.Item.{Item}
use Rattle.rng_types.specs.declared.item.Item.TheVariants as item
use Rattle.rng_types.specs.declared.val_list.ValList.{ValList}
use Rattle.rng_values.specs.Formed.{IsFormedItem}
use Rattle.rng_values.specs.Items.{IsItemOf, ItemFault}
use Rattle.rng_values.specs.Treated.{collapsed_text}
use Rattle.odd_text.specs.Sorted.{AreRising}

-- an item that some name and facets make which break no rule, of characters that XML can write
pub record IsMadeItem (k : DataType) (facets : List Facet) : Type 0 where
  pub name : List ℕ
  pub texts : List FacetText
  pub sound : (rule : ℕ) → ItemFault name texts rule → ⊥
  pub said : IsItemOf name texts (item.Typed k facets)
  pub formed : IsFormedItem (item.Typed k facets)
  pub legal : All (λ (f : Facet). IsLegal f.value) facets

-- the key of a datatype is a name, and a datatype with facets is one that `make_item` gives
abbrev pub IsFormedData : Item → Type 0
IsFormedData (item.Key key) = IsNCName key
IsFormedData (item.Typed k facets) = IsMadeItem k facets

-- a value of a list is collapsed, and not empty
pub record IsListed (value : List ℕ) : Type 0 where
  pub collapsed : collapsed_text value ≡ value
  pub filled : value ≢ []
  pub legal : IsLegal value

-- values in rising order, each once
pub record IsFormedList (list : ValList) : Type 0 where
  pub rising : AreRising text_cmp list.values
  pub listed : All IsListed list.values

-- a map from values
abbrev pub AreValueMarks : List (List ℕ × Bool) → Type 0
AreValueMarks marks = IsTrue (is_sorted text_cmp marks) × All (λ (mark : List ℕ × Bool). IsListed mark.0) marks
