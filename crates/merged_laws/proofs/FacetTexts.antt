-- The texts that are printed of the facets of an item make the item, and break nothing.
use Rattle.std.proofs.Common.{◌≡◌, ◌≤◌, ◌+◌, ℕ, List, [], ◌∷◌, ◌++◌, map, Some, true, ⊎_elim, refl, sym, ap, subst, ◌∙◌, arith}
use Rattle.std.specs.List.{Contains}
use Rattle.std.specs.Option.{option_map}
use Rattle.std.proofs.lemmas.Bool.{both_ways}
use Rattle.std.proofs.lemmas.List.Elements.{All-contains}
use Rattle.std.proofs.lemmas.Option.{same_Some}
use Rattle.rng_types.specs.declared.data_type.DataType.{DataType}
use Rattle.rng_types.specs.declared.data_type.DataType.TheVariants as kind
use Rattle.rng_types.specs.declared.facet.Facet.{Facet}
use Rattle.rng_types.specs.declared.facet.FacetName.{FacetName}
use Rattle.rng_types.specs.declared.facet.FacetName.TheVariants as facet
use Rattle.rng_types.specs.declared.facet.FacetText.{FacetText}
use Rattle.rng_types.specs.declared.item.Item.TheVariants as items
use Rattle.rng_values.proofs.FormedItems.{made_whole}
use Rattle.rng_values.proofs.Standing.{here, here_or_later, later, nowhere}
use Rattle.rng_values.specs.Facets.{takes_facet}
use Rattle.rng_values.specs.Formed.{IsFormedFacet}
use Rattle.rng_values.specs.Items.{FacetFault, IsFacetOf, IsItemOf, ItemFault, place_of}
use Rattle.rng_values.specs.Items as values
use Rattle.rng_values.specs.Making.{in_order, item_of}
use Rattle.rng_values.specs.Names.{facet_names, named, type_names}
use Rattle.rng_grammar.proofs.OneData.{AreApart, RisesFrom, one_item, rises}
use Rattle.rng_emit.specs.Grammar.{facet_name}
use Rattle.odd_content.specs.FormedData.{IsMadeItem}
use Rattle.odd_emit.specs.Contents.{type_name}

pub type_named : (k : DataType) → named type_names (type_name k) ≡ Some k
type_named kind.String = refl
type_named k = refl

facet_named : (name : FacetName) → named facet_names (facet_name name) ≡ Some name
facet_named facet.Pattern = refl
facet_named name = refl

-- the text of a facet says it
abbrev pub text_of : Facet → FacetText
text_of f = record { name = facet_name f.name; value = f.value }

abbrev pub texts_of : List Facet → List FacetText
texts_of = map text_of

text_says : (g : Facet) → IsFacetOf (text_of g) g
text_says g = record { name = facet_named g.name; value = refl }

-- the name of a facet, by its text
name_by : (g : Facet) (f : FacetText) (of : FacetName) → text_of g ≡ f → named facet_names f.name ≡ Some of → g.name ≡ of
name_by g f of e is = same_Some _ _ (sym (facet_named g.name) ∙ ap (λ (p : FacetText). named facet_names p.name) e ∙ is)

-- a text among those of rising facets is of no earlier name
not_before : (n : ℕ) (gs : List Facet) (before after : List FacetText) (f : FacetText) (of : FacetName) → RisesFrom n gs → texts_of gs ≡ before ++ f ∷ after
    → named facet_names f.name ≡ Some of → n ≤ place_of of
not_before n [] [] after f of r e is = absurd (cc)
not_before n [] (b ∷ bs) after f of r e is = absurd (cc)
not_before n (g ∷ gs) [] after f of r e is = let same : text_of g ≡ f = cc in subst (λ name. n ≤ place_of name) (name_by g f of same is) r.0
not_before n (g ∷ gs) (b ∷ bs) after f of r e is =
    let rest : texts_of gs ≡ bs ++ f ∷ after = cc in
    let low = r.0 in
    let up = not_before (place_of g.name + 1) gs bs after f of r.1 rest is in
    omega (arith, low, up)

-- so no two are of one name
none_twice : (n : ℕ) (gs : List Facet) (before between after : List FacetText) (f g : FacetText) (of : FacetName) → RisesFrom n gs → texts_of gs ≡ before ++ f ∷ (between ++ g ∷ after)
    → named facet_names f.name ≡ Some of → named facet_names g.name ≡ Some of → ⊥
none_twice n [] [] between after f g of r e is also = cc
none_twice n [] (b ∷ bs) between after f g of r e is also = cc
none_twice n (k ∷ ks) [] between after f g of r e is also =
    let same : text_of k ≡ f = cc in
    let rest : texts_of ks ≡ between ++ g ∷ after = cc in
    let up = not_before (place_of k.name + 1) ks between after g of r.1 rest also in
    let at = ap place_of (name_by k f of same is) in
    omega (arith, up, at)
none_twice n (k ∷ ks) (b ∷ bs) between after f g of r e is also =
    let rest : texts_of ks ≡ bs ++ f ∷ (between ++ g ∷ after) = cc in none_twice (place_of k.name + 1) ks bs between after f g of r.1 rest is also

-- the text of each facet stands among the texts, and each text says one of the facets
text_stands : (gs : List Facet) (g : Facet) → Contains gs g → Contains (texts_of gs) (text_of g)
text_stands [] g c = absurd (nowhere g c)
text_stands (k ∷ ks) g c =
    ⊎_elim (λ e. subst (λ l. Contains (texts_of (k ∷ ks)) (text_of l)) e (here (text_of k) (texts_of ks))) (λ l. later _ _ _ (text_stands ks g l)) (here_or_later k g ks c)

one_said : (gs : List Facet) (f : FacetText) → Contains (texts_of gs) f → (g : Facet) × Contains gs g × IsFacetOf f g
one_said [] f c = absurd (nowhere f c)
one_said (k ∷ ks) f c =
    ⊎_elim (λ e. (k, here k ks, subst (λ q. IsFacetOf q k) e (text_says k))) (λ l. let said = one_said ks f l in (said.0, later k said.0 ks said.1, said.2)) (here_or_later (text_of k) f (texts_of ks) c)

-- what a text breaks, one of the same name and value breaks
same_fault : (f g : FacetText) (rule : ℕ) → named facet_names g.name ≡ named facet_names f.name → g.value ≡ f.value → FacetFault f rule → FacetFault g rule
same_fault f g rule same e fault = subst (λ v. FacetFault (record { name = g.name; value = v }) rule) (sym e) (by rule fault)
  where
    by : (r : ℕ) → FacetFault f r → FacetFault (record { name = g.name; value = f.value }) r
    by r (values.malformed is not) = values.malformed (same ∙ is) not
    by r (values.unknown none) = values.unknown (same ∙ none)
    by r (values.no_pattern is not) = values.no_pattern (same ∙ is) not

module _ (k : DataType) (facets : List Facet) (m : IsMadeItem k facets) where
  made_is : m.said.made ≡ facets
  made_is = let same = m.said.item_is in cc

  apart : AreApart facets
  apart = subst AreApart made_is m.said.rising

  -- a text that it was made of, for each that is printed
  given_for : (f : FacetText) → Contains (texts_of facets) f → (g : FacetText) × Contains m.texts g × (named facet_names g.name ≡ named facet_names f.name) × (g.value ≡ f.value)
  given_for f c =
      let found = one_said facets f c in
      let said = m.said.none_else found.0 (subst (λ gs. Contains gs found.0) (sym made_is) found.1) in
      (said.0, said.1, said.2.name ∙ sym found.2.name, sym said.2.value ∙ found.2.value)

  -- the name and the texts break nothing
  pub texts_sound : (rule : ℕ) → ItemFault (type_name k) (texts_of facets) rule → ⊥
  texts_sound rule (values.unknown none) = let known = type_named k in cc
  texts_sound rule (values.of_facet f c fault) = let was = given_for f c in m.sound rule (values.of_facet was.0 was.1 (same_fault f was.0 rule was.2 was.3 fault))
  texts_sound rule (values.not_taken {k = l} {of = of} f c is_kind is not) =
      let found = one_said facets f c in
      let formed = All-contains (IsFormedFacet k) facets found.0 m.formed found.1 in
      let kinds : k ≡ l = same_Some _ _ (sym (type_named k) ∙ is_kind) in
      let names : found.0.name ≡ of = same_Some _ _ (sym found.2.name ∙ is) in
      both_ways (takes_facet l of) not (subst (λ x. takes_facet l x ≡ true) names (subst (λ x. takes_facet x found.0.name ≡ true) kinds formed.taken))
  texts_sound rule (values.twice {of = of} before between after f g e is also) = none_twice 0 facets before between after f g of (rises facets apart) e is also

  texts_say : IsItemOf (type_name k) (texts_of facets) (items.Typed k facets)
  texts_say = record {
    kind = k;
    is_kind = type_named k;
    made = facets;
    item_is = refl;
    rising = apart;
    each = one_said facets;
    none_else = λ g c. (text_of g, text_stands facets g c, text_says g);
  }

  -- and make the item again
  pub item_again : item_of (type_name k) (texts_of facets) ≡ Some (items.Typed k facets)
  item_again =
      let texts = texts_of facets in
      let whole = made_whole (type_name k) texts k (type_named k) texts_sound in
      let said : IsItemOf (type_name k) texts (items.Typed k (in_order texts)) = subst (IsItemOf (type_name k) texts) (sym (same_Some _ _ whole.is_made)) whole.said in
      ap (option_map (λ l. items.Typed l (in_order texts))) (type_named k) ∙ ap Some (one_item (type_name k) texts _ _ said texts_say)
