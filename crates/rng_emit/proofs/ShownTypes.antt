-- What is printed of a datatype and its facets makes the same item.
use Rattle.std.proofs.Common.{◌≡◌, ◌≤◌, ◌+◌, ℕ, false, List, [], ◌∷◌, ◌++◌, map, Some, ⊎_elim, refl, sym, ap, subst, ◌∙◌, arith}
use Rattle.std.proofs.lemmas.Option.{same_Some}
use Rattle.std.specs.List.{Contains}
use Rattle.rng_types.specs.declared.data_type.DataType.{DataType}
use Rattle.rng_types.specs.declared.data_type.DataType.TheVariants as kind
use Rattle.rng_types.specs.declared.facet.Facet.{Facet}
use Rattle.rng_types.specs.declared.facet.FacetName.{FacetName}
use Rattle.rng_types.specs.declared.facet.FacetName.TheVariants as facet
use Rattle.rng_types.specs.declared.facet.FacetText.{FacetText}
use Rattle.rng_types.specs.declared.item.Item.TheVariants as items
use Rattle.rng_values.proofs.Standing.{here, here_or_later, later, nowhere}
use Rattle.rng_values.specs.Facets.{takes_facet}
use Rattle.rng_values.specs.Items.{FacetFault, IsFacetOf, IsItemOf, ItemFault, place_of}
use Rattle.rng_values.specs.Items as values
use Rattle.rng_values.specs.Names.{facet_names, named, type_names}
use Rattle.rng_grammar.proofs.OneData.{AreApart, RisesFrom, rises}
use Rattle.rng_grammar.specs.Denoting.{read_as}
use Rattle.rng_emit.proofs.Printable.{IsPlainType}
use Rattle.rng_emit.specs.Grammar.{facet_name, type_name}

-- the name that is printed is that of the datatype as it is read
type_named : (k : DataType) → named type_names (type_name k) ≡ Some (read_as k)
type_named kind.String = refl
type_named k = refl

facet_named : (name : FacetName) → named facet_names (facet_name name) ≡ Some name
facet_named facet.Pattern = refl
facet_named name = refl

-- what is read so is read as itself
read_twice : (k : DataType) → read_as (read_as k) ≡ read_as k
read_twice kind.String = refl
read_twice k = refl

-- and takes the same facets
takes_read : (k : DataType) (of : FacetName) → takes_facet (read_as k) of ≡ takes_facet k of
takes_read kind.Id facet.Pattern = refl
takes_read kind.Id of = refl
takes_read kind.Idref facet.Pattern = refl
takes_read kind.Idref of = refl
takes_read k of = refl

-- a `param` as it is printed
abbrev pub param_of : Facet → FacetText
param_of f = record { name = facet_name f.name; value = f.value }

-- it says the facet
of_param : (g : Facet) → IsFacetOf (param_of g) g
of_param g = record { name = facet_named g.name; value = refl }

abbrev pub params_of : List Facet → List FacetText
params_of = map param_of

-- the name of a facet, by the param that is printed
name_by : (g : Facet) (f : FacetText) (of : FacetName) → param_of g ≡ f → named facet_names f.name ≡ Some of → g.name ≡ of
name_by g f of e is = same_Some _ _ (sym (facet_named g.name) ∙ ap (λ (p : FacetText). named facet_names p.name) e ∙ is)

-- a param among those of rising facets is of no earlier name
not_before : (n : ℕ) (gs : List Facet) (before after : List FacetText) (f : FacetText) (of : FacetName) → RisesFrom n gs → params_of gs ≡ before ++ f ∷ after
    → named facet_names f.name ≡ Some of → n ≤ place_of of
not_before n [] [] after f of r e is = absurd (cc)
not_before n [] (b ∷ bs) after f of r e is = absurd (cc)
not_before n (g ∷ gs) [] after f of r e is = let same : param_of g ≡ f = cc in subst (λ name. n ≤ place_of name) (name_by g f of same is) r.0
not_before n (g ∷ gs) (b ∷ bs) after f of r e is =
    let rest : params_of gs ≡ bs ++ f ∷ after = cc in
    let low = r.0 in
    let up = not_before (place_of g.name + 1) gs bs after f of r.1 rest is in
    omega (arith, low, up)

-- so no two are of one name
none_twice : (n : ℕ) (gs : List Facet) (before between after : List FacetText) (f g : FacetText) (of : FacetName) → RisesFrom n gs
    → params_of gs ≡ before ++ f ∷ (between ++ g ∷ after) → named facet_names f.name ≡ Some of → named facet_names g.name ≡ Some of → ⊥
none_twice n [] [] between after f g of r e is also = cc
none_twice n [] (b ∷ bs) between after f g of r e is also = cc
none_twice n (k ∷ ks) [] between after f g of r e is also =
    let same : param_of k ≡ f = cc in
    let rest : params_of ks ≡ between ++ g ∷ after = cc in
    let up = not_before (place_of k.name + 1) ks between after g of r.1 rest also in
    let at = ap place_of (name_by k f of same is) in
    omega (arith, up, at)
none_twice n (k ∷ ks) (b ∷ bs) between after f g of r e is also =
    let rest : params_of ks ≡ bs ++ f ∷ (between ++ g ∷ after) = cc in
    none_twice (place_of k.name + 1) ks bs between after f g of r.1 rest is also

-- the param of each facet stands among the params, and each param says one of the facets
param_stands : (gs : List Facet) (g : Facet) → Contains gs g → Contains (params_of gs) (param_of g)
param_stands [] g c = absurd (nowhere g c)
param_stands (k ∷ ks) g c =
    ⊎_elim (λ e. subst (λ l. Contains (params_of (k ∷ ks)) (param_of l)) e (here (param_of k) (params_of ks))) (λ l. later _ _ _ (param_stands ks g l)) (here_or_later k g ks c)

param_says : (gs : List Facet) (f : FacetText) → Contains (params_of gs) f → (g : Facet) × Contains gs g × IsFacetOf f g
param_says [] f c = absurd (nowhere f c)
param_says (k ∷ ks) f c =
    ⊎_elim (λ e. (k, here k ks, subst (λ q. IsFacetOf q k) e (of_param k))) (λ l. let said = param_says ks f l in (said.0, later k said.0 ks said.1, said.2))
    (here_or_later (param_of k) f (params_of ks) c)

-- a param breaks what one of the same name and value breaks
renamed : (name : List ℕ) (f : FacetText) (rule : ℕ) → named facet_names name ≡ named facet_names f.name → FacetFault f rule
    → FacetFault (record { name = name; value = f.value }) rule
renamed name f rule same (values.malformed is not) = values.malformed (same ∙ is) not
renamed name f rule same (values.unknown none) = values.unknown (same ∙ none)
renamed name f rule same (values.no_pattern is not) = values.no_pattern (same ∙ is) not

same_fault : (f g : FacetText) (rule : ℕ) → named facet_names f.name ≡ named facet_names g.name → g.value ≡ f.value → FacetFault g rule → FacetFault f rule
same_fault f g rule same e fault = subst (λ v. FacetFault (record { name = f.name; value = v }) rule) e (renamed f.name g rule same fault)

-- a plain type, as it is printed
module _ (k : DataType) (facets : List Facet) (p : IsPlainType k facets) where
  -- it is read as itself
  pub reads : k ≡ read_as k
  reads = p.read ∙ sym (read_twice p.kind) ∙ ap read_as (sym p.read)

  printed_named : named type_names (type_name k) ≡ Some k
  printed_named = type_named k ∙ ap Some (sym reads)

  -- what the given item is made of
  kind_is : p.item.kind ≡ p.kind
  kind_is = let same = p.item.item_is in cc

  made_is : p.item.made ≡ facets
  made_is = let same = p.item.item_is in cc

  -- so its facets rise
  apart : AreApart facets
  apart = subst AreApart made_is p.item.rising

  -- what is printed makes the item
  pub printed_item : IsItemOf (type_name k) (params_of facets) (items.Typed k facets)
  printed_item = record {
    kind = k;
    is_kind = printed_named;
    made = facets;
    item_is = refl;
    rising = apart;
    each = param_says facets;
    none_else = λ g c. (param_of g, param_stands facets g c, of_param g);
  }

  -- each param is of the name and the value of a given one
  given_for : (f : FacetText) → Contains (params_of facets) f → (g : FacetText) × Contains p.params g × (named facet_names g.name ≡ named facet_names f.name) × (f.value ≡ g.value)
  given_for f c =
      let found = param_says facets f c in
      let said = p.item.none_else found.0 (subst (λ gs. Contains gs found.0) (sym made_is) found.1) in
      (said.0, said.1, said.2.name ∙ sym found.2.name, sym found.2.value ∙ said.2.value)

  -- so it breaks nothing
  pub printed_sound : (rule : ℕ) → ItemFault (type_name k) (params_of facets) rule → ⊥
  printed_sound rule (values.unknown none) = let known = printed_named in cc
  printed_sound rule (values.of_facet f c fault) = let was = given_for f c in p.sound rule (values.of_facet was.0 was.1 (same_fault was.0 f rule was.2 was.3 fault))
  printed_sound rule (values.not_taken {k = l} {of = of} f c is_kind is not) =
      let was = given_for f c in
      let same : read_as p.kind ≡ l = sym p.read ∙ same_Some _ _ (sym printed_named ∙ is_kind) in
      let untaken : takes_facet p.kind of ≡ false = sym (takes_read p.kind of) ∙ ap (λ m. takes_facet m of) same ∙ not in
      p.sound rule (values.not_taken was.0 was.1 (p.item.is_kind ∙ ap Some kind_is) (was.2 ∙ is) untaken)
  printed_sound rule (values.twice {of = of} before between after f g e is also) = none_twice 0 facets before between after f g of (rises facets apart) e is also
