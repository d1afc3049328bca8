-- A `dataRef` that is printed of an item is read as it, and breaks nothing.
use Rattle.std.proofs.Common.{◌≡◌, ℕ, List, [], ◌∷◌, map, Some, None, refl, sym, ap, subst, ◌∙◌}
use Rattle.std.specs.Prelude.{IsTrue, codes}
use Rattle.std.proofs.lemmas.List.Elements.{All-contains}
use Rattle.std.proofs.lemmas.Option.{same_Some}
use Rattle.odd_tokens.proofs.Ascii.{ascii_legal, is_printable}
use Rattle.odd_tokens.specs.Characters.{IsLegal, IsNCName}
use Rattle.odd_text.specs.Standing.{StandsIn}
use Rattle.odd_tree.specs.Elements.{given}
use Rattle.odd_tree.specs.declared.tree.Tree.{Tree}
use Rattle.odd_text.proofs.InList.{contained}
use Rattle.odd_tree.proofs.PrintedTrees.{IsPlain, Shows}
use Rattle.rng_types.specs.declared.data_type.DataType.{DataType}
use Rattle.rng_types.specs.declared.data_type.DataType.TheVariants as types
use Rattle.rng_types.specs.declared.facet.Facet.{Facet}
use Rattle.rng_types.specs.declared.facet.FacetName.{FacetName}
use Rattle.rng_types.specs.declared.facet.FacetName.TheVariants as facet
use Rattle.rng_types.specs.declared.item.Item.{Item}
use Rattle.rng_types.specs.declared.item.Item.TheVariants as item
use Rattle.rng_values.specs.Items.{ItemFault}
use Rattle.rng_emit.specs.Grammar.{facet_name}
use Rattle.odd_forms.specs.Names.{tei_namespace}
use Rattle.odd_forms.specs.Tags.{facet_tagged, facets_given}
use Rattle.odd_forms.specs.declared.element.Element.TheVariants as kind
use Rattle.odd_content.specs.FormedData.{IsFormedData, IsMadeItem}
use Rattle.odd_content.specs.Items.{item_by, item_given}
use Rattle.odd_emit.specs.Contents.{facet_markup, item_markup, key_said, type_name}
use Rattle.odd_emit.specs.Saying.{Said, a_text, says}
use Rattle.merged_laws.proofs.FacetTexts.{item_again, text_of, texts_of, texts_sound}
use Rattle.merged_laws.proofs.Fits.{facets_are, facets_told}
use Rattle.merged_laws.proofs.Kids.{tags_give}
use Rattle.merged_laws.proofs.Says.{IsPlaced, IsSound, Says, says_plain, says_told, sound}
use Rattle.merged_laws.proofs.Told.{all_made_of, name_of, tag_said}

-- names that the format fixes are printable
facet_printable : (name : FacetName) → IsTrue (is_printable (facet_name name))
facet_printable facet.Pattern = refl
facet_printable name = refl

type_printable : (k : DataType) → IsTrue (is_printable (type_name k))
type_printable types.String = refl
type_printable k = refl

-- Facets

abbrev facet_said : Facet → List Said
facet_said f = says (codes "name") (a_text (facet_name f.name)) ∷ says (codes "value") (a_text f.value) ∷ []

pub facet_says : (f : Facet) → IsLegal f.value → Says kind.DataFacet (facet_said f) []
facet_says f legal = record { sayable = refl; right = refl; formed = (ascii_legal _ (facet_printable f.name), (legal, tt)); met = λ binds. tt; few = tt }

pub att_facet_says : (f : Facet) → IsLegal f.value → Says kind.AttDataFacet (facet_said f) []
att_facet_says f legal = record { sayable = refl; right = refl; formed = (ascii_legal _ (facet_printable f.name), (legal, tt)); met = λ binds. tt; few = tt }

-- Items

-- what is said of a datatype that is named
abbrev name_said : DataType → List Said
name_said k = says (codes "name") (a_text (type_name k)) ∷ []

-- the facets that its children give
facets_back : (k : DataType) (facets : List Facet) → facets_told (name_said k) (map tag_said (map facet_markup facets)) ≡ texts_of facets
facets_back k facets = tags_give facet_markup facet_tagged text_of (λ f. refl) facets

typed_sound : (k : DataType) (facets : List Facet) → IsMadeItem k facets → (name : List ℕ) → Some (type_name k) ≡ Some name → (rule : ℕ)
    → ItemFault name (facets_told (name_said k) (map tag_said (map facet_markup facets))) rule → ⊥
typed_sound k facets m name is rule f =
    texts_sound k facets m rule (subst (λ xs. ItemFault (type_name k) xs rule) (facets_back k facets) (subst (λ n. ItemFault n (facets_told (name_said k) (map tag_said (map facet_markup facets))) rule) (sym (same_Some _ _ is)) f))

pub key_says : (key : List ℕ) → IsNCName key → Says kind.DataRef (key_said key ∷ []) []
key_says key n = record { sayable = refl; right = refl; formed = (n, tt); met = λ binds. (refl, (refl, (refl, (refl, (refl, (refl, ((λ name e. cc), tt))))))); few = tt }

pub att_key_says : (key : List ℕ) → IsNCName key → Says kind.AttDataRef (key_said key ∷ []) []
att_key_says key n = record { sayable = refl; right = refl; formed = (n, tt); met = λ binds. (refl, (refl, (refl, (refl, ((λ name e. cc), tt))))); few = tt }

pub typed_says : (k : DataType) (facets : List Facet) → IsMadeItem k facets → Says kind.DataRef (name_said k) (map facet_markup facets)
typed_says k facets m = record {
  sayable = refl;
  right = refl;
  formed = (ascii_legal _ (type_printable k), tt);
  met = λ binds. (refl, (refl, (refl, (refl, (refl, (refl, (typed_sound k facets m, tt)))))));
  few = tt;
}

pub att_typed_says : (k : DataType) (facets : List Facet) → IsMadeItem k facets → Says kind.AttDataRef (name_said k) (map facet_markup facets)
att_typed_says k facets m = record {
  sayable = refl;
  right = refl;
  formed = (ascii_legal _ (type_printable k), tt);
  met = λ binds. (refl, (refl, (refl, (refl, (typed_sound k facets m, tt)))));
  few = tt;
}

-- the values of the facets are of XML's characters
value_legal : (k : DataType) (facets : List Facet) → IsMadeItem k facets → (f : Facet) → StandsIn facets f → IsLegal f.value
value_legal k facets m f s = All-contains (λ (g : Facet). IsLegal g.value) facets f m.legal (contained facets f s)

pub item_named : (i : Item) → name_of (item_markup i) ≡ codes "dataRef"
item_named (item.Key key) = refl
item_named (item.Typed k facets) = refl

-- its markup is plain
pub item_plain : (i : Item) → IsFormedData i → IsPlain (item_markup i)
item_plain (item.Key key) f = says_plain kind.DataRef (key_said key ∷ []) [] (key_says key f) tt
item_plain (item.Typed k facets) f =
    says_plain kind.DataRef (name_said k) (map facet_markup facets) (typed_says k facets f)
    (all_made_of facet_markup IsPlain facets (λ g s. says_plain kind.DataFacet (facet_said g) [] (facet_says g (value_legal k facets f g s)) tt))

-- it breaks nothing, in a content and in a list of attributes
pub item_sound : (left : ℕ) (i : Item) → IsFormedData i → IsSound kind.DataRef left (item_markup i)
item_sound left (item.Key key) f = sound kind.DataRef left (key_said key ∷ []) [] (key_says key f) (λ e none. cc) tt
item_sound left (item.Typed k facets) f =
    sound kind.DataRef left (name_said k) (map facet_markup facets) (typed_says k facets f) (λ e none. cc)
    (all_made_of facet_markup (IsPlaced kind.DataRef left) facets (λ g s. (kind.DataFacet, refl, sound kind.DataFacet left (facet_said g) [] (facet_says g (value_legal k facets f g s)) (λ e none. cc) tt)))

pub att_item_sound : (left : ℕ) (i : Item) → IsFormedData i → IsSound kind.AttDataRef left (item_markup i)
att_item_sound left (item.Key key) f = sound kind.AttDataRef left (key_said key ∷ []) [] (att_key_says key f) (λ e none. cc) tt
att_item_sound left (item.Typed k facets) f =
    sound kind.AttDataRef left (name_said k) (map facet_markup facets) (att_typed_says k facets f) (λ e none. cc)
    (all_made_of facet_markup (IsPlaced kind.AttDataRef left) facets (λ g s. (kind.AttDataFacet, refl, sound kind.AttDataFacet left (facet_said g) [] (att_facet_says g (value_legal k facets f g s)) (λ e none. cc) tt)))

-- a tree that shows it gives it
pub item_back : (i : Item) (t : Tree) → IsFormedData i → Shows tei_namespace [] (item_markup i) t → item_given t ≡ Some i
item_back (item.Key key) t f s =
    let k = says_told kind.DataRef (key_said key ∷ []) [] t (key_says key f) s in ap (λ o. item_by o (given t (codes "name")) (facets_given t)) (k.given (codes "key"))
item_back (item.Typed k facets) t f s =
    let told = says_told kind.DataRef (name_said k) (map facet_markup facets) t (typed_says k facets f) s in
    let facets_is = facets_are [] (name_said k) (map tag_said (map facet_markup facets)) t told.given told.tags ∙ facets_back k facets in
    ap (λ o. item_by o (given t (codes "name")) (facets_given t)) (told.given (codes "key")) ∙ ap (λ o. item_by None o (facets_given t)) (told.given (codes "name"))
    ∙ ap (λ xs. item_by None (Some (type_name k)) xs) facets_is ∙ item_again k facets f
