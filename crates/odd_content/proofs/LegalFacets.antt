-- The facets of a `dataRef` whose tree is formed are of characters that XML can write.
use Rattle.std.proofs.Common.{◌≡◌, ℕ, List, [], ◌∷◌, Option, Some, None, All, codes, map, refl, subst, sym}
use Rattle.std.proofs.lemmas.Bool.{cond_both}
use Rattle.std.proofs.lemmas.List.Elements.{All-append, All-cons, All-contains, All-contains_itself, All-nil, All-weaker}
use Rattle.std.specs.List.{Contains, cons_option, filter_map}
use Rattle.std.specs.Option.{IfSome, option_map, option_to_list}
use Rattle.odd_tokens.specs.Characters.{IsLegal}
use Rattle.odd_text.proofs.InList.{stands_first, stands_later}
use Rattle.odd_text.specs.Standing.{StandsIn}
use Rattle.odd_tree.specs.Elements.{children_of, given}
use Rattle.odd_tree.specs.Formed.{IsFormed, IsFormedTag}
use Rattle.odd_tree.specs.declared.tree.Tree.{Tree, out-Tree}
use Rattle.rng_types.specs.declared.facet.Facet.{Facet}
use Rattle.rng_types.specs.declared.facet.FacetText.{FacetText}
use Rattle.rng_values.proofs.InOrder.{none_else}
use Rattle.rng_values.specs.Making.{in_order}
use Rattle.odd_forms.specs.Names.{is_one_of}
use Rattle.odd_forms.specs.Tags.{facet_of, facet_tagged, facets_given, restriction_in, tag_of}
use Rattle.odd_content.proofs.FormedTrees.{child_formed, tag_formed}
use Rattle.odd_content.proofs.Unbroken.{legal_given}

-- the value of a facet is legal
abbrev pub HasLegalValue : FacetText → Type 0
HasLegalValue f = IsLegal f.value

-- that of the pattern that a `restriction` is
restriction_legal : (t : Tree) → IsFormedTag t → All HasLegalValue (restriction_in (out-Tree t).attrs)
restriction_legal t formed = by (given t (codes "restriction")) (λ value is. legal_given t (codes "restriction") value formed is)
  where
    by : (o : Option (List ℕ)) → ((value : List ℕ) → o ≡ Some value → IsLegal value) → All HasLegalValue (option_to_list (option_map (λ value. record { name = codes "pattern"; value = value }) o))
    by None legal = All-nil HasLegalValue
    by (Some value) legal = All-cons HasLegalValue _ [] (legal value refl) (All-nil HasLegalValue)

-- that of a child, where it is a facet
child_legal : (child : Tree) → IsFormedTag child → IfSome (facet_tagged (tag_of child)) HasLegalValue
child_legal child formed =
    cond_both (is_one_of (codes "dataFacet" ∷ []) child) (facet_of (given child (codes "name")) (given child (codes "value"))) None (λ o. IfSome o HasLegalValue)
    (λ is. by (given child (codes "name")) (given child (codes "value")) (λ value told. legal_given child (codes "value") value formed told)) (λ other. tt)
  where
    by : (name o : Option (List ℕ)) → ((value : List ℕ) → o ≡ Some value → IsLegal value) → IfSome (facet_of name o) HasLegalValue
    by None o legal = tt
    by (Some name) None legal = tt
    by (Some name) (Some value) legal = legal value refl

-- those of all children
children_legal : (children : List Tree) → ((child : Tree) → StandsIn children child → IsFormedTag child) → All HasLegalValue (filter_map facet_tagged (map tag_of children))
children_legal [] formed = All-nil HasLegalValue
children_legal (child ∷ children) formed =
    by (facet_tagged (tag_of child)) _ (child_legal child (formed child (stands_first child children))) (children_legal children (λ later s. formed later (stands_later child later children s)))
  where
    by : (o : Option FacetText) (facets : List FacetText) → IfSome o HasLegalValue → All HasLegalValue facets → All HasLegalValue (cons_option o facets)
    by None facets one rest = rest
    by (Some f) facets one rest = All-cons HasLegalValue f facets one rest

-- and so all that the tree gives are legal
pub facets_legal : (t : Tree) {first end : ℕ} → IsFormed first end t → All HasLegalValue (facets_given t)
facets_legal t formed =
    All-append HasLegalValue (restriction_in (out-Tree t).attrs) (filter_map facet_tagged (map tag_of (children_of t))) (restriction_legal t (tag_formed formed))
    (children_legal (children_of t) (λ child s. tag_formed (child_formed formed child s).2))

-- then those that stand in the order of their names are
pub made_legal : (facets : List FacetText) → All HasLegalValue facets → All (λ (f : Facet). IsLegal f.value) (in_order facets)
made_legal facets legal =
    All-weaker (Contains (in_order facets)) (λ (f : Facet). IsLegal f.value)
    (λ g stands. (let from = none_else facets g stands in subst IsLegal (sym from.2.value) (All-contains HasLegalValue facets from.0 legal from.1)))
    (in_order facets) (All-contains_itself (in_order facets))
