-- Where what is left of a file without its constraints has no offence, the file has one `schemaSpec` at most and of each id one group: the search never goes into a constraint.
use Rattle.std.proofs.Common.{◌≡◌, ◌≤◌, ℕ, ◌&&◌, not, Bool, true, false, List, [], ◌∷◌, ◌++◌, length, inl, inr, refl, sym, ap, subst, ◌∙◌, arith}
use Rattle.std.proofs.lemmas.Bool.{and_right, cases_Bool, false≢true}
use Rattle.std.specs.Prelude.{codes}
use Rattle.odd_text.proofs.InList.{stands_first}
use Rattle.odd_text.specs.Same.{is_among, is_same}
use Rattle.odd_text.specs.Standing.{StandsIn}
use Rattle.odd_text.specs.declared.name.Bind.{Bind}
use Rattle.odd_tree.specs.Elements.{children_of, within}
use Rattle.odd_tree.specs.declared.tree.Tree.{Tree, out-Tree}
use Rattle.odd_forms.specs.Names.{is_one_of, is_tei, tei_namespace}
use Rattle.odd_items.proofs.ByNames.{always}
use Rattle.odd_items.specs.Constraints.{IsConstraint}
use Rattle.odd_items.specs.Constraints as inner
use Rattle.odd_items.specs.Groups.{group_names, id_among, schema_names}
use Rattle.odd_items.specs.Search.{Finds, FindsAmong, Found, is_searched, own}
use Rattle.odd_items.specs.Search as search
use Rattle.odd_items.specs.Without.{IsWithout}
use Rattle.odd_items.specs.Without as without
use Rattle.odd_decls.specs.Aside.{IsConstraintOf, IsLeftOut, IsReadOf}
use Rattle.odd_decls.specs.Aside as aside
use Rattle.odd_decls.specs.Items.{at_of}
use Rattle.odd_decls.specs.Offences.{HasIdAgain, Offends, OffendsWhole, SchemasOffend}
use Rattle.order_laws.proofs.WithoutThere.{AreLeft, attrs_kept, binds_kept, elements_left, name_kept, same_names}
use Rattle.order_laws.proofs.WithoutThere as left

-- one `schemaSpec` at most, and of each id one group
pub record HasOneOfEach (t : Tree) : Type 0 where
  pub schema : (found : List Found) → Finds schema_names false [] t found → length found ≤ 1
  pub ids : (place : ℕ) → HasIdAgain t place → ⊥

-- two elements that were found have one name and the same attributes
record IsSameTag (f g : Found) : Type 0 where
  name : (out-Tree f.element).name ≡ (out-Tree g.element).name
  attrs : (out-Tree f.element).attrs ≡ (out-Tree g.element).attrs

-- of several, in their order
data AreSameTags : List Found → List Found → Type 0 where
  none : AreSameTags [] []
  more : {f g : Found} {fs gs : List Found} → IsSameTag f g → AreSameTags fs gs → AreSameTags (f ∷ fs) (g ∷ gs)

tags_append : {fs gs hs ks : List Found} → AreSameTags fs gs → AreSameTags hs ks → AreSameTags (fs ++ hs) (gs ++ ks)
tags_append none k = k
tags_append (more s rest) k = more s (tags_append rest k)

as_many : {fs gs : List Found} → AreSameTags fs gs → length fs ≡ length gs
as_many none = refl
as_many (more s rest) = omega (arith, as_many rest)

-- where the first list parts the second does
record TagParts (before : List Found) (f : Found) (others : List Found) : Type 0 where
  first : List Found
  later : List Found
  g : Found
  is : others ≡ first ++ g ∷ later
  same_first : AreSameTags before first
  same : IsSameTag f g

tag_parts : (before after : List Found) {f : Found} {others : List Found} → AreSameTags (before ++ f ∷ after) others → TagParts before f others
tag_parts [] after (more {g = g} {gs = gs} s rest) = record { first = []; later = gs; g = g; is = refl; same_first = none; same = s }
tag_parts (x ∷ before) after (more {g = g} {gs = gs} s rest) =
    let p = tag_parts before after rest in
    record { first = g ∷ p.first; later = p.later; g = p.g; is = ap (λ fs. g ∷ fs) p.is; same_first = more s p.same_first; same = p.same }

stands_there : {fs gs : List Found} {f : Found} → AreSameTags fs gs → StandsIn fs f → (g : Found) × StandsIn gs g × IsSameTag f g
stands_there {gs = gs} {f = f} tags s =
    let p = tag_parts s.0 s.1 (subst (λ fs. AreSameTags fs gs) s.2 tags) in
    (p.g, (p.first, p.later, p.is), p.same)

module _ (Gone : Tree → Type 0) (are : (t : Tree) → Gone t → IsConstraint t) (names : List (List ℕ)) (outermost : Bool) where
  -- what is gone is not searched
  gone_passed : (t : Tree) → Gone t → is_searched t ≡ false
  gone_passed t g = and_right (is_tei t) (not (is_one_of (codes "constraintSpec" ∷ []) t)) (ap not (are t g))

  -- so nothing is found in it
  none_in_gone : (around : List Bind) (t : Tree) (found : List Found) → Gone t → Finds names outermost around t found → found ≡ []
  none_in_gone around t found g (search.passed q) = refl
  none_in_gone around t found g (search.outer q o n) = absurd (false≢true (sym (gone_passed t g) ∙ q))
  none_in_gone around t found g (search.through inner q apart among is) = absurd (false≢true (sym (gone_passed t g) ∙ q))

  -- what is left of an element is searched where that is
  searched_left : {t r : Tree} {count : ℕ} → IsWithout Gone t r count → is_searched r ≡ is_searched t
  searched_left w =
      ap (λ name. is_same name.ns tei_namespace && not (is_same name.ns tei_namespace && is_among (codes "constraintSpec" ∷ []) name.local)) (name_kept Gone w)

  tag_left : (around there : List Bind) {t r : Tree} {count : ℕ} → IsWithout Gone t r count → IsSameTag (record { around = around; element = t }) (record { around = there; element = r })
  tag_left around there w = record { name = sym (name_kept Gone w); attrs = sym (attrs_kept Gone w) }

  own_left : (around : List Bind) {t r : Tree} {count : ℕ} → IsWithout Gone t r count → AreSameTags (own names around t) (own names around r)
  own_left around {t = t} {r = r} w = elim (cases_Bool (is_one_of names t)) [
    | inl named ↦ let there : is_one_of names r ≡ true = same_names r t names (name_kept Gone w) ∙ named in rw named (rw there (more (tag_left around around w) none))
    | inr other ↦ let there : is_one_of names r ≡ false = same_names r t names (name_kept Gone w) ∙ other in rw other (rw there none)
  ]

  children_left : {t r : Tree} {count : ℕ} → IsWithout Gone t r count → AreLeft Gone (children_of t) (children_of r) count
  children_left (without.element name attrs binds at nodes) = elements_left Gone nodes

  mutual
    -- a search finds in what is left of an element what it finds in the element
    find_left : (around : List Bind) {t r : Tree} {count : ℕ} {found : List Found} → IsWithout Gone t r count → Finds names outermost around t found
        → (others : List Found) × Finds names outermost around r others × AreSameTags found others
    find_left around w (search.passed q) = ([], search.passed (searched_left w ∙ q), none)
    find_left around {t = t} {r = r} w (search.outer q o named) =
        (record { around = around; element = r } ∷ [], search.outer (searched_left w ∙ q) o (same_names r t names (name_kept Gone w) ∙ named), more (tag_left around around w) none)
    find_left around {t = t} {r = r} w (search.through inner q apart among is) =
        let h = among_left (within around t) (children_left w) among in (
          own names around r ++ h.0,
          search.through h.0 (searched_left w ∙ q) (ap (λ b. outermost && b) (same_names r t names (name_kept Gone w)) ∙ apart)
              (subst (λ binds. FindsAmong names outermost (around ++ binds) (children_of r) h.0) (sym (binds_kept Gone w)) h.1) refl,
          subst (λ fs. AreSameTags fs (own names around r ++ h.0)) (sym is) (tags_append (own_left around w) h.2),
        )

    -- and so it does among several
    among_left : (around : List Bind) {ts us : List Tree} {count : ℕ} {found : List Found} → AreLeft Gone ts us count → FindsAmong names outermost around ts found
        → (others : List Found) × FindsAmong names outermost around us others × AreSameTags found others
    among_left around left.nothing search.nothing = ([], search.nothing, none)
    among_left around (left.kept stays w rest) (search.element first later one among is) =
        let f = find_left around w one in
        let h = among_left around rest among in
        (f.0 ++ h.0, search.element f.0 h.0 f.1 h.1 refl, subst (λ fs. AreSameTags fs (f.0 ++ h.0)) (sym is) (tags_append f.2 h.2))
    among_left around (left.gone {t = t} g rest) (search.element first later one among is) =
        let h = among_left around rest among in
        (h.0, h.1, subst (λ fs. AreSameTags fs h.0) (sym (is ∙ ap (λ fs. fs ++ later) (none_in_gone around t first g one))) h.2)

-- what is taken out is a constraint
constraint_of : {item c : Tree} → IsConstraintOf item c → IsConstraint c
constraint_of (aside.itself is) = is
constraint_of (aside.inside e is (inner.child g parent read leaves s it)) = it

left_out : (t : Tree) (schemas : List Found) (c : Tree) → IsLeftOut t schemas c → IsConstraint c
left_out t schemas c (item, is, of) = constraint_of of

-- a file without an offence has one `schemaSpec` at most
few_schemas : {r : Tree} → ((place rule : ℕ) → OffendsWhole r place rule → ⊥) → (found : List Found) → Finds schema_names false [] r found → length found ≤ 1
few_schemas sound [] f = omega arith
few_schemas sound (a ∷ []) f = omega arith
few_schemas sound (a ∷ b ∷ rest) f = absurd (sound (at_of b) 4 (record { schemas = a ∷ b ∷ rest; found = f; offends = Offends.schema (SchemasOffend.again b (stands_first b rest) refl) }))

pub once_each : {t r : Tree} {count : ℕ} → IsReadOf t true r count → ((place rule : ℕ) → OffendsWhole r place rule → ⊥) → HasOneOfEach t
once_each {t = t} {r = r} (aside.without schemas finds w) sound = record {
  schema = λ found f.
      let h = find_left (IsLeftOut t schemas) (left_out t schemas) schema_names false [] w f in
      omega (arith, few_schemas sound h.0 h.1, as_many h.2);
  ids = λ place again.
      let h = find_left (IsLeftOut t schemas) (left_out t schemas) group_names false [] w again.found in
      let p = tag_parts again.before again.after h.2 in
      let e = stands_there p.same_first again.is_before in
      let there : HasIdAgain r (at_of p.g) = record {
        id = again.id;
        before = p.first;
        after = p.later;
        earlier = e.0;
        later = p.g;
        found = subst (Finds group_names false [] r) p.is h.1;
        is_before = e.1;
        earlier_has = ap id_among (sym e.2.attrs) ∙ again.earlier_has;
        has = ap id_among (sym p.same.attrs) ∙ again.has;
        placed = refl;
      } in
      let all = always schema_names false [] r in
      sound (at_of p.g) 4 (record { schemas = all.0; found = all.1; offends = Offends.group there });
}
