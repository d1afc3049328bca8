-- What a `data` and a `value` stand for is one thing.
use Rattle.std.proofs.Common.{◌≡◌, ◌≤◌, ◌+◌, ℕ, List, [], ◌∷◌, ◌++◌, ⊎_elim, refl, sym, ap, subst, ◌∙◌, arith, rules, IsTrue}
use Rattle.std.proofs.lemmas.Bool.{ltb-true}
use Rattle.std.proofs.lemmas.Option.{same_Some}
use Rattle.std.specs.List.{Contains}
use Rattle.std.specs.Prelude.{nat_lt}
use Rattle.odd_tree.specs.Elements.{shown_text}
use Rattle.odd_tree.specs.declared.tree.Node.{Node, out-Node}
use Rattle.odd_tree.specs.declared.tree.Node as N
use Rattle.odd_tree.specs.declared.tree.Tree.{Tree, out-Tree}
use Rattle.rng_types.specs.declared.data_type.DataType.{DataType}
use Rattle.rng_types.specs.declared.facet.Facet.{Facet}
use Rattle.rng_types.specs.declared.facet.FacetText.{FacetText}
use Rattle.rng_types.specs.declared.item.Item.{Item}
use Rattle.rng_types.specs.declared.item.Item.TheVariants as items
use Rattle.rng_values.proofs.Standing.{here, here_or_later, later, nowhere}
use Rattle.rng_values.specs.Items.{IsFacetOf, IsItemOf, place_of}
use Rattle.rng_grammar.specs.Denoting.{AreParams, HasText, IsData, IsParam, IsSame, parts_of, read_as}
use Rattle.rng_grammar.specs.Denoting as denoting
use Rattle.rng_grammar.specs.declared.grammar.Expr.TheVariants as expr

-- the text of the first child
abbrev first_text : List Node → List ℕ
first_text [] = []
first_text (n ∷ ns) = shown_text (out-Node n)

-- the text of an element is that of its first child
is_first : (ns : List Node) (a : List ℕ) → HasText ns a → first_text ns ≡ a
is_first ns a denoting.nothing = refl
is_first ns a denoting.text = search (rules, N.the_lemmas)

-- the text of an element is one text
pub one_text : (ns : List Node) (a b : List ℕ) → HasText ns a → HasText ns b → a ≡ b
one_text ns a b h k = sym (is_first ns a h) ∙ is_first ns b k

-- a `param` is one facet
one_param : (t : Tree) (f g : FacetText) → IsParam t f → IsParam t g → f ≡ g
one_param t f g h k =
    let names : f.name ≡ g.name = same_Some _ _ (sym h.named ∙ k.named) in
    let values : f.value ≡ g.value = one_text (out-Tree t).children f.value g.value h.written k.written in
    λ i. record { name = names i; value = values i }

-- params are one list of facets
one_params : (ts : List Tree) (fs gs : List FacetText) → AreParams ts fs → AreParams ts gs → fs ≡ gs
one_params ts fs gs denoting.none denoting.none = refl
one_params ts fs gs (denoting.more h hs) (denoting.more k ks) = λ i. one_param _ _ _ h k i ∷ one_params _ _ _ hs ks i

-- each stands after those before it, and the first from a place on
abbrev pub RisesFrom : ℕ → List Facet → Type 0
RisesFrom n [] = Unit {0}
RisesFrom n (g ∷ gs) = (n ≤ place_of g.name) × RisesFrom (place_of g.name + 1) gs

-- of two that stand side by side the second has the later name
abbrev pub AreApart : List Facet → Type 0
AreApart gs = (before after : List Facet) (f g : Facet) → gs ≡ before ++ f ∷ (g ∷ after) → IsTrue (nat_lt (place_of f.name) (place_of g.name))

-- such facets rise after the first
rises_after : (g : Facet) (gs : List Facet) → AreApart (g ∷ gs) → RisesFrom (place_of g.name + 1) gs
rises_after g [] h = tt
rises_after g (k ∷ gs) h =
    let up = ltb-true (place_of g.name) (place_of k.name) (h [] gs g k refl) in
    (omega (arith, up), rises_after k gs (λ before after f l e. h (g ∷ before) after f l (ap (λ ks. g ∷ ks) e)))

-- and with it
pub rises : (gs : List Facet) → AreApart gs → RisesFrom 0 gs
rises [] h = tt
rises (g ∷ gs) h = (omega arith, rises_after g gs h)

-- no facet stands before the place from which they rise
not_before : (n : ℕ) (gs : List Facet) (f : Facet) → RisesFrom n gs → Contains gs f → n ≤ place_of f.name
not_before n [] f r c = absurd (nowhere f c)
not_before n (g ∷ gs) f r c =
    ⊎_elim (λ e. subst (λ (k : Facet). n ≤ place_of k.name) e r.0) (λ l. let low = r.0 in let up = not_before (place_of g.name + 1) gs f r.1 l in omega (arith, low, up))
    (here_or_later g f gs c)

-- a facet of the rest is not the first
in_rest : (g h f : Facet) (gs hs : List Facet) → g ≡ h → RisesFrom (place_of g.name + 1) gs → Contains gs f → Contains (h ∷ hs) f → Contains hs f
in_rest g h f gs hs e r c d =
    ⊎_elim (λ is. let up = not_before (place_of g.name + 1) gs f r c in let same = ap (λ (k : Facet). place_of k.name) (e ∙ is) in absurd (omega (arith, up, same))) (λ k. k)
    (here_or_later h f hs d)

-- two facets of which each is the first, or stands after the other, are the same
same_first : (g h : Facet) (gs hs : List Facet) → RisesFrom (place_of g.name + 1) gs → RisesFrom (place_of h.name + 1) hs → Contains (h ∷ hs) g → Contains (g ∷ gs) h → g ≡ h
same_first g h gs hs r s c d =
    let above : Contains hs g → place_of h.name + 1 ≤ place_of g.name = not_before (place_of h.name + 1) hs g s in
    let below : Contains gs h → place_of g.name + 1 ≤ place_of h.name = not_before (place_of g.name + 1) gs h r in
    ⊎_elim (λ e. sym e) (λ l. ⊎_elim (λ e. e) (λ k. let up = above l in let low = below k in absurd (omega (arith, up, low))) (here_or_later g h gs d)) (here_or_later h g hs c)

-- facets that rise and hold the same are the same
same_facets : (n m : ℕ) (gs hs : List Facet) → RisesFrom n gs → RisesFrom m hs
    → ((f : Facet) → Contains gs f → Contains hs f) → ((f : Facet) → Contains hs f → Contains gs f) → gs ≡ hs
same_facets n m [] [] r s to from = refl
same_facets n m [] (h ∷ hs) r s to from = absurd (nowhere h (from h (here h hs)))
same_facets n m (g ∷ gs) [] r s to from = absurd (nowhere g (to g (here g gs)))
same_facets n m (g ∷ gs) (h ∷ hs) r s to from =
    let first = same_first g h gs hs r.1 s.1 (to g (here g gs)) (from h (here h hs)) in
    let forth : (f : Facet) → Contains gs f → Contains hs f = λ f c. in_rest g h f gs hs first r.1 c (to f (later g f gs c)) in
    let back : (f : Facet) → Contains hs f → Contains gs f = λ f c. in_rest h g f hs gs (sym first) s.1 c (from f (later h f hs c)) in
    let rest = same_facets (place_of g.name + 1) (place_of h.name + 1) gs hs r.1 s.1 forth back in
    λ i. first i ∷ rest i

-- the text of a facet says one facet
one_facet : (f : FacetText) (g h : Facet) → IsFacetOf f g → IsFacetOf f h → g ≡ h
one_facet f g h a b =
    let names : g.name ≡ h.name = same_Some _ _ (sym a.name ∙ b.name) in
    let values : g.value ≡ h.value = a.value ∙ sym b.value in
    λ i. record { name = names i; value = values i }

-- a facet that one item has, the other has too
also_made : (name : List ℕ) (facets : List FacetText) (item other : Item) (h : IsItemOf name facets item) (k : IsItemOf name facets other) (g : Facet)
    → Contains h.made g → Contains k.made g
also_made name facets item other h k g c =
    let said = h.none_else g c in
    let made = k.each said.0 said.1 in
    subst (Contains k.made) (one_facet said.0 made.0 g made.2 said.2) made.1

-- a name and facets make one item
pub one_item : (name : List ℕ) (facets : List FacetText) (item other : Item) → IsItemOf name facets item → IsItemOf name facets other → item ≡ other
one_item name facets item other h k =
    let kinds : h.kind ≡ k.kind = same_Some _ _ (sym h.is_kind ∙ k.is_kind) in
    let made = same_facets 0 0 h.made k.made (rises _ h.rising) (rises _ k.rising) (also_made name facets item other h k) (also_made name facets other item k h) in
    h.item_is ∙ (λ i. items.Typed (kinds i) (made i)) ∙ sym k.item_is

-- a `data` is of one type with facets
pub one_data : (t : Tree) (k l : DataType) (fs gs : List Facet) → IsData t k fs → IsData t l gs → expr.Typed k fs ≡ expr.Typed l gs
one_data t k l fs gs h j =
    let types : h.type ≡ j.type = same_Some _ _ (sym h.typed ∙ j.typed) in
    let params : h.params ≡ j.params = one_params (parts_of t) h.params j.params h.are_params j.are_params in
    let made = items.Typed h.kind fs in
    let item : IsItemOf j.type j.params made = subst (λ n. IsItemOf n j.params made) types (subst (λ ps. IsItemOf h.type ps made) params h.item) in
    let same : items.Typed h.kind fs ≡ items.Typed j.kind gs = one_item j.type j.params _ _ item j.item in
    let kinds : h.kind ≡ j.kind = cc in
    let facets : fs ≡ gs = cc in
    let read : k ≡ l = h.read ∙ ap read_as kinds ∙ sym j.read in
    λ i. expr.Typed (read i) (facets i)

-- a `value` is one text
pub one_same : (t : Tree) (a b : List ℕ) → IsSame t a → IsSame t b → a ≡ b
one_same t a b h k = one_text (out-Tree t).children a b h.written k.written
