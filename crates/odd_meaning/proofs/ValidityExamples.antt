-- Which small elements are valid for an element of a library, and which are not.
use Rattle.std.proofs.Common.{◌≡◌, ℕ, suc, false, ◌||◌, List, [], ◌∷◌, Some, None, refl, sym, ap, subst, ◌∙◌, codes}
use Rattle.std.specs.FinMap.{find}
use Rattle.std.specs.List.{list_any}
use Rattle.std.proofs.lemmas.Bool.{false≢true}
use Rattle.std.proofs.lemmas.List.Elements.{All-nil, All-head}
use Rattle.std.proofs.lemmas.Option.{same_Some}
use Rattle.odd_text.specs.Key.{key_cmp}
use Rattle.odd_text.specs.Text.{text_cmp}
use Rattle.odd_text.specs.declared.key.Key.{Key}
use Rattle.odd_attributes.specs.declared.att_def.AttDef.{AttDef}
use Rattle.odd_attributes.specs.declared.att_edit.AttEdit.TheVariants.{Set}
use Rattle.odd_content.specs.declared.content.Content.{Content}
use Rattle.odd_content.specs.declared.content.Content.TheVariants as content
use Rattle.odd_library.specs.Odd.{element_key}
use Rattle.odd_library.specs.declared.library.Component.{Component}
use Rattle.odd_library.specs.declared.library.Component.TheVariants as component
use Rattle.odd_library.specs.declared.library.ElementPart.{ElementPart}
use Rattle.odd_library.specs.declared.library.Library.{Library}
use Rattle.odd_forms.specs.Names.{tei_namespace}
use Rattle.odd_text.proofs.InList.{nothing_stands}
use Rattle.odd_tree.specs.Significant.{IsSignificant, Marking, depth, is_element, whole}
use Rattle.odd_tree.specs.declared.tree.Node.{Node}
use Rattle.odd_text.specs.Standing.{StandsIn}
use Rattle.odd_tree.specs.declared.tree.Tree.{Tree, out-Tree}
use Rattle.odd_meaning.specs.Admission.{AreAdmitted, IsValid, IsValidBy, IsValidWithin, children, counting, value}
use Rattle.odd_meaning.specs.Attributed.{AreAdmittedAttributes, IsAdmittedAttribute}
use Rattle.odd_meaning.specs.Contents as contents
use Rattle.odd_meaning.specs.Labels.{Label}
use Rattle.odd_meaning.specs.Links.{memberships}
use Rattle.odd_meaning.specs.Naming.{element_name}
use Rattle.odd_meaning.specs.Offering.{Offers, edits_of, inherited, own}
use Rattle.odd_meaning.specs.Values.{IsDataValue}
use Rattle.odd_tree.proofs.PrintedTrees.{apart}
use Rattle.odd_meaning.proofs.ExampleTrees.{attribute, bare_depth, branch, branch_depth, childless_depth, element, element_in, leaf, leaf_alone_counts, leaf_element, none_counts, space, space_alone, space_counts, space_depth, space_is_passed, words, words_alone, words_count, words_depth}

-- a namespace and a content, with no module and in no class
abbrev pub part_in : List ℕ → Content → ElementPart
part_in ns k = record { «module» = []; ns = ns; alt = None; classes = []; content = k; atts = [] }

-- a library that holds one element, and one that holds an element of TEI's
abbrev pub holding_part : List ℕ → ElementPart → Library
holding_part ident part = record { ident = codes "s"; start = ident ∷ []; parts = (element_key ident, component.Element part) ∷ [] }

abbrev pub holding : List ℕ → Content → Library
holding ident k = holding_part ident (part_in tei_namespace k)

-- such an element offers no attribute
none_offered : (ns : List ℕ) (k : Content) (library : Library) (holder : Key) → find key_cmp holder library.parts ≡ Some (component.Element (part_in ns k))
    → (ident : List ℕ) (def : AttDef) (giver : Key) → Offers library holder ident def giver → ⊥
none_offered ns k library holder held ident def giver (own part is set) =
    let e = subst (λ (p : Component). find text_cmp ident (edits_of p) ≡ Some (Set def)) (same_Some _ _ (sym is ∙ held)) set in
    cc
none_offered ns k library holder held ident def giver (inherited part class before is among offered passes) =
    nothing_stands class (subst (λ (p : Component). StandsIn (memberships p) class) (same_Some _ _ (sym is ∙ held)) among)

-- so where no attribute is there, those are that it needs
pub none_there : (ns : List ℕ) (k : Content) (library : Library) (ident : List ℕ)
    → find key_cmp (element_key ident) library.parts ≡ Some (component.Element (part_in ns k)) → AreAdmittedAttributes library ident []
none_there ns k library ident held =
    record { admitted = All-nil _; complete = λ name def giver o. absurd (none_offered ns k library (element_key ident) held name def giver o) }

-- what an element `a` with these children needs to be valid for the held `a`
valid : (k : Content) (nodes kept : List Node) (levels : ℕ) → depth (element (codes "a") [] nodes) ≡ suc levels → IsSignificant nodes kept
    → contents.Admits (holding (codes "a") k) (counting (IsValidWithin levels (holding (codes "a") k))) k kept
    → IsValid (holding (codes "a") k) (element (codes "a") [] nodes) (codes "a")
valid k nodes kept levels e s m =
    subst (λ n. IsValidWithin n (holding (codes "a") k) (element (codes "a") [] nodes) (codes "a")) (sym e)
    (record { part = part_in tei_namespace k; held = refl; named = refl; attributed = none_there tei_namespace k _ _ refl; admitted = children kept s m })

-- and what it tells where it is
pub opened : (library : Library) (t : Tree) (ident : List ℕ) (levels : ℕ) → depth t ≡ suc levels → IsValid library t ident
    → IsValidBy (counting (IsValidWithin levels library)) library t ident
opened library t ident levels e v = subst (λ n. IsValidWithin n library t ident) e v

-- one element is one part
pub one_part : (p q : ElementPart) → component.Element p ≡ component.Element q → p ≡ q
one_part p q e = cc

-- the held `a`, and its name
the_part : (part : ElementPart) (t : Tree) (counts : Marking Label) (v : IsValidBy counts (holding_part (codes "a") part) t (codes "a")) → v.part ≡ part
the_part part t counts v = one_part v.part part (same_Some _ _ (sym v.held))

the_name : (part : ElementPart) (t : Tree) (counts : Marking Label) → IsValidBy counts (holding_part (codes "a") part) t (codes "a")
    → (out-Tree t).name ≡ element_name (codes "a") part
the_name part t counts v = v.named ∙ ap (element_name (codes "a")) (the_part part t counts v)

-- the content admits the significant children
abbrev Keeps : Content → Tree → Marking Label → Type 0
Keeps k t counts = (kept : List Node) × IsSignificant (out-Tree t).children kept × contents.Admits (holding (codes "a") k) counts k kept

-- so it does where it admits no text as a value
kept_admitted : (k : Content) (t : Tree) (counts : Marking Label) → IsValidBy counts (holding (codes "a") k) t (codes "a")
    → ((cs : List ℕ) → IsDataValue (holding (codes "a") k) k cs → ⊥) → Keeps k t counts
kept_admitted k t counts v data_free =
    let is = the_part (part_in tei_namespace k) t counts v in
    elim (subst (λ (p : ElementPart). AreAdmitted counts (holding (codes "a") k) p.content t) is v.admitted) [
      | children kept s m ↦ (kept, s, m)
      | value none d ↦ absurd (data_free _ d)
    ]

-- empty content: no child and white space, no words, no element
empty_without_children : IsValid (holding (codes "a") content.Empty) (element (codes "a") [] []) (codes "a")
empty_without_children = valid content.Empty [] [] 0 (childless_depth (codes "a") []) none_counts refl

empty_with_space : IsValid (holding (codes "a") content.Empty) (element (codes "a") [] (space ∷ [])) (codes "a")
empty_with_space = valid content.Empty (space ∷ []) [] 0 (space_depth (codes "a") []) space_is_passed refl

empty_with_words : IsValid (holding (codes "a") content.Empty) (element (codes "a") [] (words ∷ [])) (codes "a") → ⊥
empty_with_words v =
    let o = opened _ _ _ 0 (words_depth (codes "a") []) v in
    let h = kept_admitted content.Empty _ _ o (λ cs d. d) in
    let none : h.0 ≡ [] = h.2 in
    let one = words_count _ h.0 refl h.1 in
    cc

empty_with_element : IsValid (holding (codes "a") content.Empty) branch (codes "a") → ⊥
empty_with_element v =
    let o = opened _ _ _ 1 branch_depth v in
    let h = kept_admitted content.Empty _ _ o (λ cs d. d) in
    let none : h.0 ≡ [] = h.2 in
    let one = leaf_alone_counts _ h.0 refl h.1 in
    cc

-- texts: no child, white space and words, and no element
text_without_children : IsValid (holding (codes "a") content.Text) (element (codes "a") [] []) (codes "a")
text_without_children = valid content.Text [] [] 0 (childless_depth (codes "a") []) none_counts refl

text_with_space : IsValid (holding (codes "a") content.Text) (element (codes "a") [] (space ∷ [])) (codes "a")
text_with_space = valid content.Text (space ∷ []) (space ∷ []) 0 (space_depth (codes "a") []) space_counts space_alone

pub text_with_words : IsValid (holding (codes "a") content.Text) (element (codes "a") [] (words ∷ [])) (codes "a")
text_with_words = valid content.Text (words ∷ []) (words ∷ []) 0 (words_depth (codes "a") []) (whole words_alone) words_alone

text_with_element : IsValid (holding (codes "a") content.Text) branch (codes "a") → ⊥
text_with_element v =
    let o = opened _ _ _ 1 branch_depth v in
    let h = kept_admitted content.Text _ _ o (λ cs d. d) in
    let none : list_any is_element h.0 ≡ false = h.2 in
    let one = leaf_alone_counts _ h.0 refl h.1 in
    false≢true (sym none ∙ ap (list_any is_element) one ∙ ap (λ b. b || false) leaf_element)

-- for no content an attribute, or another name
with_attribute : (k : Content) → IsValid (holding (codes "a") k) (element (codes "a") (attribute (codes "n") [] ∷ []) []) (codes "a") → ⊥
with_attribute k v =
    let o = opened _ _ _ 0 (childless_depth (codes "a") (attribute (codes "n") [] ∷ [])) v in
    let h = All-head (IsAdmittedAttribute _ _) (attribute (codes "n") []) [] o.attributed.admitted in
    none_offered tei_namespace k _ _ refl h.ident h.def h.giver h.offered

with_another_name : (k : Content) → IsValid (holding (codes "a") k) leaf (codes "a") → ⊥
with_another_name k v = apart (codes "b") (codes "a") refl (ap (λ n. n.local) (the_name (part_in tei_namespace k) _ _ (opened _ _ _ 0 (childless_depth (codes "b") []) v)))

-- empty content and texts admit no child
no_child_of_empty : (library : Library) (counts : Marking Label) → contents.Admits library counts content.Empty []
no_child_of_empty library counts = refl

no_child_of_text : (library : Library) (counts : Marking Label) → contents.Admits library counts content.Text []
no_child_of_text library counts = refl

-- where a content admits no child, an element of the part's namespace is valid that has none
childless : (ns : List ℕ) (k : Content) → ((library : Library) (counts : Marking Label) → contents.Admits library counts k [])
    → IsValid (holding_part (codes "a") (part_in ns k)) (element_in ns (codes "a") []) (codes "a")
childless ns k h =
    let library = holding_part (codes "a") (part_in ns k) in
    let admitted = children [] none_counts (h library (counting (IsValidWithin 0 library))) in
    subst (λ n. IsValidWithin n library (element_in ns (codes "a") []) (codes "a")) (sym (bare_depth ns (codes "a")))
    (record { part = part_in ns k; held = refl; named = refl; attributed = none_there ns k _ _ refl; admitted = admitted })

-- so in the namespace of its part, whichever that is, an element is valid
empty_in_its_namespace : (ns : List ℕ) → IsValid (holding_part (codes "a") (part_in ns content.Empty)) (element_in ns (codes "a") []) (codes "a")
empty_in_its_namespace ns = childless ns content.Empty no_child_of_empty

text_in_its_namespace : (ns : List ℕ) → IsValid (holding_part (codes "a") (part_in ns content.Text)) (element_in ns (codes "a") []) (codes "a")
text_in_its_namespace ns = childless ns content.Text no_child_of_text

-- and in another one it is not, whatever its content
in_another_namespace : (ns other : List ℕ) (k : Content) → (other ≡ ns → ⊥)
    → IsValid (holding_part (codes "a") (part_in ns k)) (element_in other (codes "a") []) (codes "a") → ⊥
in_another_namespace ns other k differ v =
    let o = opened _ _ _ 0 (bare_depth other (codes "a")) v in
    differ (ap (λ n. n.ns) (the_name (part_in ns k) _ _ o))

-- so an element of TEI's is none of no namespace, and the other way round
without_namespace : (k : Content) → IsValid (holding (codes "a") k) (element_in [] (codes "a") []) (codes "a") → ⊥
without_namespace k = in_another_namespace tei_namespace [] k (λ e. cc)

with_tei_namespace : (k : Content) → IsValid (holding_part (codes "a") (part_in [] k)) (element (codes "a") [] []) (codes "a") → ⊥
with_tei_namespace k = in_another_namespace [] tei_namespace k (λ e. cc)

-- and nothing is valid for an element that is not held
for_one_not_held : (k : Content) → IsValid (holding (codes "a") k) leaf (codes "b") → ⊥
for_one_not_held k v = let o = opened _ _ _ 0 (childless_depth (codes "b") []) v in let e : None ≡ Some (component.Element o.part) = o.held in cc
