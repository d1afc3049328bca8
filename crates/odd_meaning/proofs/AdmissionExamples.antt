-- Which small documents a library admits, and which it does not.
use Rattle.std.proofs.Common.{◌≡◌, ℕ, List, [], ◌∷◌, Some, ◌⊎◌, inl, inr, refl, sym, ap, subst, ◌∙◌, codes}
use Rattle.std.specs.FinMap.{find}
use Rattle.std.proofs.lemmas.Option.{same_Some}
use Rattle.odd_text.specs.Key.{key_cmp}
use Rattle.odd_content.specs.declared.content.Content.TheVariants as content
use Rattle.odd_library.specs.Odd.{element_key}
use Rattle.odd_library.specs.declared.library.Component.TheVariants as component
use Rattle.odd_library.specs.declared.library.ElementPart.{ElementPart}
use Rattle.odd_library.specs.declared.library.Library.{Library}
use Rattle.odd_forms.specs.Names.{tei, tei_namespace}
use Rattle.odd_text.proofs.InList.{first_or_later, nothing_stands}
use Rattle.odd_tree.specs.Significant.{Marking, depth}
use Rattle.odd_tree.specs.declared.tree.Tree.{Tree, out-Tree}
use Rattle.odd_meaning.specs.Admission.{Admits, IsValidBy, IsValidWithin, children}
use Rattle.odd_meaning.specs.Labels.{Label}
use Rattle.odd_meaning.specs.Naming.{element_name}
use Rattle.odd_tree.proofs.PrintedTrees.{apart}
use Rattle.odd_meaning.proofs.ExampleTrees.{bare_depth, childless_depth, element, element_in, leaf, none_counts, words}
use Rattle.odd_meaning.proofs.ValidityExamples.{holding, none_there, one_part, opened, part_in, text_with_words}

-- one of the start words is enough
second_word : Admits (holding (codes "a") content.Text) (codes "b" ∷ codes "a" ∷ []) (element (codes "a") [] (words ∷ []))
second_word = record { word = codes "a"; among = (codes "b" ∷ [], [], refl); valid = text_with_words }

-- and of none nothing is admitted
no_word : (library : Library) (t : Tree) → Admits library [] t → ⊥
no_word library t a = nothing_stands a.word a.among

-- a library of an `a` in a namespace of its own and a `b` of TEI's
abbrev of_two : Library
of_two = record {
  ident = codes "s";
  start = codes "a" ∷ codes "b" ∷ [];
  parts = (element_key (codes "a"), component.Element (part_in (codes "urn:x") content.Empty))
      ∷ (element_key (codes "b"), component.Element (part_in tei_namespace content.Empty)) ∷ [];
}

-- it admits each in its namespace
first_of_two : Admits of_two of_two.start (element_in (codes "urn:x") (codes "a") [])
first_of_two = record {
  word = codes "a";
  among = ([], codes "b" ∷ [], refl);
  valid = subst (λ n. IsValidWithin n of_two (element_in (codes "urn:x") (codes "a") []) (codes "a")) (sym (bare_depth (codes "urn:x") (codes "a")))
      (record {
        part = part_in (codes "urn:x") content.Empty;
        held = refl;
        named = refl;
        attributed = none_there (codes "urn:x") content.Empty _ _ refl;
        admitted = children [] none_counts refl;
      });
}

second_of_two : Admits of_two of_two.start leaf
second_of_two = record {
  word = codes "b";
  among = (codes "a" ∷ [], [], refl);
  valid = subst (λ n. IsValidWithin n of_two leaf (codes "b")) (sym (childless_depth (codes "b") []))
      (record {
        part = part_in tei_namespace content.Empty;
        held = refl;
        named = refl;
        attributed = none_there tei_namespace content.Empty _ _ refl;
        admitted = children [] none_counts refl;
      });
}

-- what is valid for one of the two has its ident and its part's namespace
named_as_held : (part : ElementPart) (ident word : List ℕ) (t : Tree) (counts : Marking Label) → word ≡ ident
    → find key_cmp (element_key ident) of_two.parts ≡ Some (component.Element part)
    → IsValidBy counts of_two t word → (out-Tree t).name ≡ element_name ident part
named_as_held part ident word t counts e held v =
    let o : IsValidBy counts of_two t ident = subst (IsValidBy counts of_two t) e v in
    o.named ∙ ap (element_name ident) (one_part _ _ (same_Some _ _ (sym o.held ∙ held)))

-- so the library admits two names alone
name_of_two : (t : Tree) → depth t ≡ 1 → Admits of_two of_two.start t
    → ((out-Tree t).name ≡ record { ns = codes "urn:x"; local = codes "a" }) ⊎ ((out-Tree t).name ≡ tei (codes "b"))
name_of_two t e a = elim (first_or_later (codes "a") a.word (codes "b" ∷ []) a.among) [
  | inl first ↦ inl (named_as_held (part_in (codes "urn:x") content.Empty) (codes "a") a.word t _ first refl (opened of_two t a.word 0 e a.valid))
  | inr later ↦ elim (first_or_later (codes "b") a.word [] later) [
    | inl second ↦ inr (named_as_held (part_in tei_namespace content.Empty) (codes "b") a.word t _ second refl (opened of_two t a.word 0 e a.valid))
    | inr last ↦ absurd (nothing_stands a.word last)
  ]
]

-- and neither element in the other's namespace
first_of_tei : Admits of_two of_two.start (element (codes "a") [] []) → ⊥
first_of_tei a = elim (name_of_two _ (childless_depth (codes "a") []) a) [
  | inl first ↦ let e : tei_namespace ≡ codes "urn:x" = ap (λ n. n.ns) first in cc
  | inr second ↦ apart (codes "a") (codes "b") refl (ap (λ n. n.local) second)
]

second_elsewhere : Admits of_two of_two.start (element_in (codes "urn:x") (codes "b") []) → ⊥
second_elsewhere a = elim (name_of_two _ (bare_depth (codes "urn:x") (codes "b")) a) [
  | inl first ↦ apart (codes "b") (codes "a") refl (ap (λ n. n.local) first)
  | inr second ↦ let e : codes "urn:x" ≡ tei_namespace = ap (λ n. n.ns) second in cc
]
