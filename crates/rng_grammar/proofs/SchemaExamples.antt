-- Which grammar a small schema stands for.
use Rattle.std.proofs.lemmas.List.Elements.{All-nil}
use Rattle.std.proofs.Common.{◌≡◌, ℕ, Bool, true, false, cond, List, [], ◌∷◌, map, Some, None, inl, inr, refl, sym, ap, subst, ◌∙◌, codes}
use Rattle.std.specs.FinMap.{find, slice_cmp-IsAntisymmetric, nat_cmp-IsAntisymmetric}
use Rattle.std.specs.Ordering.{eq_by_cmp}
use Rattle.std.proofs.lemmas.Map.Views.{tells_apart}
use Rattle.odd_text.specs.Text.{text_cmp}
use Rattle.odd_text.proofs.InList.{first_or_later, nothing_stands, only_item, stands_first, stands_later}
use Rattle.odd_text.specs.Standing.{StandsIn}
use Rattle.odd_tree.specs.declared.tree.Tree.{Tree}
use Rattle.odd_tokens.proofs.Characters.{none_twice}
use Rattle.odd_tree.proofs.PrintedTrees.{apart}
use Rattle.rng_grammar.proofs.OnePattern.{empty_shown, group_shown, optional_shown, ref_shown, refers, text_shown}
use Rattle.rng_grammar.specs.Denoting as denoting
use Rattle.rng_grammar.specs.Denoting.{IsPattern, StandsFor, entry_of}
use Rattle.rng_grammar.specs.Linked as linked
use Rattle.rng_grammar.proofs.SortLaws.{no_data_within}
use Rattle.rng_grammar.specs.Linked.{HasData, IsLinked, Reaches, RefersTo, patterns_of}
use Rattle.rng_grammar.specs.Sorts as sorts
use Rattle.rng_grammar.specs.Sorts.{IsOfBody, IsOfChildren, IsOfRule, IsSorted}
use Rattle.rng_grammar.specs.Names.{datatype_library, relax_ng_namespace}
use Rattle.rng_grammar.specs.Patterns.{IsDefined}
use Rattle.rng_grammar.specs.declared.grammar.Body.TheVariants as body
use Rattle.rng_grammar.specs.declared.grammar.Define.{Define}
use Rattle.rng_grammar.specs.declared.grammar.Expr.TheOpen as shape
use Rattle.rng_grammar.specs.declared.grammar.Expr.TheVariants as expr
use Rattle.rng_grammar.specs.declared.grammar.Expr.{Expr}
use Rattle.rng_grammar.specs.declared.grammar.Grammar.{Grammar}
use Rattle.rng_grammar.proofs.SchemaTrees.{bare_part, define, define_is, element, element_body, element_is, empty, empty_is, parts_are, ref, ref_is, rng, start, start_is, text, text_is}

-- the namespaces, written out once more

namespace_of_schemas : relax_ng_namespace ≡ codes "http://relaxng.org/ns/structure/1.0"
namespace_of_schemas = refl

library_of_datatypes : datatype_library ≡ codes "http://www.w3.org/2001/XMLSchema-datatypes"
library_of_datatypes = refl

-- several children of `optional` are a group

abbrev b_or_words : Tree
b_or_words = rng (codes "optional") [] (ref (codes "b") ∷ text ∷ [])

abbrev optional_group : Expr
optional_group = expr.Optional (expr.Group (expr.Ref (codes "b") ∷ expr.Text ∷ []))

optional_is : IsPattern b_or_words optional_group
optional_is = denoting.optional (expr.Ref (codes "b")) (expr.Text ∷ []) (bare_part (codes "optional") [] (ref (codes "b") ∷ text ∷ []))
    (subst (λ ts. denoting.ArePatterns ts (expr.Ref (codes "b") ∷ expr.Text ∷ [])) (sym (parts_are (ref (codes "b") ∷ text ∷ []) refl)) (denoting.more (ref_is (codes "b") refl) (denoting.more text_is denoting.none))) refl

-- a schema whose defines stand in another order than those of its grammar

abbrev three_parts : List Tree
three_parts = define (codes "b") (element (codes "b") empty) ∷ start (codes "a") ∷ define (codes "a") (element (codes "a") b_or_words) ∷ []

abbrev schema : Tree
schema = rng (codes "grammar") [] three_parts

abbrev define_a : Define
define_a = record { name = codes "a"; body = element_body (codes "a") optional_group }

abbrev define_b : Define
define_b = record { name = codes "b"; body = element_body (codes "b") expr.Empty }

abbrev two_defines : Grammar
two_defines = record { start = expr.Ref (codes "a"); defines = define_a ∷ define_b ∷ [] }

-- a reference refers to its name alone
pub only_ref : (name other : List ℕ) → RefersTo name (expr.Ref other) → name ≡ other
only_ref name other r = elim (refers name _ (shape.Ref other) (ref_shown other) r) [ inl e ↦ cc | inr part ↦ absurd (nothing_stands _ part.1) ]

-- what it refers to is defined
is_linked : IsLinked two_defines
is_linked = record { start = λ name r. first_defined name r; patterns = λ name d p s k r. each_defined name d p s k r; apart = λ name r. none_reached name name r }
  where
    first_defined : (name : List ℕ) → RefersTo name (expr.Ref (codes "a")) → StandsIn (codes "a" ∷ codes "b" ∷ []) name
    first_defined name r = subst (StandsIn (codes "a" ∷ codes "b" ∷ [])) (sym (only_ref name (codes "a") r)) (stands_first _ _)

    no_text : (name : List ℕ) → RefersTo name expr.Text → ⊥
    no_text name r = elim (refers name _ shape.Text text_shown r) [ inl e ↦ cc | inr part ↦ nothing_stands _ part.1 ]

    no_empty : (name : List ℕ) → RefersTo name expr.Empty → ⊥
    no_empty name r = elim (refers name _ shape.Empty empty_shown r) [ inl e ↦ cc | inr part ↦ nothing_stands _ part.1 ]

    in_group : (name : List ℕ) → RefersTo name (expr.Group (expr.Ref (codes "b") ∷ expr.Text ∷ [])) → name ≡ codes "b"
    in_group name r = elim (refers name _ (shape.Group (expr.Ref (codes "b") ∷ expr.Text ∷ [])) (group_shown _) r) [
      | inl e ↦ cc
      | inr part ↦ elim (first_or_later _ _ _ part.1) [
        | inl first ↦ only_ref name (codes "b") (subst (RefersTo name) first part.2)
        | inr later ↦ absurd (no_text name (subst (RefersTo name) (only_item _ _ later) part.2))
      ]
    ]

    in_optional : (name : List ℕ) → RefersTo name optional_group → name ≡ codes "b"
    in_optional name r = elim (refers name _ (shape.Optional (expr.Group (expr.Ref (codes "b") ∷ expr.Text ∷ []))) (optional_shown _) r) [
      | inl e ↦ cc
      | inr part ↦ in_group name (subst (RefersTo name) (only_item _ _ part.1) part.2)
    ]

    each_defined : (name : List ℕ) (d : Define) (p : Expr) → StandsIn (define_a ∷ define_b ∷ []) d → StandsIn (patterns_of d.body) p → RefersTo name p → StandsIn (codes "a" ∷ codes "b" ∷ []) name
    each_defined name d p s k r = elim (first_or_later _ _ _ s) [
      | inl first ↦
          let is : p ≡ optional_group = only_item _ _ (subst (λ (x : Define). StandsIn (patterns_of x.body) p) first k) in
          subst (StandsIn (codes "a" ∷ codes "b" ∷ [])) (sym (in_optional name (subst (RefersTo name) is r))) (stands_later _ _ _ (stands_first _ _))
      | inr later ↦
          let is : p ≡ expr.Empty = only_item _ _ (subst (λ (x : Define). StandsIn (patterns_of x.body) p) (only_item _ _ later) k) in
          absurd (no_empty name (subst (RefersTo name) is r))
    ]

    all_elements : (name : List ℕ) (p : Expr) → IsDefined two_defines name (body.Part p) → ⊥
    all_elements name p s = elim (first_or_later _ _ _ s) [
      | inl first ↦ let e : body.Part p ≡ define_a.body = ap (λ (x : Define). x.body) first in cc
      | inr later ↦ let e : body.Part p ≡ define_b.body = ap (λ (x : Define). x.body) (only_item _ _ later) in cc
    ]

    none_reached : (name other : List ℕ) → Reaches two_defines name other → ⊥
    none_reached name other (linked.at_once {p = p} d r) = all_elements name p d
    none_reached name other (linked.through r s) = none_reached _ _ r

-- two entries that are exchanged are found alike
exchanged : {A : Type 0} (p q : Bool) (x y z : A) → (p ≡ true → q ≡ true → ⊥) → cond p x (cond q y z) ≡ cond q y (cond p x z)
exchanged true true x y z h = absurd (h refl refl)
exchanged true false x y z h = refl
exchanged false true x y z h = refl
exchanged false false x y z h = refl

-- so the order of the two defines says nothing
found_alike : (q : List ℕ) → find text_cmp q (map entry_of (define_a ∷ define_b ∷ [])) ≡ find text_cmp q (map entry_of (define_b ∷ define_a ∷ []))
found_alike q = exchanged (eq_by_cmp text_cmp q (codes "a")) (eq_by_cmp text_cmp q (codes "b")) _ _ _ (λ e f. let tied = tells_apart (slice_cmp-IsAntisymmetric nat_cmp-IsAntisymmetric) q in apart (codes "a") (codes "b") refl (sym (tied _ e) ∙ tied _ f))

-- no attribute tells of datatypes
pub not_given : {R : Type 0} (value : List ℕ) → None ≡ Some value → R
not_given value e = cc

-- each pattern is of children
b_sort : IsOfChildren two_defines (expr.Ref (codes "b"))
b_sort = sorts.element (record { names = _; attrs = _; content = _; defined = (define_a ∷ [], [], refl) })

optional_sort : IsOfChildren two_defines optional_group
optional_sort =
    sorts.optional (expr.Group (expr.Ref (codes "b") ∷ expr.Text ∷ [])) refl (sorts.group (expr.Ref (codes "b") ∷ expr.Text ∷ []) refl (λ part s.
    elim (first_or_later _ _ _ s) [ inl first ↦ subst (IsOfChildren two_defines) (sym first) b_sort | inr later ↦ subst (IsOfChildren two_defines) (sym (only_item _ _ later)) sorts.text ]))

is_sorted_by_place : IsSorted two_defines
is_sorted_by_place = record {
  start = sorts.element (record { names = _; attrs = _; content = _; defined = ([], define_b ∷ [], refl) });
  defines = λ d s. elim (first_or_later _ _ _ s) [
    | inl first ↦ subst (λ (x : Define). IsOfBody two_defines x.body) (sym first) (All-nil (IsOfRule two_defines), inl optional_sort)
    | inr later ↦ subst (λ (x : Define). IsOfBody two_defines x.body) (sym (only_item _ _ later)) (All-nil (IsOfRule two_defines), inl sorts.empty)
  ];
}

-- so no `data` is there
no_data : HasData two_defines → ⊥
no_data h = elim (first_or_later _ _ _ h.among) [
  | inl first ↦
      let is : h.pattern ≡ optional_group = only_item _ _ (subst (λ (x : Define). StandsIn (patterns_of x.body) h.pattern) first h.of_define) in
      no_data_within two_defines h.within (subst (IsOfChildren two_defines) (sym is) optional_sort)
  | inr later ↦
      let is : h.pattern ≡ expr.Empty = only_item _ _ (subst (λ (x : Define). StandsIn (patterns_of x.body) h.pattern) (only_item _ _ later) h.of_define) in
      no_data_within two_defines h.within (subst (IsOfChildren two_defines) (sym is) sorts.empty)
]

schema_stands : StandsFor schema two_defines
schema_stands = record {
  is_part = bare_part (codes "grammar") (codes "ns" ∷ codes "datatypeLibrary" ∷ []) three_parts;
  datatypes = λ value e. not_given value e;
  has_datatypes = λ h. absurd (no_data h);
  start = start (codes "a");
  before = define (codes "b") (element (codes "b") empty) ∷ [];
  after = define (codes "a") (element (codes "a") b_or_words) ∷ [];
  parts = parts_are three_parts refl;
  is_start = start_is (codes "a") refl;
  defines = define_b ∷ define_a ∷ [];
  are_defines = denoting.more (define_is (codes "b") _ _ refl refl (denoting.element (element_is (codes "b") empty expr.Empty refl refl empty_is)))
      (denoting.more (define_is (codes "a") _ _ refl refl (denoting.element (element_is (codes "a") b_or_words optional_group refl refl optional_is))) denoting.none);
  once = none_twice (codes "b" ∷ codes "a" ∷ []) ((λ e. apart (codes "a") (codes "b") refl e, tt), (tt, tt));
  rising = refl;
  same = found_alike;
  linked = is_linked;
  sorted = is_sorted_by_place;
}
