-- What a text names, and what names nothing.
use Rattle.std.proofs.Common.{◌≡◌, ◌↔◌, ℕ, true, false, cond, List, [], ◌∷◌, Option, Some, None, get_or, arith, refl, sym, ◌∙◌, ap}
use Rattle.std.proofs.lemmas.Bool.{eq-eqb, eqb-true, false_from_ne_true}
use Rattle.std.proofs.lemmas.Option.{same_Some}
use Rattle.std.specs.Cmp.Lexicographic.{same_text}
use Rattle.std.specs.List.{Contains}
use Rattle.std.specs.Option.{option_map}
use Rattle.std.specs.Prelude.{find}
use Rattle.odd_text.specs.Same.{is_same}
use Rattle.rng_values.specs.Items.{place_of}
use Rattle.rng_values.specs.Making.{all_names, is_name, is_of}
use Rattle.rng_values.specs.Names.{facet_names, named}
use Rattle.rng_types.specs.declared.facet.FacetName.{FacetName}
use Rattle.rng_types.specs.declared.facet.FacetName.TheVariants as facet
use Rattle.rng_types.specs.declared.facet.FacetText.{FacetText}

-- each of the names is another text
abbrev pub AreOthers : {A : Type 0} → List (List ℕ × A) → List ℕ → Type 0
AreOthers [] word = Unit {0}
AreOthers (entry ∷ names) word = (word ≡ entry.0 → ⊥) × AreOthers names word

-- such a text names nothing
pub unnamed : {A : Type 0} (names : List (List ℕ × A)) (read word : List ℕ) → read ≡ word → AreOthers names read → None ≡ named names word
unnamed [] read word e h = refl
unnamed {A} (entry ∷ names) read word e h =
    let other : is_same entry.0 word ≡ false = false_from_ne_true (is_same entry.0 word) (λ same. h.0 (e ∙ sym (same_text entry.0 word (sym same)))) in
    unnamed names read word e h.1 ∙ sym (ap (λ b. option_map (λ (found : List ℕ × A). found.1) (cond b (Some entry) (find (λ found. is_same found.0 word) names))) other)

-- each name stands at its place
name_at : (of : FacetName) → get_or all_names (place_of of) facet.Length ≡ of
name_at facet.Length = refl
name_at facet.MaxInclusive = refl
name_at facet.MaxLength = refl
name_at facet.MinInclusive = refl
name_at facet.MinLength = refl
name_at facet.Pattern = refl

-- and so stands among all
pub name_stands : (of : FacetName) → Contains all_names of
name_stands facet.Length = (0, omega arith, refl)
name_stands facet.MaxInclusive = (1, omega arith, refl)
name_stands facet.MaxLength = (2, omega arith, refl)
name_stands facet.MinInclusive = (3, omega arith, refl)
name_stands facet.MinLength = (4, omega arith, refl)
name_stands facet.Pattern = (5, omega arith, refl)

-- names at the same place are the same
same_name : (one other : FacetName) → place_of one ≡ place_of other → one ≡ other
same_name one other e = sym (name_at one) ∙ ap (λ at. get_or all_names at facet.Length) e ∙ name_at other

-- so the test of places tells of names
told_name : (of : FacetName) (o : Option FacetName) → (is_name of o ≡ true) ↔ (o ≡ Some of)
told_name of None = (λ h. cc, λ h. cc)
told_name of (Some name) =
    (λ h. ap Some (same_name name of (eqb-true (place_of name) (place_of of) h)), λ e. eq-eqb (place_of name) (place_of of) (ap place_of (same_Some name of e)))

-- the test of a facet's name
pub told_of : (of : FacetName) (f : FacetText) → (is_of of f ≡ true) ↔ (named facet_names f.name ≡ Some of)
told_of of f = told_name of (named facet_names f.name)
