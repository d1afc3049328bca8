-- What facets break, and the least rule of it.
use Rattle.std.proofs.Common.{◌≡◌, ◌≤◌, ◌↔◌, ℕ, Bool, true, false, not, List, Option, Some, None, Result, Ok, Err, length, ◌⊎◌, inl, inr, ⊎_elim, refl, sym, ◌∙◌, ap, subst, arith, IsTrue, Any}
use Rattle.std.proofs.lemmas.Bool.{both_ways, false_from_ne_true, le-leb, leb-true, not-true}
use Rattle.std.proofs.lemmas.List.Sums.{length-filter}
use Rattle.std.proofs.lemmas.List.Folds.{Any-from_list_any, list_any-from_Any}
use Rattle.std.proofs.lemmas.Option.{same_Some}
use Rattle.std.specs.List.{filter}
use Rattle.std.specs.Prelude.{IfOk, count_by, nat_le}
use Rattle.std.specs.Str.{chars}
use Rattle.odd_text.specs.declared.memory.NoMemory.{NoMemory}
use Rattle.rng_dialect.specs.Dialect.{IsPattern}
use Rattle.rng_dialect.specs.declared.regex.Regex.{Regex}
use Rattle.rng_types.specs.declared.data_type.DataType.{DataType}
use Rattle.rng_types.specs.declared.facet.FacetName.{FacetName}
use Rattle.rng_types.specs.declared.facet.FacetName.TheVariants as facet
use Rattle.rng_types.specs.declared.facet.FacetText.{FacetText}
use Rattle.rng_values.specs.Facets.{IsNumberOf, takes_facet}
use Rattle.rng_values.specs.Items.{FacetFault, ItemFault}
use Rattle.rng_values.specs.Making.{IsUntaken, all_names, has_twice, is_of}
use Rattle.rng_values.specs.Names.{facet_names, named, type_names}
use Rattle.rng_values.proofs.Named.{name_stands, told_of}
use Rattle.rng_values.proofs.Standing.{counted, one_of, twice}

-- a facet that is to be a number of its form
pub malformed_told : (f : FacetText) (name : FacetName) (b : Bool) → named facet_names f.name ≡ Some name → (IsTrue b ↔ IsNumberOf name (chars f.value)) → IsTrue (not b) ↔ FacetFault f 1
malformed_told f name b e tells = (λ h. FacetFault.malformed e (λ is. both_ways b (not-true b h) (tells.1 is)), λ h. ap not (false_from_ne_true b (λ t. back 1 h refl (tells.0 t))))
  where
    back : (rule : ℕ) → FacetFault f rule → rule ≡ 1 → IsNumberOf name (chars f.value) → ⊥
    back rule (FacetFault.malformed {name = n} g bad) one is = bad (subst (λ m. IsNumberOf m (chars f.value)) (same_Some name n (sym e ∙ g)) is)
    back rule (FacetFault.unknown g) one is = omega arith
    back rule (FacetFault.no_pattern g bad) one is = omega arith

-- rule 2 of one facet
data BreaksTwo (f : FacetText) : Type 0 where
  unknown : named facet_names f.name ≡ None → BreaksTwo f
  no_pattern : named facet_names f.name ≡ Some facet.Pattern → ((r : Regex) → IsPattern (chars f.value) r → ⊥) → BreaksTwo f

-- a fault of rule 2 is one of these
breaks_two : (f : FacetText) (rule : ℕ) → FacetFault f rule → rule ≡ 2 → BreaksTwo f
breaks_two f rule (FacetFault.malformed g bad) e = absurd (omega arith)
breaks_two f rule (FacetFault.unknown g) e = unknown g
breaks_two f rule (FacetFault.no_pattern g bad) e = no_pattern g bad

-- a facet that is to be a pattern
pattern_told : (k : DataType) (f : FacetText) (b : Bool) → named facet_names f.name ≡ Some facet.Pattern → (IsTrue b ↔ ((r : Regex) × IsPattern (chars f.value) r))
    → IsTrue (not b) ↔ IsUntaken k f
pattern_told k f b e tells = (
  λ h. IsUntaken.broken (FacetFault.no_pattern e (λ r is. both_ways b (not-true b h) (tells.1 (r, is)))),
  λ u. ap not (false_from_ne_true b (λ t. back u (tells.0 t))),
)
  where
    two : BreaksTwo f → ((r : Regex) × IsPattern (chars f.value) r) → ⊥
    two (unknown g) p = let no : None ≡ Some facet.Pattern = sym g ∙ e in cc
    two (no_pattern g bad) p = bad p.0 p.1

    back : IsUntaken k f → ((r : Regex) × IsPattern (chars f.value) r) → ⊥
    back (IsUntaken.broken h) p = two (breaks_two f 2 h refl) p
    back (IsUntaken.not_taken {of} g untaken) p =
        let is : takes_facet k of ≡ true = ap (takes_facet k) (same_Some of facet.Pattern (sym g ∙ e)) in both_ways (takes_facet k of) untaken is

-- one that is asked of, where there may be no memory
pub pattern_asked : {E : Type 0} (k : DataType) (f : FacetText) (r : Result Bool E) → named facet_names f.name ≡ Some facet.Pattern
    → IfOk r (λ b. IsTrue b ↔ ((r : Regex) × IsPattern (chars f.value) r)) → IfOk r (λ b. IsTrue (not b) ↔ IsUntaken k f)
pattern_asked k f (Ok b) e tells = pattern_told k f b e tells
pattern_asked k f (Err x) e tells = tt

-- one that is to be none
pub number_told : (k : DataType) (f : FacetText) (name : FacetName) → named facet_names f.name ≡ Some name → (name ≡ facet.Pattern → ⊥) → IsTrue (not (takes_facet k name)) ↔ IsUntaken k f
number_told k f name e other = (λ h. IsUntaken.not_taken e (not-true (takes_facet k name) h), back)
  where
    two : BreaksTwo f → IsTrue (not (takes_facet k name))
    two (unknown g) = let no : None ≡ Some name = sym g ∙ e in cc
    two (no_pattern g bad) = absurd (other (same_Some name facet.Pattern (sym e ∙ g)))

    back : IsUntaken k f → IsTrue (not (takes_facet k name))
    back (IsUntaken.broken h) = two (breaks_two f 2 h refl)
    back (IsUntaken.not_taken {of} g untaken) = ap not (ap (takes_facet k) (same_Some name of (sym e ∙ g)) ∙ untaken)

-- one that is unknown
pub unknown_told : (k : DataType) (f : FacetText) → named facet_names f.name ≡ None → IsTrue true ↔ IsUntaken k f
unknown_told k f e = (λ h. IsUntaken.broken (FacetFault.unknown e), λ u. refl)

-- all of the facets

-- one of them is to be a number, and is none of its form
abbrev pub AnyMalformed : List FacetText → Type 0
AnyMalformed = Any (λ f. FacetFault f 1)

-- no other rule that is broken is less
abbrev pub IsLeastFault : List ℕ → List FacetText → ℕ → Type 0
IsLeastFault name facets rule = ItemFault name facets rule × ((other : ℕ) → ItemFault name facets other → rule ≤ other)

-- a facet alone breaks rule 1 or 2
facet_rules : (f : FacetText) (rule : ℕ) → FacetFault f rule → (rule ≡ 1) ⊎ (rule ≡ 2)
facet_rules f rule (FacetFault.malformed g bad) = inl refl
facet_rules f rule (FacetFault.unknown g) = inr refl
facet_rules f rule (FacetFault.no_pattern g bad) = inr refl

-- where a number is malformed
pub malformed_least : (name : List ℕ) (facets : List FacetText) → AnyMalformed facets → IsLeastFault name facets 1
malformed_least name facets (at, f, low, is, fault) = (ItemFault.of_facet f (at, low, is) fault, least)
  where
    least : (other : ℕ) → ItemFault name facets other → 1 ≤ other
    least other (ItemFault.unknown e) = omega arith
    least other (ItemFault.of_facet f c h) = ⊎_elim (λ e. omega arith) (λ e. omega arith) (facet_rules f other h)
    least other (ItemFault.not_taken f c e g n) = omega arith
    least other (ItemFault.twice before between after f g e h k) = omega arith

-- where none is, the rules from 2 on are left
from_two : (name : List ℕ) (facets : List FacetText) → (AnyMalformed facets → ⊥) → (other : ℕ) → ItemFault name facets other → 2 ≤ other
from_two name facets sound other (ItemFault.unknown e) = omega arith
from_two name facets sound other (ItemFault.of_facet f c h) =
    ⊎_elim (λ e. absurd (sound (one_of (λ f. FacetFault f 1) facets f c (subst (FacetFault f) e h)))) (λ e. omega arith) (facet_rules f other h)
from_two name facets sound other (ItemFault.not_taken f c e g n) = omega arith
from_two name facets sound other (ItemFault.twice before between after f g e h k) = omega arith

-- where the datatype is unknown
pub no_type_least : (name : List ℕ) (facets : List FacetText) → (AnyMalformed facets → ⊥) → named type_names name ≡ None → IsLeastFault name facets 2
no_type_least name facets sound e = (ItemFault.unknown e, from_two name facets sound)

-- where a facet is not taken
pub untaken_least : (name : List ℕ) (facets : List FacetText) (k : DataType) → (AnyMalformed facets → ⊥) → named type_names name ≡ Some k → Any (IsUntaken k) facets → IsLeastFault name facets 2
untaken_least name facets k sound e (at, f, low, is, u) = (fault u, from_two name facets sound)
  where
    fault : IsUntaken k f → ItemFault name facets 2
    fault (IsUntaken.broken h) = ItemFault.of_facet f (at, low, is) h
    fault (IsUntaken.not_taken g n) = ItemFault.not_taken f (at, low, is) e g n

-- what the test for a facet twice tells of each name
pub twice_counted : (facets : List FacetText) (of : FacetName) → 2 ≤ length (filter (is_of of) facets) → has_twice facets ≡ true
twice_counted facets of h =
    let test : FacetName → Bool = λ of. nat_le 2 (count_by (is_of of) facets) in
    let counts : test of ≡ true = le-leb 2 (count_by (is_of of) facets) (subst (λ n. 2 ≤ n) (length-filter (is_of of) facets) h) in
    list_any-from_Any test all_names (one_of (λ of. test of ≡ true) all_names of (name_stands of) counts)

-- where nothing else is broken, rule 4 is left
from_four : (name : List ℕ) (facets : List FacetText) (k : DataType) → (AnyMalformed facets → ⊥) → named type_names name ≡ Some k → (Any (IsUntaken k) facets → ⊥)
    → (other : ℕ) → ItemFault name facets other → (other ≡ 4) × (has_twice facets ≡ true)
from_four name facets k sound e taken other (ItemFault.unknown n) = let no : Some k ≡ None = sym e ∙ n in cc
from_four name facets k sound e taken other (ItemFault.of_facet f c h) =
    absurd (⊎_elim (λ r. sound (one_of (λ f. FacetFault f 1) facets f c (subst (FacetFault f) r h))) (λ r. taken (one_of (IsUntaken k) facets f c (IsUntaken.broken (subst (FacetFault f) r h))))
    (facet_rules f other h))
from_four name facets k sound e taken other (ItemFault.not_taken {k = l} {of} f c n g untaken) =
    absurd (taken (one_of (IsUntaken k) facets f c (IsUntaken.not_taken g (ap (λ m. takes_facet m of) (same_Some k l (sym e ∙ n)) ∙ untaken))))
from_four name facets k sound e taken other (ItemFault.twice {of} before between after f g parts h i) = (
  refl,
  twice_counted facets of
      (counted (is_of of) facets (record {
        before = before;
        one = f;
        between = between;
        other = g;
        after = after;
        parted = parts;
        one_passes = (told_of of f).1 h;
        other_passes = (told_of of g).1 i;
      })),
)

-- where a facet stands twice
pub twice_least : (name : List ℕ) (facets : List FacetText) (k : DataType) → (AnyMalformed facets → ⊥) → named type_names name ≡ Some k → (Any (IsUntaken k) facets → ⊥) → has_twice facets ≡ true
    → IsLeastFault name facets 4
twice_least name facets k sound e taken h =
    let a = Any-from_list_any (λ of. nat_le 2 (count_by (is_of of) facets)) all_names h in
    let of = a.1 in
    let t = twice (is_of of) facets (subst (λ n. 2 ≤ n) (sym (length-filter (is_of of) facets)) (leb-true 2 (count_by (is_of of) facets) a.4)) in (
      ItemFault.twice t.before t.between t.after t.one t.other t.parted ((told_of of t.one).0 t.one_passes) ((told_of of t.other).0 t.other_passes),
      λ other f. let four = (from_four name facets k sound e taken other f).0 in omega arith,
    )

-- where nothing is broken
pub no_fault : (name : List ℕ) (facets : List FacetText) (k : DataType) → (AnyMalformed facets → ⊥) → named type_names name ≡ Some k → (Any (IsUntaken k) facets → ⊥) → has_twice facets ≡ false
    → (rule : ℕ) → ItemFault name facets rule → ⊥
no_fault name facets k sound e taken h rule f = both_ways (has_twice facets) h (from_four name facets k sound e taken rule f).1

-- one rule is told
pub refused : (name : List ℕ) (texts facets : List FacetText) (least rule : ℕ) → texts ≡ facets → IsLeastFault name texts least
    → ◌≡◌ {A = Result (Option ℕ) NoMemory} (Ok (Some least)) (Ok (Some rule)) → IsLeastFault name facets rule
refused name texts facets least rule e h same = let one : least ≡ rule = cc in subst (λ fs. IsLeastFault name fs rule) e (subst (IsLeastFault name texts) one h)
