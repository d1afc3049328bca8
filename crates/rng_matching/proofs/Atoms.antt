-- What an atom takes: one character by itself, or in parentheses what its branches match.
use Rattle.std.proofs.Common.{◌≡◌, ◌⊎◌, ℕ, Bool, false, List, [], ◌∷◌, refl, sym, ap, subst, ◌∙◌, inl, inr}
use Rattle.std.proofs.lemmas.Bool.{eqb-true, eq-eqb, false≢true}
use denote.Hole.Carrier.{hidden}
use Rattle.odd_patterns.proofs.Pieces.{Same}
use Rattle.odd_patterns.specs.declared.pattern.Pat.{Pat}
use Rattle.rng_dialect.specs.Matching.{Takes, char, any, class, nested}
use Rattle.rng_dialect.specs.Matching.{Matches as RegexMatches}
use Rattle.rng_dialect.specs.declared.regex.Atom.{Atom, out-Atom}
use Rattle.rng_dialect.specs.declared.regex.Atom.TheBlock.{hidden-the_row-Regex-0}
use Rattle.rng_dialect.specs.declared.regex.Atom.TheVariants as atom
use Rattle.rng_dialect.specs.declared.regex.Member.{Member}
use Rattle.rng_dialect.specs.declared.regex.Regex.{Regex}
use Rattle.rng_matching.specs.Chars.{takes_char}
use Rattle.rng_matching.specs.Making.{IsFor, TakesOne}
use Rattle.rng_matching.proofs.Classes.{of_any, of_class}

-- what takes a word does so as one character, or by the branches in parentheses
taken : {a : Atom} {w : List ℕ} → Takes a w → TakesOne a w ⊎ ((r : Regex) × (a ≡ atom.Nested r) × RegexMatches r w)
taken (char {c = c}) = inl (c, refl, eq-eqb c c refl)
taken (any {c = c} h k) = inl (c, refl, (of_any c).1 (h, k))
taken (class {negated = negated} {ms = members} {c = c} h) = inl (c, refl, (of_class negated members c).1 h)
taken (nested r e m) = inr (r, e, m)

-- one of a character

char_not_nested : (d : ℕ) (r : Regex) → atom.Char d ≡ atom.Nested r → ⊥
char_not_nested d r e = let q = sym (atom.outs-Char d) ∙ ap out-Atom e ∙ atom.outs-Nested r in cc

pub char_takes : (d : ℕ) → Same (Takes (atom.Char d)) (TakesOne (atom.Char d))
char_takes d w = (
  λ t. elim (taken t) [ inl x ↦ x | inr y ↦ absurd (char_not_nested d y.0 y.1) ],
  λ m. subst (Takes (atom.Char d)) (sym (m.1 ∙ ap (λ c. c ∷ []) (eqb-true m.0 d m.2))) char,
)

-- one of any character

any_not_nested : (r : Regex) → atom.Any ≡ atom.Nested r → ⊥
any_not_nested r e = let q = sym atom.outs-Any ∙ ap out-Atom e ∙ atom.outs-Nested r in cc

pub any_takes : Same (Takes atom.Any) (TakesOne atom.Any)
any_takes w = (
  λ t. elim (taken t) [ inl x ↦ x | inr y ↦ absurd (any_not_nested y.0 y.1) ],
  λ m. let h = (of_any m.0).0 m.2 in subst (Takes atom.Any) (sym m.1) (any h.0 h.1),
)

-- a class

class_not_nested : (negated : Bool) (members : List Member) (r : Regex) → atom.Class negated members ≡ atom.Nested r → ⊥
class_not_nested negated members r e = let q = sym (atom.outs-Class negated members) ∙ ap out-Atom e ∙ atom.outs-Nested r in cc

pub class_takes : (negated : Bool) (members : List Member) → Same (Takes (atom.Class negated members)) (TakesOne (atom.Class negated members))
class_takes negated members w = (
  λ t. elim (taken t) [ inl x ↦ x | inr y ↦ absurd (class_not_nested negated members y.0 y.1) ],
  λ m. subst (Takes (atom.Class negated members)) (sym m.1) (class ((of_class negated members m.0).0 m.2)),
)

-- one in parentheses

same_nested : (r s : Regex) → atom.Nested r ≡ atom.Nested s → s ≡ r
same_nested r s e = let q = sym (atom.outs-Nested r) ∙ ap out-Atom e ∙ atom.outs-Nested s in cc

nested_takes_none : (r : Regex) (c : ℕ) → takes_char (atom.Nested r) c ≡ false
unfolding hidden-the_row-Regex-0 hidden
nested_takes_none r c = refl

pub nested_takes : (r : Regex) → Same (Takes (atom.Nested r)) (RegexMatches r)
nested_takes r w = (
  λ t. elim (taken t) [
    | inl x ↦ absurd (false≢true (sym (nested_takes_none r x.0) ∙ x.2))
    | inr y ↦ subst (λ s. RegexMatches s w) (same_nested r y.0 y.1) y.2
  ],
  λ m. nested r refl m,
)

module _ {A : Type 0} where
  -- a pattern for the same words
  made_for : (P Q : List ℕ → Type 0) (classes : List Atom) (made : Pat A ℕ ℕ) → Same P Q → IsFor Q classes made → IsFor P classes made
  made_for P Q classes made h k later g w = (λ m. (k later g w).0 ((h w).0 m), λ m. (h w).1 ((k later g w).1 m))

  -- of each kind of atom

  pub char_for : (a : Atom) (d : ℕ) (classes : List Atom) (made : Pat A ℕ ℕ) → a ≡ atom.Char d → IsFor (TakesOne (atom.Char d)) classes made → IsFor (Takes a) classes made
  char_for a d classes made e h = subst (λ b. IsFor (Takes b) classes made) (sym e) (made_for (Takes (atom.Char d)) (TakesOne (atom.Char d)) classes made (char_takes d) h)

  pub any_for : (a : Atom) (classes : List Atom) (made : Pat A ℕ ℕ) → a ≡ atom.Any → IsFor (TakesOne atom.Any) classes made → IsFor (Takes a) classes made
  any_for a classes made e h = subst (λ b. IsFor (Takes b) classes made) (sym e) (made_for (Takes atom.Any) (TakesOne atom.Any) classes made any_takes h)

  pub class_for : (a : Atom) (negated : Bool) (members copy : List Member) (classes : List Atom) (made : Pat A ℕ ℕ) → a ≡ atom.Class negated members → copy ≡ members
      → IsFor (TakesOne (atom.Class negated copy)) classes made → IsFor (Takes a) classes made
  class_for a negated members copy classes made e same h =
      let is : a ≡ atom.Class negated copy = e ∙ ap (λ ms. atom.Class negated ms) (sym same) in
      subst (λ b. IsFor (Takes b) classes made) (sym is) (made_for (Takes (atom.Class negated copy)) (TakesOne (atom.Class negated copy)) classes made (class_takes negated copy) h)

  pub nested_for : (a : Atom) (r s : Regex) (classes : List Atom) (made : Pat A ℕ ℕ) → a ≡ atom.Nested r → s ≡ r → IsFor (RegexMatches s) classes made → IsFor (Takes a) classes made
  nested_for a r s classes made e same h =
      let is : a ≡ atom.Nested s = e ∙ ap atom.Nested (sym same) in
      subst (λ b. IsFor (Takes b) classes made) (sym is) (made_for (Takes (atom.Nested s)) (RegexMatches s) classes made (nested_takes s) h)
