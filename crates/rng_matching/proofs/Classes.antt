-- Which characters an atom takes, as it is computed and in the standard's words.
use Rattle.std.proofs.Common.{◌≡◌, ◌↔◌, ℕ, suc, Bool, true, false, not, ◌&&◌, ◌||◌, ◌==◌, nat_le, IsTrue, List, [], ◌∷◌, refl, sym, subst, arith}
use Rattle.std.specs.List.{Contains, list_any}
use Rattle.std.proofs.lemmas.Bool.Decides.{Decides-and, Decides-not}
use Rattle.std.proofs.lemmas.List.Folds.{list_any_at}
use Rattle.std.proofs.lemmas.Bool.{eqb-true, eq-eqb, leb-true, le-leb, false≢true}
use Rattle.rng_dialect.specs.Matching.{IsOfClass, IsOfMember, IsOfMembers}
use Rattle.rng_dialect.specs.declared.regex.Member.{Member}
use Rattle.rng_dialect.specs.declared.regex.Member.TheVariants as member
use Rattle.rng_matching.specs.Chars.{is_of_class, is_of_member, is_of_members}

-- one member
of_member : (c : ℕ) (m : Member) → IsTrue (is_of_member c m) ↔ IsOfMember m c
of_member c (member.Char d) = (eqb-true c d, eq-eqb c d)
of_member c (member.Range low high) = Decides-and (nat_le low c) (nat_le c high) (leb-true low c, le-leb low c) (leb-true c high, le-leb c high)

-- a test that some of a list passes
module _ {X : Type 0} where
  found_first : (p : X → Bool) (x : X) (xs : List X) → (list_any p xs ≡ true → (y : X) × Contains xs y × (p y ≡ true)) → (b : Bool) → p x ≡ b → (b || list_any p xs) ≡ true
      → (y : X) × Contains (x ∷ xs) y × (p y ≡ true)
  found_first p x xs later true e h = (x, (0, omega arith, refl), e)
  found_first p x xs later false e h = let r = later h in (r.0, (suc r.1.0, omega (arith, r.1.1), r.1.2), r.2)

  found : (p : X → Bool) (xs : List X) → list_any p xs ≡ true → (x : X) × Contains xs x × (p x ≡ true)
  found p [] h = absurd (false≢true h)
  found p (x ∷ xs) h = found_first p x xs (found p xs) (p x) refl h

  passes : (p : X → Bool) (xs : List X) (x : X) → Contains xs x → p x ≡ true → list_any p xs ≡ true
  passes p xs x c h = list_any_at p xs c.0 x c.1 (subst (λ y. p y ≡ true) (sym c.2) h)

-- the members of a class
of_members : (members : List Member) (c : ℕ) → IsTrue (is_of_members members c) ↔ IsOfMembers members c
of_members members c = (
  λ t. let f = found (is_of_member c) members t in (f.0, f.1, (of_member c f.0).0 f.2),
  λ h. passes (is_of_member c) members h.0 h.1 ((of_member c h.0).1 h.2),
)

-- a class
pub of_class : (negated : Bool) (members : List Member) (c : ℕ) → IsTrue (is_of_class negated members c) ↔ IsOfClass negated members c
of_class false members c = of_members members c
of_class true members c = Decides-not (is_of_members members c) (of_members members c)

-- any character but two
pub of_any : (c : ℕ) → IsTrue (not (c == 0xA) && not (c == 0xD)) ↔ ((c ≡ 0xA → ⊥) × (c ≡ 0xD → ⊥))
of_any c =
    Decides-and (not (c == 0xA)) (not (c == 0xD)) (Decides-not (c == 0xA) (eqb-true c 0xA, eq-eqb c 0xA)) (Decides-not (c == 0xD) (eqb-true c 0xD, eq-eqb c 0xD))
