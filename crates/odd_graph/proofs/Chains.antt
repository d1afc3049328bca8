-- Chains of steps, and induction along steps that come back to nothing.
use Rattle.std.proofs.Common.{ℕ, List, ◌≡◌, ◌⊎◌, ◌≤◌, zero, suc, [], ◌∷◌, ◌++◌, length, inl, inr, ⊎_elim, refl, ap, subst, arith}
use Rattle.std.proofs.lemmas.List.{length-append}
use Rattle.odd_graph.specs.Graph.{Chained, at_once, through}

-- one leads on to where another leads that it leads to
pub chained_on : {A : Type 0} (Step : A → A → Type 0) (a b c : A) → Chained Step a b → Chained Step b c → Chained Step a c
chained_on Step a b c (at_once s) l = through b s l
chained_on Step a b c (through between s k) l = through between s (chained_on Step between b c k l)

-- where each step can be taken back, each chain can
pub chained_back : {A : Type 0} (Step Back : A → A → Type 0) → ((a b : A) → Step a b → Back b a) → (a b : A) → Chained Step a b → Chained Back b a
chained_back Step Back turn a b (at_once s) = at_once (turn a b s)
chained_back Step Back turn a b (through between s k) = chained_on Back b between a (chained_back Step Back turn between b k) (at_once (turn a between s))

-- where each step is carried along a relation, each chain is
pub chained_along : {A B : Type 0} (Step : A → A → Type 0) (Other : B → B → Type 0) (Is : A → B → Type 0)
    → ((a next : A) (b : B) → Is a b → Step a next → (other : B) × Is next other × Other b other) → (a last : A) (b : B) → Is a b → Chained Step a last
    → (other : B) × Is last other × Chained Other b other
chained_along Step Other Is carry a last b is (at_once s) = let n = carry a last b is s in (n.0, n.1, at_once n.2)
chained_along Step Other Is carry a last b is (through between s k) =
    let n = carry a between b is s in
    let rest = chained_along Step Other Is carry between last n.0 n.1 k in
    (rest.0, rest.1, through n.0 n.2 rest.2)

-- a chain is a step, or a step and a chain
pub first_and_rest : {A : Type 0} (Step : A → A → Type 0) (a b : A) → Chained Step a b → (next : A) × Step a next × ((next ≡ b) ⊎ Chained Step next b)
first_and_rest Step a b (at_once s) = (b, s, inl refl)
first_and_rest Step a b (through between s k) = (between, s, inr k)

-- a chain begins with a step
pub first_step : {A : Type 0} (Step : A → A → Type 0) (a b : A) → Chained Step a b → (next : A) × Step a next
first_step Step a b (at_once s) = (b, s)
first_step Step a b (through between s k) = (between, s)

-- and ends with one
pub last_step : {A : Type 0} (Step : A → A → Type 0) (a b : A) → Chained Step a b → (before : A) × Step before b
last_step Step a b (at_once s) = (a, s)
last_step Step a b (through between s k) = last_step Step between b k

-- the item stands in the list
abbrev pub IsPart : {A : Type 0} → List A → A → Type 0
IsPart {A} items item = (before : List A) × (after : List A) × (items ≡ before ++ item ∷ after)

-- what stands in a list is the item at a place of it, or one of the others
others : {A : Type 0} (before after : List A) (item other : A) → IsPart (before ++ item ∷ after) other → (other ≡ item) ⊎ IsPart (before ++ after) other
others [] after item other ([], b, e) = inl cc
others [] after item other (x ∷ a, b, e) = inr (a, b, cc)
others (x ∷ before) after item other ([], b, e) = inr ([], before ++ after, cc)
others (x ∷ before) after item other (y ∷ a, b, e) =
    ⊎_elim (λ same. inl same) (λ rest. inr (x ∷ rest.0, rest.1, ap (λ items. x ∷ items) rest.2)) (others before after item other (a, b, cc))

module _ {A : Type 0} (Step : A → A → Type 0) (P : ℕ → A → Type 0) (step : (n : ℕ) (one : A) → ((other : A) → Step one other → P n other) → P (suc n) one) where
  -- all that an item leads to stands in the list
  abbrev AreAmong : A → List A → Type 0
  AreAmong one left = (other : A) → Chained Step one other → IsPart left other

  -- and comes back to nothing
  abbrev IsApart : A → Type 0
  IsApart one = (other : A) → Chained Step one other → Chained Step other other → ⊥

  -- what holds of an item at one number more where it holds of all that it has a step to, holds of what an item has a step to at as many as there
  -- are others that it leads to
  at_less : (n : ℕ) (left : List A) (one other : A) → length left ≤ n → AreAmong one left → IsApart one → Step one other → P n other
  at_less zero left one other few among apart s =
      let at = among other (at_once s) in
      let many = length-append at.0 (other ∷ at.1) in
      let same = ap length at.2 in
      absurd (omega arith)
  at_less (suc n) left one other few among apart s =
      let at = among other (at_once s) in
      let many = length-append at.0 (other ∷ at.1) in
      let fewer = length-append at.0 at.1 in
      let same = ap length at.2 in
      let rest : AreAmong other (at.0 ++ at.1) =
      λ last c. ⊎_elim (λ is. absurd (apart other (at_once s) (subst (Chained Step other) is c))) (λ part. part)
      (others at.0 at.1 other last (subst (λ items. IsPart items last) at.2 (among last (through other s c)))) in
      step n other (λ next t. at_less n (at.0 ++ at.1) other next (omega arith) rest (λ last c. apart last (through other s c)) t)

  -- and of the item at one more
  pub by_rank : (n : ℕ) (left : List A) (one : A) → length left ≤ n → AreAmong one left → IsApart one → P (suc n) one
  by_rank n left one few among apart = step n one (λ other s. at_less n left one other few among apart s)
