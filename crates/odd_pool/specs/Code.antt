-- A pattern as the list of its nodes, each after its parts, by which a proof tells patterns apart.
use Rattle.std.specs.Prelude.{◌≡◌, ◌⊎◌, ℕ, ◌==◌, List, [], ◌∷◌}
use Rattle.std.proofs.Common.{cond, inl, inr, refl, ◌∙◌}
use Rattle.std.specs.Coded.{Coded, code_by, coded⊎, coded_ℕ, coded_list}
use Rattle.odd_pool.specs.Pattern.{Pattern, never, empty, leaf, choice, group, more}

module _ {L : Type 0} where
  -- a leaf, or the number of another kind of node
  abbrev tokens : Pattern L → List (ℕ ⊎ L) → List (ℕ ⊎ L)
  tokens never k = inl 0 ∷ k
  tokens empty k = inl 1 ∷ k
  tokens (leaf l) k = inr l ∷ k
  tokens (choice p q) k = tokens p (tokens q (inl 2 ∷ k))
  tokens (group p q) k = tokens p (tokens q (inl 3 ∷ k))
  tokens (more p) k = tokens p (inl 4 ∷ k)

  abbrev first : List (Pattern L) → Pattern L
  first [] = never
  first (p ∷ ps) = p

  abbrev rest : List (Pattern L) → List (Pattern L)
  rest [] = []
  rest (p ∷ ps) = ps

  -- the patterns that wait to be parts, the last first, after one more node
  abbrev built : List (Pattern L) → ℕ ⊎ L → List (Pattern L)
  built ps (inl n) =
      let two = rest (rest ps) in
      cond (n == 0) (never ∷ ps) (cond (n == 1) (empty ∷ ps) (cond (n == 2) (choice (first (rest ps)) (first ps) ∷ two) (cond (n == 3) (group (first (rest ps)) (first ps) ∷ two) (more (first ps) ∷ rest ps))))
  built ps (inr l) = leaf l ∷ ps

  abbrev pattern_of : List (Pattern L) → List (ℕ ⊎ L) → Pattern L
  pattern_of ps [] = first ps
  pattern_of ps (t ∷ k) = pattern_of (built ps t) k

  pub pattern_of_tokens : (p : Pattern L) (ps : List (Pattern L)) (k : List (ℕ ⊎ L)) → pattern_of ps (tokens p k) ≡ pattern_of (p ∷ ps) k
  pattern_of_tokens never ps k = refl
  pattern_of_tokens empty ps k = refl
  pattern_of_tokens (leaf l) ps k = refl
  pattern_of_tokens (choice p q) ps k = pattern_of_tokens p ps (tokens q (inl 2 ∷ k)) ∙ pattern_of_tokens q (p ∷ ps) (inl 2 ∷ k)
  pattern_of_tokens (group p q) ps k = pattern_of_tokens p ps (tokens q (inl 3 ∷ k)) ∙ pattern_of_tokens q (p ∷ ps) (inl 3 ∷ k)
  pattern_of_tokens (more p) ps k = pattern_of_tokens p ps (inl 4 ∷ k)

  abbrev pub pattern_code : Coded L → Coded (Pattern L)
  pattern_code code = code_by (List (ℕ ⊎ L)) (coded_list (coded⊎ coded_ℕ code)) (λ p. tokens p []) (λ k. pattern_of [] k) (λ p. pattern_of_tokens p [] [])
