-- What holds of a held component at one level more where it holds of those held ones that it names holds of each, where none comes back to itself.
use Rattle.std.proofs.Common.{◌≡◌, ℕ, suc, List, ◌∷◌, ◌++◌, Some, length, map, refl, sym, ap, subst, ◌∙◌, arith}
use Rattle.std.proofs.lemmas.List.{length-append, length-map}
use Rattle.std.specs.FinMap.{find}
use Rattle.compile_defines.proofs.Standing.{held_stands, stands_left, stands_right}
use Rattle.odd_classes.proofs.Linked.{held}
use Rattle.odd_classes.proofs.OnCycles.{macro_among}
use Rattle.odd_graph.proofs.Chains.{by_rank, last_step}
use Rattle.odd_graph.specs.Graph.{Chained}
use Rattle.odd_library.specs.declared.library.Component.{Component}
use Rattle.odd_library.specs.declared.library.Library.{Library}
use Rattle.odd_meaning.specs.Links.{IsHeld, IsLinked, macro_key, macros_of, named_by}
use Rattle.odd_text.specs.Key.{key_cmp}
use Rattle.odd_text.specs.KeyOrder.{key_exact, key_total}
use Rattle.odd_text.specs.declared.key.Key.{Key}
use Rattle.odd_text.proofs.InList.{map_stands, stands_around}
use Rattle.odd_text.proofs.InList as around
use Rattle.odd_text.specs.Standing.{StandsIn}

-- the macros that a component names are at the keys of macros
pub of_macros : (part : Component) (other : Key) → StandsIn (macros_of part) other → other ≡ macro_key other.ident
of_macros part = macro_among (named_by part)

-- the keys of entries
abbrev entry_keys : List (Key × Component) → List Key
entry_keys es = map (λ e. e.0) es

module _ (library : Library) (keys_of : Component → List Key) (key_of : List ℕ → Key) (is_key : (part : Component) (other : Key) → StandsIn (keys_of part) other → other ≡ key_of other.ident)
    (comes_back : (ident : List ℕ) → Chained (IsLinked keys_of library) (key_of ident) (key_of ident) → ⊥) where
  -- a component has a step to each held one that it names
  abbrev Step : Key → Key → Type 0
  Step = IsLinked keys_of library

  -- what these lead to is of the kind
  ends : (key other : Key) → Chained Step key other → other ≡ key_of other.ident
  ends key other c = let s = (last_step Step key other c).1 in is_key s.part other s.among

  -- and comes back to nothing
  apart : (key other : Key) → Chained Step key other → Chained Step other other → ⊥
  apart key other c loop = comes_back other.ident (subst (λ k. Chained Step k k) (ends key other c) loop)

  -- and stands among the keys of the other entries
  among_others : (key : Key) (part : Component) (before after : List (Key × Component)) → library.parts ≡ before ++ (key, part) ∷ after
      → (other : Key) → Chained Step key other → StandsIn (entry_keys before ++ entry_keys after) other
  among_others key part before after e other c =
      let h = held other library (last_step Step key other c).1.other_held in
      let s = held_stands key_cmp key_total key_exact other h.0 library.parts h.1 in
      let entry : Key × Component = (other, h.0) in
      elim (stands_around before (key, part) after s.0 entry s.1 (sym e ∙ s.2)) [
        | around.before rest is ↦ stands_left (entry_keys before) (entry_keys after) other (map_stands (λ x. x.0) before entry (s.0, rest, is))
        | around.here is same ↦
            let itself : key ≡ other = ap (λ (x : Key × Component). x.0) same in
            absurd (apart key other c (subst (λ k. Chained Step k other) itself c))
        | around.after rest is ↦ stands_right (entry_keys before) (entry_keys after) other (map_stands (λ x. x.0) after entry (rest, s.1, is))
      ]

  module _ (P : ℕ → List ℕ → Type 0)
      (more : (levels : ℕ) (ident : List ℕ) (part : Component) → find key_cmp (key_of ident) library.parts ≡ Some part
      → ((other : List ℕ) → StandsIn (keys_of part) (key_of other) → IsHeld library (key_of other) → P levels other) → P (suc levels) ident) where
    -- it holds at a key, if that is of the kind and held
    abbrev AtKey : ℕ → Key → Type 0
    AtKey levels key = (ident : List ℕ) (part : Component) → key ≡ key_of ident → find key_cmp (key_of ident) library.parts ≡ Some part → P levels ident

    step : (levels : ℕ) (key : Key) → ((other : Key) → Step key other → AtKey levels other) → AtKey (suc levels) key
    step levels key others ident part e is = more levels ident part is (λ other s h.
        let there = held (key_of other) library h in
        others (key_of other) (subst (λ k. Step k (key_of other)) (sym e) (record { part = part; held = is; among = s; other_held = h })) other there.0 refl there.1)

    -- at as many levels as the library holds components
    pub each_ranked : (ident : List ℕ) (part : Component) → find key_cmp (key_of ident) library.parts ≡ Some part → P (length library.parts) ident
    each_ranked ident part is =
        let s = held_stands key_cmp key_total key_exact (key_of ident) part library.parts is in
        let left : List Key = entry_keys s.0 ++ entry_keys s.1 in
        let all = ap length s.2 in
        let here = length-append s.0 ((key_of ident, part) ∷ s.1) in
        let there = length-append (entry_keys s.0) (entry_keys s.1) in
        let first = length-map s.0 (λ (x : Key × Component). x.0) in
        let last = length-map s.1 (λ (x : Key × Component). x.0) in
        let levels : suc (length left) ≡ length library.parts = omega arith in
        subst (λ n. P n ident) levels
        (by_rank Step AtKey step (length left) left (key_of ident) (omega arith) (among_others (key_of ident) part s.0 s.1 s.2) (apart (key_of ident)) ident part refl is)
