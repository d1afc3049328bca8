-- The declarations at a level, and the path from it outwards.
use Rattle.std.proofs.Common.{◌≡◌, ℕ, ◌+◌, ◌<◌, ◌≤◌, List, [], ◌∷◌, ◌++◌, map, reverse, length, Option, Some, None, Bor, slice_get, refl, sym, ap, subst, ◌∙◌, append_assoc, arith}
use Rattle.std.proofs.lemmas.List.{append-nil, map-append, reverse-append}
use Rattle.std.proofs.lemmas.Option.{none-some, same_Some, slice_get_within, slice_get-map}
use Rattle.std.specs.Prelude.{option_map}
use Rattle.odd_text.specs.declared.name.Bind.{Bind}
use Rattle.odd_tree.specs.Elements.{all_binds}
use Rattle.odd_items.specs.Searching.{IsAround, outside, inside}
use Rattle.odd_items.specs.declared.searching.Level.{Level}

-- the declarations that references point to
abbrev pub scopes : List (Bor (List Bind)) → List (List Bind)
scopes = map (λ s. s.now)

-- the declarations along a path, with one element more around it
binds_more : (path : List (List Bind)) (binds : List Bind) → all_binds (reverse (path ++ binds ∷ [])) ≡ binds ++ all_binds (reverse path)
binds_more path binds = ap all_binds (reverse-append path (binds ∷ []))

-- reversed, they point to the same ones reversed
scopes_backwards : (path : List (Bor (List Bind))) → scopes (reverse path) ≡ reverse (scopes path)
scopes_backwards [] = refl
scopes_backwards (s ∷ path) =
    ap scopes (reverse-append (s ∷ []) path) ∙ map-append (λ (s : Bor (List Bind)). s.now) (reverse path) (s ∷ []) ∙ ap (λ x. x ++ s.now ∷ []) (scopes_backwards path) ∙ sym (reverse-append (s.now ∷ []) (scopes path))

-- what a path declares, read from its end, is what it declares once it is turned
pub turned : (path new : List (Bor (List Bind))) (around : List Bind) → new ≡ reverse path → all_binds (reverse (scopes path)) ≡ around → all_binds (scopes new) ≡ around
turned path new around is whole = ap (λ ps. all_binds (scopes ps)) is ∙ ap all_binds (scopes_backwards path) ∙ whole

-- what was made of a level stands at its place
pub made_of : (levels : List Level) (own : List (List Bind)) (at : ℕ) (l : Level) (binds : List Bind) → own ≡ map (λ l. l.binds.now) levels → slice_get levels at ≡ Some l → slice_get own at ≡ Some binds
    → binds ≡ l.binds.now
made_of levels own at l binds is here made =
    same_Some binds l.binds.now (sym made ∙ ap (λ bs. slice_get bs at) is ∙ slice_get-map (λ l. l.binds.now) levels at ∙ ap (option_map (λ l. l.binds.now)) here)

-- the list has a level of which declarations are told
pub level_within : (levels : List Level) (at : ℕ) (around : List Bind) → IsAround levels (Some at) around → at < length levels
level_within levels at around (inside l here low h) = slice_get_within levels at l here

-- and there it stands
has_level : (levels : List Level) (at : ℕ) (around : List Bind) → IsAround levels (Some at) around → (l : Level) × (slice_get levels at ≡ Some l)
has_level levels at around (inside l here low h) = (l, here)

-- outside of all levels nothing is declared
none_outside : (levels : List Level) (around : List Bind) → IsAround levels None around → around ≡ []
none_outside levels around outside = refl

-- the declarations at a level are its own after those around it
level_around : (levels : List Level) (at : ℕ) (l : Level) (around : List Bind) → slice_get levels at ≡ Some l → IsAround levels (Some at) around
    → (outer : List Bind) × IsAround levels l.outer outer × (around ≡ outer ++ l.binds.now) × ((other : ℕ) → l.outer ≡ Some other → other < at)
level_around levels at l around here (inside {outer = o} m there low h) =
    let same : m ≡ l = same_Some m l (sym there ∙ here) in (
      o,
      subst (λ k. IsAround levels k.outer o) same h,
      ap (λ k. o ++ k.binds.now) same,
      subst (λ k. (other : ℕ) → k.outer ≡ Some other → other < at) same low,
    )

-- the path from a level outwards, the innermost first, leads to the next level after so many steps
abbrev pub LeadsOut : List Level → Option ℕ → Option ℕ → List (List Bind) → ℕ → Type 0
LeadsOut levels level next path steps =
    (around : List Bind) → IsAround levels level around
    → (outer : List Bind) × IsAround levels next outer × (around ≡ outer ++ all_binds (reverse path)) × ((at : ℕ) → next ≡ Some at → at + steps < length levels)

-- at the start it is the level itself
pub path_starts : (levels : List Level) (level : Option ℕ) → LeadsOut levels level level [] 0
path_starts levels level around h =
    (around, h, sym (append-nil around), λ at is. let low = level_within levels at around (subst (λ k. IsAround levels k around) is h) in omega (arith, low))

-- one step outwards
pub path_more : (levels : List Level) (level next : Option ℕ) (at : ℕ) (l : Level) (path longer : List (List Bind)) (steps : ℕ) → next ≡ Some at → slice_get levels at ≡ Some l → longer ≡ path ++ l.binds.now ∷ []
    → LeadsOut levels level next path steps → LeadsOut levels level l.outer longer (steps + 1)
path_more levels level next at l path longer steps is here more leads around h =
    let p = leads around h in
    let q = level_around levels at l p.0 here (subst (λ k. IsAround levels k p.0) is p.1) in
    let low = p.3 at is in (
      q.0,
      q.1,
      p.2 ∙ ap (λ bs. bs ++ all_binds (reverse path)) q.2 ∙ append_assoc q.0 l.binds.now (all_binds (reverse path))
          ∙ ap (λ bs. q.0 ++ bs) (sym (ap (λ ps. all_binds (reverse ps)) more ∙ binds_more path l.binds.now)),
      λ other o. let lower = q.3 other o in omega (arith, low, lower),
    )

-- outside of all levels the path is whole
pub path_ends : (levels : List Level) (level next : Option ℕ) (path : List (List Bind)) (steps : ℕ) → next ≡ None → LeadsOut levels level next path steps
    → (around : List Bind) → IsAround levels level around → all_binds (reverse path) ≡ around
path_ends levels level next path steps is leads around h =
    let p = leads around h in
    sym (p.2 ∙ ap (λ bs. bs ++ all_binds (reverse path)) (none_outside levels p.0 (subst (λ k. IsAround levels k p.0) is p.1)))

-- it leads to no level that the list has not
pub path_leaves : {A : Type 0} (levels : List Level) (level next : Option ℕ) (at : ℕ) (path : List (List Bind)) (steps : ℕ) → next ≡ Some at → slice_get levels at ≡ None → LeadsOut levels level next path steps
    → (around : List Bind) → IsAround levels level around → A
path_leaves levels level next at path steps is none leads around h =
    let p = leads around h in
    let l = has_level levels at p.0 (subst (λ k. IsAround levels k p.0) is p.1) in
    absurd (none-some l.0 (sym none ∙ l.1))

-- after as many steps as there are levels there is none left
pub path_whole : (levels : List Level) (level next : Option ℕ) (path : List (List Bind)) (steps : ℕ) → length levels ≤ steps → LeadsOut levels level next path steps
    → (around : List Bind) → IsAround levels level around → all_binds (reverse path) ≡ around
path_whole levels level None path steps far leads = path_ends levels level None path steps refl leads
path_whole levels level (Some at) path steps far leads = λ around h.
    let low = (leads around h).3 at refl in
    absurd (omega (arith, far, low))
