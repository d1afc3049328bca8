-- What a file does at keys, made of its declarations in rising order of key.
use Rattle.std.specs.Prelude.{◌≡◌, Bool, false, List, [], ◌∷◌, ◌++◌, map, reverse, Option, Some, None, if◌then◌else◌}
use Rattle.std.specs.Borrow.{Bor}
use Rattle.std.specs.List.{All, AllByRecursion}
use Rattle.std.specs.Option.{option_or}
use Rattle.std.specs.Ordering.{eq_by_cmp, is_lt}
use Rattle.std.specs.declared.cmp.Ordering.TheVariants.{Less}
use Rattle.odd_text.specs.Key.{key_cmp}
use Rattle.odd_text.specs.declared.key.Key.{Key}
use Rattle.odd_text.specs.Keyed.{key_of}
use Rattle.odd_text.specs.declared.keyed.Keyed.{Keyed}
use Rattle.odd_library.specs.declared.odd.Entry.{Entry}
use Rattle.odd_library.specs.declared.odd.Entry.TheVariants as entry
use Rattle.odd_library.specs.declared.spec.Spec.{Spec}
use Rattle.odd_modes.specs.declared.sweeping.Act.{Act}
use Rattle.odd_modes.specs.declared.sweeping.Act.TheVariants.{Put}

-- the declarations among items
abbrev pub specs_of : List Entry → List Spec
specs_of [] = []
specs_of (entry.Spec at s ∷ rest) = s ∷ specs_of rest
specs_of (e ∷ rest) = specs_of rest

-- the declarations, each by its key
abbrev pub AreKeyed : List Spec → List (Keyed (Bor Spec)) → Type 0
AreKeyed specs keyed = (map (λ k. k.value.now) keyed ≡ specs) × All (λ k. key_of k ≡ k.value.now.key) keyed

-- the last of the declarations for the key
abbrev pub last_of : List Spec → Key → Option Spec
last_of [] key = None
last_of (s ∷ rest) key = option_or (last_of rest key) (if eq_by_cmp key_cmp key s.key then Some s else None)

-- none of the declarations is below the one before it
abbrev pub AreRising : List Spec → Type 0
AreRising [] = Unit {0}
AreRising (s ∷ []) = Unit {0}
AreRising (s ∷ t ∷ rest) = (is_lt (key_cmp t.key s.key) ≡ false) × AreRising (t ∷ rest)

-- the first of the declarations is at the key, or below it
abbrev pub is_at : List Spec → Key → Bool
is_at [] key = false
is_at (s ∷ rest) key = eq_by_cmp key_cmp s.key key

abbrev pub is_below : List Spec → Key → Bool
is_below [] key = false
is_below (s ∷ rest) key = is_lt (key_cmp s.key key)

-- the last declaration at each key is put
abbrev pub acts_of : List Spec → List (Key × Act Spec)
acts_of [] = []
acts_of (s ∷ rest) = if is_at rest s.key then acts_of rest else (s.key, Put s) ∷ acts_of rest

-- declarations that are still to be put, the last of the list first
abbrev pub still_to_put : List (Bor Spec) → List Spec
still_to_put specs = map (λ s. s.now) (reverse specs)

-- the acts so far, and those that are still to come
abbrev pub waiting : List (Key × Act Spec) → List Spec → List (Key × Act Spec)
waiting acts specs = acts ++ acts_of specs

-- the keys of all acts are below the key
abbrev pub AreBelow : List (Key × Act Spec) → Key → Type 0
AreBelow acts key = AllByRecursion (λ e. key_cmp e.0 key ≡ Less) acts
