-- A file's declaration for a key, item by item.
use Rattle.std.proofs.Common.{◌≡◌, List, refl, sym, ap, subst, ◌∙◌, ℕ, Bool, true, false, if◌then◌else◌, [], ◌∷◌, Option, Some, None}
use Rattle.std.proofs.lemmas.Map.Views.{tells_apart}
use Rattle.std.specs.Option.{option_or}
use Rattle.std.specs.Ordering.{eq_by_cmp}
use Rattle.odd_library.specs.declared.odd.Entry.{Entry}
use Rattle.odd_library.specs.declared.odd.Entry.TheVariants as entry
use Rattle.odd_library.specs.declared.spec.Spec.{Spec}
use Rattle.odd_text.specs.Key.{key_cmp}
use Rattle.odd_text.specs.KeyOrder.{key_exact}
use Rattle.odd_text.specs.declared.key.Key.{Key}
use Rattle.odd_text.proofs.InList.{stands_first, stands_later}
use Rattle.odd_text.specs.Standing.{StandsIn}
use Rattle.odd_modes.specs.After.{spec_at, spec_in}

-- with none before it the last is the last
pub last_alone : (o : Option Spec) → o ≡ option_or o None
last_alone None = refl
last_alone (Some spec) = refl

-- an item stands among the items, and declares the spec at the key
abbrev pub Declares : List Entry → Key → Spec → Type 0
Declares items key spec = (at : ℕ) × StandsIn items (entry.Spec at spec) × (spec.key ≡ key)

declares_first : (x : Entry) (items : List Entry) (key : Key) (spec : Spec) → spec_in x key ≡ Some spec → Declares (x ∷ items) key spec
declares_first (entry.Module at name p) items key spec h = cc
declares_first (entry.Take at taken) items key spec h = cc
declares_first (entry.Spec at one) items key spec h = by_key (eq_by_cmp key_cmp key one.key) refl h
  where
    by_key : (b : Bool) → eq_by_cmp key_cmp key one.key ≡ b → (if b then Some one else None) ≡ Some spec → Declares (entry.Spec at one ∷ items) key spec
    by_key true t h =
        let same : one ≡ spec = cc in
        (at, subst (λ s. StandsIn (entry.Spec at one ∷ items) (entry.Spec at s)) same (stands_first (entry.Spec at one) items), sym (ap (λ (s : Spec). s.key) same) ∙ sym (tells_apart key_exact key one.key t))
    by_key false t h = cc

-- the file's declaration for a key is one of its items
pub spec_stands : (items : List Entry) (key : Key) (spec : Spec) → spec_at items key ≡ Some spec → Declares items key spec
spec_stands [] key spec e = cc
spec_stands (x ∷ items) key spec e = by_rest (spec_at items key) e (spec_stands items key spec)
  where
    by_rest : (later : Option Spec) → option_or later (spec_in x key) ≡ Some spec → (later ≡ Some spec → Declares items key spec) → Declares (x ∷ items) key spec
    by_rest None h rest = declares_first x items key spec h
    by_rest (Some one) h rest = let s = rest h in (s.0, stands_later x (entry.Spec s.0 spec) items s.1, s.2)
