-- The library after the one file that declares the components of a library is that library.
use Rattle.std.proofs.Common.{◌≡◌, Bool, true, false, if◌then◌else◌, cond, List, [], ◌∷◌, Option, Some, None, refl, sym, ap, ap₂, ◌∙◌}
use Rattle.std.specs.FinMap.{find}
use Rattle.std.specs.Option.{option_or}
use Rattle.std.specs.Ordering.{eq_by_cmp, is_eq}
use Rattle.odd_text.specs.Key.{key_cmp}
use Rattle.odd_text.specs.KeyOrder.{key_total, tied_is_same}
use Rattle.odd_text.specs.declared.key.Key.{Key}
use Rattle.odd_text.specs.Standing.{StandsIn}
use Rattle.odd_text.proofs.InList.{stands_first, stands_later}
use Rattle.odd_text.proofs.SetOf.{first_below, rest_rising}
use Rattle.odd_text.specs.Sorted.{AreRising}
use Rattle.odd_library.specs.Formed.{IsFormedLibrary}
use Rattle.odd_library.specs.Library.{component_of}
use Rattle.odd_library.specs.Over.{declared}
use Rattle.odd_library.specs.declared.library.Component.{Component}
use Rattle.odd_library.specs.declared.library.Library.{Library}
use Rattle.odd_library.specs.declared.odd.Entry.{Entry}
use Rattle.odd_library.specs.declared.odd.Entry.TheVariants as entry
use Rattle.odd_library.specs.declared.odd.OddDoc.{OddDoc}
use Rattle.odd_library.specs.declared.spec.Mode.TheVariants as mode
use Rattle.odd_library.specs.declared.spec.Spec.{Spec}
use Rattle.odd_modes.specs.After.{IsLibraryAfter, held_by, spec_at}
use Rattle.odd_overlay.specs.Tabled.{keys_of}
use Rattle.merged_laws.proofs.Entries.{library_rises}

-- an item adds the component, and nothing else
abbrev pub IsEntryFor : Entry → Key × Component → Type 0
IsEntryFor (entry.Module at name p) e = ⊥
IsEntryFor (entry.Take at taken) e = ⊥
IsEntryFor (entry.Spec at spec) e = (spec.key ≡ e.0) × (spec.mode ≡ mode.Add) × (component_of spec ≡ e.1)

-- one item for each component, in order
abbrev pub AreEntriesFor : List Entry → List (Key × Component) → Type 0
AreEntriesFor [] [] = Unit {0}
AreEntriesFor (x ∷ xs) (e ∷ es) = IsEntryFor x e × AreEntriesFor xs es
AreEntriesFor xs es = ⊥

-- of a key that none of them has there is no spec
none_at : (entries : List Entry) (es : List (Key × Component)) (key : Key) → AreEntriesFor entries es → ((k : Key) → StandsIn (keys_of es) k → eq_by_cmp key_cmp key k ≡ false) → spec_at entries key ≡ None
none_at [] [] key h apart = refl
none_at [] (e ∷ es) key h apart = absurd h
none_at (x ∷ rest) [] key h apart = absurd h
none_at (entry.Spec at spec ∷ rest) (e ∷ es) key h apart =
    ap₂ (λ (o : Option Spec) (b : Bool). option_or o (if b then Some spec else None)) (none_at rest es key h.1 (λ k stands. apart k (stands_later e.0 k (keys_of es) stands)))
    (ap (eq_by_cmp key_cmp key) h.0.0 ∙ apart e.0 (stands_first e.0 (keys_of es)))
none_at (entry.Module at name p ∷ rest) (e ∷ es) key h apart = absurd h.0
none_at (entry.Take at taken ∷ rest) (e ∷ es) key h apart = absurd h.0

or_none : (o : Option Spec) → option_or o None ≡ o
or_none None = refl
or_none (Some x) = refl

-- each key is held as the entries declare it
held : (all entries : List Entry) (es : List (Key × Component)) (key : Key) → AreEntriesFor entries es → AreRising key_cmp (keys_of es) → find key_cmp key es ≡ held_by (spec_at entries key) all key None
held all [] [] key h r = refl
held all [] (e ∷ es) key h r = absurd h
held all (x ∷ rest) [] key h r = absurd h
held all (entry.Module at name p ∷ rest) (e ∷ es) key h r = absurd h.0
held all (entry.Take at taken ∷ rest) (e ∷ es) key h r = absurd h.0
held all (entry.Spec at spec ∷ rest) (e ∷ es) key h r =
    elim (eq_by_cmp key_cmp key e.0) as (λ b. eq_by_cmp key_cmp key e.0 ≡ b
    → cond b (Some e.1) (find key_cmp key es) ≡ held_by (option_or (spec_at rest key) (if eq_by_cmp key_cmp key spec.key then Some spec else None)) all key None) [
      | true ↦ λ q.
          let same : key ≡ e.0 = (tied_is_same key e.0 (key_cmp key e.0) refl).0 q in
          let none = none_at rest es key h.1 (λ k stands. ap is_eq (ap (λ x. key_cmp x k) same ∙ first_below key_cmp key_total e.0 (keys_of es) r k stands)) in
          sym (
          ap₂ (λ (o : Option Spec) (b : Bool). held_by (option_or o (if b then Some spec else None)) all key None) none (ap (eq_by_cmp key_cmp key) h.0.0 ∙ q)
          ∙ ap (λ m. declared m spec None) h.0.1 ∙ ap (λ part. Some part) h.0.2
          )
      | false ↦ λ q.
          held all rest es key h.1 (rest_rising key_cmp key_total e.0 (keys_of es) r)
          ∙ sym (ap (λ (b : Bool). held_by (option_or (spec_at rest key) (if b then Some spec else None)) all key None) (ap (eq_by_cmp key_cmp key) h.0.0 ∙ q)
          ∙ ap (λ o. held_by o all key None) (or_none (spec_at rest key)))
    ] refl

pub library_after : (library : Library) (doc : OddDoc) → IsFormedLibrary library → library.ident ≡ doc.ident → library.start ≡ doc.start → AreEntriesFor doc.entries library.parts → IsLibraryAfter (doc ∷ []) library
library_after library doc f ident start entries =
    record { ident = ident; start = start; rising = f.rising; holds = λ key. held doc.entries doc.entries library.parts key entries (library_rises library f) }
