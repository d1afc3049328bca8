-- What a file does at each key, and what the library after it holds there.
use Rattle.std.proofs.Common.{◌≡◌, ℕ, ◌+◌, ◌<◌, Bool, true, false, if◌then◌else◌, List, [], ◌++◌, Option, Some, None, drop, get_or, length, take, refl, sym, ap, subst, ◌∙◌}
use Rattle.std.proofs.lemmas.List.{take-append-drop}
use Rattle.std.specs.FinMap.{is_sorted}
use Rattle.std.specs.Prelude.{IsTrue}
use Rattle.odd_text.specs.Key.{key_cmp}
use Rattle.odd_text.specs.declared.key.Key.{Key}
use Rattle.odd_text.proofs.Rise.{IsAboveAll, Rises, above_before, rises_of, sorted_front}
use Rattle.odd_text.proofs.InList.{ends}
use Rattle.odd_library.specs.Over.{spec_laid}
use Rattle.odd_library.specs.declared.library.Component.{Component}
use Rattle.odd_library.specs.declared.odd.OddDoc.{OddDoc}
use Rattle.odd_library.specs.declared.spec.Spec.{Spec}
use Rattle.odd_modes.specs.After.{after_one, held_by, kept, spec_at}
use Rattle.odd_modes.specs.Index.{AreReferencesOf, is_listed, kept_at, put_over}
use Rattle.odd_modes.specs.Swept.{swept_at}
use Rattle.odd_modes.specs.declared.references.References.{References}
use Rattle.odd_modes.specs.declared.sweeping.Act.TheVariants.{Keep}

-- a key of parts is above those before it
pub above_there : (parts : List (Key × Component)) (i : ℕ) (e : Key × Component) → IsTrue (is_sorted key_cmp parts) → i < length parts → e ≡ get_or parts i e → IsAboveAll key_cmp (take i parts) e.0
above_there parts i e rising within is =
    let whole : take (i + 1) parts ++ drop (i + 1) parts ≡ parts = take-append-drop (i + 1) parts in
    let front = sorted_front key_cmp (take (i + 1) parts) (drop (i + 1) parts) (subst (λ es. IsTrue (is_sorted key_cmp es)) (sym whole) rising) in
    above_before key_cmp (take i parts) [] e.0 e.1 (subst (Rises key_cmp) (ends parts i e within is) (rises_of key_cmp (take (i + 1) parts) front))

-- what the acts leave is what the library after the file holds
pub done_after : (doc : OddDoc) (refs : References) (key : Key) (held : Option Component) → AreReferencesOf doc.entries refs
    → swept_at spec_laid (put_over (spec_at doc.entries key) (kept_at refs key held)) held ≡ after_one doc key held
done_after doc refs key held are = by_spec (spec_at doc.entries key)
  where
    by_listed : (b : Bool) (part : Component) → swept_at spec_laid (if b then Some Keep else None) (Some part) ≡ (if b then Some part else None)
    by_listed true part = refl
    by_listed false part = refl

    by_held : (x : Option Component) → swept_at spec_laid (kept_at refs key x) x ≡ kept doc.entries key x
    by_held None = refl
    by_held (Some part) = by_listed (is_listed refs key part) part ∙ ap (λ b. if b then Some part else None) (are key part)

    by_spec : (o : Option Spec) → swept_at spec_laid (put_over o (kept_at refs key held)) held ≡ held_by o doc.entries key held
    by_spec None = by_held held
    by_spec (Some spec) = refl
