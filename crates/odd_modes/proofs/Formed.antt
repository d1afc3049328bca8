-- A library stays formed with one file more.
use Rattle.std.proofs.Common.{◌≡◌, Bool, true, false, List, Option, Some, None, if◌then◌else◌, refl, sym, subst, ◌∙◌}
use Rattle.std.specs.FinMap.{find, is_sorted}
use Rattle.std.specs.Option.{IfSome}
use Rattle.std.specs.Prelude.{IsTrue}
use Rattle.odd_text.specs.Key.{key_cmp}
use Rattle.odd_text.specs.declared.key.Key.{Key}
use Rattle.odd_tokens.specs.Characters.{IsNCName}
use Rattle.odd_library.proofs.Formed.{alone_formed, over_formed}
use Rattle.odd_library.specs.Formed.{AreStartWords, IsFormedDoc, IsFormedLibrary, IsFormedPart, IsFormedSpec, IsWholeIn}
use Rattle.odd_library.specs.Over.{declared}
use Rattle.odd_library.specs.declared.library.Component.{Component}
use Rattle.odd_library.specs.declared.library.Library.{Library}
use Rattle.odd_library.specs.declared.odd.Entry.{Entry}
use Rattle.odd_library.specs.declared.odd.Entry.TheVariants as entry
use Rattle.odd_library.specs.declared.odd.OddDoc.{OddDoc}
use Rattle.odd_library.specs.declared.spec.Mode.{Mode}
use Rattle.odd_library.specs.declared.spec.Mode.TheVariants as mode
use Rattle.odd_library.specs.declared.spec.Spec.{Spec}
use Rattle.odd_modes.proofs.SpecAt.{spec_stands}
use Rattle.odd_modes.specs.After.{after_one, held_by, kept, spec_at}
use Rattle.odd_modes.specs.Choosing.{is_referred}

-- what is held at the key is formed
abbrev IsFormedAt : Key → Component → Type 0
IsFormedAt key part = IsNCName key.ident × IsFormedPart key.kind part

-- where a declaration of the mode is over it
declared_formed : (m : Mode) (spec : Spec) (held : Option Component) → IsFormedSpec spec → IsWholeIn m spec → IfSome held (IsFormedAt spec.key) → IfSome (declared m spec held) (IsFormedAt spec.key)
declared_formed mode.Add spec held f whole h = (f.named, alone_formed spec f whole)
declared_formed mode.Replace spec held f whole h = (f.named, alone_formed spec f whole)
declared_formed mode.Delete spec held f whole h = tt
declared_formed mode.Change spec None f whole h = tt
declared_formed mode.Change spec (Some part) f whole h = (h.0, over_formed spec f spec.key.kind refl part h.1)

-- where it is kept
kept_formed : (entries : List Entry) (key : Key) (held : Option Component) → IfSome held (IsFormedAt key) → IfSome (kept entries key held) (IsFormedAt key)
kept_formed entries key None h = tt
kept_formed entries key (Some part) h = by (is_referred entries key part)
  where
    by : (b : Bool) → IfSome (if b then Some part else None) (IsFormedAt key)
    by true = h
    by false = tt

-- after a file more
one_formed : (doc : OddDoc) (key : Key) (held : Option Component) → IsFormedDoc doc → IfSome held (IsFormedAt key) → IfSome (after_one doc key held) (IsFormedAt key)
one_formed doc key held formed h = by (spec_at doc.entries key) refl
  where
    by : (o : Option Spec) → spec_at doc.entries key ≡ o → IfSome (held_by o doc.entries key held) (IsFormedAt key)
    by None e = kept_formed doc.entries key held h
    by (Some spec) e =
        let s = spec_stands doc.entries key spec e in
        let f : IsFormedSpec spec = formed.entries (entry.Spec s.0 spec) s.1 in
        subst (λ k. IfSome held (IsFormedAt k) → IfSome (declared spec.mode spec held) (IsFormedAt k)) s.2 (declared_formed spec.mode spec held f f.whole) h

-- the library after one file more
pub after_formed : (library made : Library) (doc : OddDoc) → IsFormedLibrary library → IsFormedDoc doc → made.ident ≡ doc.ident → made.start ≡ doc.start
    → IsTrue (is_sorted key_cmp made.parts) → ((key : Key) → find key_cmp key made.parts ≡ after_one doc key (find key_cmp key library.parts)) → IsFormedLibrary made
after_formed library made doc formed of_doc ident start rising holds = record {
  ident = subst IsNCName (sym ident) of_doc.ident;
  start = subst AreStartWords (sym start) of_doc.start;
  rising = rising;
  formed = λ key part held. subst (λ o. IfSome o (IsFormedAt key)) (sym (holds key) ∙ held) (one_formed doc key (find key_cmp key library.parts) of_doc (before key (find key_cmp key library.parts) refl));
}
  where
    before : (key : Key) (held : Option Component) → find key_cmp key library.parts ≡ held → IfSome held (IsFormedAt key)
    before key None e = tt
    before key (Some part) e = formed.formed key part e
