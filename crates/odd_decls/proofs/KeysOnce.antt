-- A file that breaks nothing declares at most one component for each key.
use Rattle.std.proofs.Common.{◌≡◌, ◌<◌, ℕ, List, [], ◌∷◌, Some, inl, inr, refl, sym, ap, subst, arith}
use Rattle.std.proofs.lemmas.Option.{same_Some}
use Rattle.std.specs.List.{filter_map}
use Rattle.odd_items.specs.Search.{Found}
use Rattle.odd_library.specs.Formed.{key_of}
use Rattle.odd_library.specs.Odd.{place_of}
use Rattle.odd_library.specs.declared.odd.Entry.{Entry}
use Rattle.odd_library.specs.declared.odd.Entry.TheVariants as entry
use Rattle.odd_library.specs.declared.odd.OddDoc.{OddDoc}
use Rattle.odd_text.specs.declared.key.Key.{Key}
use Rattle.odd_tokens.proofs.Characters.{Distinct, Lacks, none_twice}
use Rattle.odd_tokens.specs.Tokens.{NoneTwice}
use Rattle.odd_text.proofs.InList.{first_or_later, nothing_stands, stands_first, stands_later}
use Rattle.odd_text.specs.Standing.{StandsIn}
use Rattle.odd_tree.specs.declared.tree.Tree.{Tree}
use Rattle.odd_decls.proofs.ItemsRead.{entry_place}
use Rattle.odd_decls.specs.Declares.{DeclaresWhole, IsEntryOf, PlacesRise, namespace_of}
use Rattle.odd_decls.specs.Items.{IsSpecOf, at_of}
use Rattle.odd_decls.specs.Offences.{ItemsOffend, Offends}

-- without the first of them entries rise
rest_rises : (e : Entry) (es : List Entry) → PlacesRise (e ∷ es) → PlacesRise es
rest_rises e es rise before after f next is = rise (e ∷ before) after f next (ap (λ fs. e ∷ fs) is)

-- and each of the others is above the first
place_above : (e : Entry) (es : List Entry) → PlacesRise (e ∷ es) → (f : Entry) → StandsIn es f → place_of e < place_of f
place_above e [] rise f s = absurd (nothing_stands f s)
place_above e (g ∷ es) rise f s =
    let less : place_of e < place_of g = rise [] es e g refl in
    elim (first_or_later g f es s) [
      | inl same ↦ subst (λ h. place_of e < place_of h) (sym same) less
      | inr later ↦ let more : place_of g < place_of f = place_above g es (rest_rises e (g ∷ es) rise) f later in omega arith
    ]

-- a key that no entry declares is none of theirs
lacks_key : (key : Key) (es : List Entry) → ((e : Entry) → StandsIn es e → key_of e ≡ Some key → ⊥) → Lacks key (filter_map key_of es)
lacks_key key [] none = tt
lacks_key key (entry.Spec at spec ∷ es) none =
    (λ same. none (entry.Spec at spec) (stands_first (entry.Spec at spec) es) (ap Some same), lacks_key key es (λ e s. none e (stands_later (entry.Spec at spec) e es s)))
lacks_key key (other ∷ es) none = lacks_key key es (λ e s. none e (stands_later other e es s))

-- no two of the entries declare at one key
abbrev NoneAgain : List Entry → Type 0
NoneAgain es = (e f : Entry) (key : Key) → StandsIn es e → StandsIn es f → place_of e < place_of f → key_of e ≡ Some key → key_of f ≡ Some key → ⊥

none_later : (e : Entry) (es : List Entry) → NoneAgain (e ∷ es) → NoneAgain es
none_later e es none f g key s r = none f g key (stands_later e f es s) (stands_later e g es r)

-- so their keys are distinct
keys_distinct : (es : List Entry) → PlacesRise es → NoneAgain es → Distinct (filter_map key_of es)
keys_distinct [] rise none = tt
keys_distinct (entry.Spec at spec ∷ es) rise none =
    let e = entry.Spec at spec in (
      lacks_key spec.key es (λ f s is. none e f spec.key (stands_first e es) (stands_later e f es s) (place_above e es rise f s) refl is),
      keys_distinct es (rest_rises e es rise) (none_later e es none),
    )
keys_distinct (other ∷ es) rise none = keys_distinct es (rest_rises other es rise) (none_later other es none)

-- an entry with a key is of an item that declares it
declares_key : (ns : List ℕ) (item : Found) (e : Entry) (key : Key) → IsEntryOf ns item e → key_of e ≡ Some key → IsSpecOf key item.element
declares_key ns item _ key (IsEntryOf.«module» is keyed) h = cc
declares_key ns item _ key (IsEntryOf.take e is kind keyed) h = cc
declares_key ns item _ key (IsEntryOf.spec read) h = subst (λ k. IsSpecOf k item.element) (same_Some _ _ h) read.is_spec

pub keys_once : (t : Tree) (doc : OddDoc) → DeclaresWhole t doc → NoneTwice (filter_map key_of doc.entries)
keys_once t doc d = none_twice (filter_map key_of doc.entries) (keys_distinct doc.entries d.rising none)
  where
    none : NoneAgain doc.entries
    none e f key s r less is also =
        let ns = namespace_of d.schemas in
        let one = d.entries.none_else e s in
        let two = d.entries.none_else f r in
        let before : at_of one.0 < at_of two.0 = omega (arith, less, entry_place ns one.0 e one.2, entry_place ns two.0 f two.2) in
        d.unoffended _ 4 (record {
          schemas = d.schemas;
          found = d.found;
          offends = Offends.item (ItemsOffend.twice key one.0 two.0 one.1 two.1 before (declares_key ns one.0 e key one.2 is) (declares_key ns two.0 f key two.2 also) refl);
        })
