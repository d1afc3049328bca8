-- Docs that differ in the places of their items alone have the same library after them.
use Rattle.std.proofs.Common.{⊎_elim, ◌≡◌, ◌∙◌, ℕ, zero, Bool, true, false, List, [], ◌∷◌, Option, Some, None, if◌then◌else◌, reverse, refl, sym, ap, subst}
use Rattle.std.specs.Option.{option_or}
use Rattle.std.specs.Cmp.{tied_itself}
use Rattle.std.specs.Ordering.{eq_by_cmp, is_eq}
use Rattle.odd_text.specs.Key.{key_cmp}
use Rattle.odd_text.specs.KeyOrder.{key_total}
use Rattle.odd_text.specs.declared.key.Key.{Key}
use Rattle.odd_text.specs.Standing.{StandsIn}
use Rattle.odd_text.proofs.InList.{first_or_later, nothing_stands}
use Rattle.odd_text.proofs.Least.{any_stands}
use Rattle.odd_library.specs.declared.library.Component.{Component}
use Rattle.odd_library.specs.declared.library.Library.{Library}
use Rattle.odd_library.specs.declared.odd.Entry.TheVariants as entry
use Rattle.odd_library.specs.declared.odd.Entry.{Entry}
use Rattle.odd_library.specs.declared.odd.OddDoc.{OddDoc}
use Rattle.odd_library.specs.declared.spec.Spec.{Spec}
use Rattle.odd_modes.specs.After.{IsLibraryAfter, after_one, held_after, held_by, ident_after, spec_at, spec_in, start_after}
use Rattle.odd_modes.specs.Choosing.{is_referred, refers}
use Rattle.odd_modes.proofs.SpecAt.{spec_stands}
use Rattle.order_laws.specs.AlikeDocs.{AreAlike, AreAllAlike, HaveOneSpec, StandThere, none, more, unplaced}

-- what refers to a component does so at any place
refers_anywhere : (e f : Entry) (key : Key) (part : Component) → unplaced e ≡ unplaced f → refers e key part ≡ refers f key part
refers_anywhere e f key part same = apart e ∙ ap (λ x. refers x key part) same ∙ sym (apart f)
  where
    apart : (x : Entry) → refers x key part ≡ refers (unplaced x) key part
    apart (entry.Module at name p) = refl
    apart (entry.Take at taken) = refl
    apart (entry.Spec at spec) = refl

-- so the same components are referred to
pub referred_into : (es fs : List Entry) (key : Key) (part : Component) → StandThere es fs → is_referred es key part ≡ true → is_referred fs key part ≡ true
referred_into es fs key part there h =
    let s = (any_stands (λ e. refers e key part) es).0 h in
    let f = there s.0 s.1 in
    (any_stands (λ e. refers e key part) fs).1 (f.0, f.1, sym (refers_anywhere s.0 f.0 key part f.2) ∙ s.2)

same_bool : (a b : Bool) → (a ≡ true → b ≡ true) → (b ≡ true → a ≡ true) → a ≡ b
same_bool true b f g = sym (f refl)
same_bool false true f g = g refl
same_bool false false f g = refl

pub same_referred : (es fs : List Entry) (key : Key) (part : Component) → StandThere es fs → StandThere fs es → is_referred es key part ≡ is_referred fs key part
same_referred es fs key part there back = same_bool (is_referred es key part) (is_referred fs key part) (referred_into es fs key part there) (referred_into fs es key part back)

-- an item for a spec is one at some place
spec_item : (f : Entry) (spec : Spec) → entry.Spec zero spec ≡ unplaced f → (at : ℕ) × (f ≡ entry.Spec at spec)
spec_item (entry.Module at name p) spec same = cc
spec_item (entry.Take at taken) spec same = cc
spec_item (entry.Spec at other) spec same = (at, let is : spec ≡ other = cc in ap (λ x. entry.Spec at x) (sym is))

-- where a spec for the key stands, one is found
spec_found : (es : List Entry) (at : ℕ) (spec : Spec) (key : Key) → StandsIn es (entry.Spec at spec) → spec.key ≡ key → spec_at es key ≡ None → ⊥
spec_found [] at spec key s same missing = nothing_stands (entry.Spec at spec) s
spec_found (e ∷ es) at spec key s same missing = ⊎_elim here (λ later. spec_found es at spec key later same (first_none (spec_at es key) (spec_in e key) missing)) (first_or_later e (entry.Spec at spec) es s)
  where
    first_none : (a b : Option Spec) → option_or a b ≡ None → a ≡ None
    first_none None b h = refl
    first_none (Some x) b h = cc

    later_none : (a b : Option Spec) → option_or a b ≡ None → b ≡ None
    later_none None b h = h
    later_none (Some x) b h = cc

    itself : spec_in (entry.Spec at spec) key ≡ Some spec
    itself = ap (λ b. if b then Some spec else None) (ap (λ k. eq_by_cmp key_cmp key k) same ∙ ap is_eq (tied_itself key_total key))

    here : entry.Spec at spec ≡ e → ⊥
    here is =
        let none : spec_in e key ≡ None = later_none (spec_at es key) (spec_in e key) missing in
        let some : spec_in e key ≡ Some spec = ap (λ x. spec_in x key) (sym is) ∙ itself in
        let clash : None ≡ Some spec = sym none ∙ some in
        cc

-- so the spec for a key is the same
pub same_spec : (es fs : List Entry) (key : Key) → StandThere es fs → StandThere fs es → HaveOneSpec fs → spec_at es key ≡ spec_at fs key
same_spec es fs key there back one = by_both (spec_at es key) (spec_at fs key) refl refl
  where
    moved : (gs hs : List Entry) → StandThere gs hs → (spec : Spec) → spec_at gs key ≡ Some spec → (at : ℕ) × StandsIn hs (entry.Spec at spec) × (spec.key ≡ key)
    moved gs hs over spec h =
        let d = spec_stands gs key spec h in
        let f = over (entry.Spec d.0 spec) d.1 in
        let is = spec_item f.0 spec f.2 in
        (is.0, subst (λ x. StandsIn hs x) is.1 f.1, d.2)

    by_both : (a b : Option Spec) → spec_at es key ≡ a → spec_at fs key ≡ b → a ≡ b
    by_both None None h k = refl
    by_both (Some x) None h k = let m = moved es fs there x h in absurd (spec_found fs m.0 x key m.1 m.2 k)
    by_both None (Some y) h k = let m = moved fs es back y k in absurd (spec_found es m.0 y key m.1 m.2 h)
    by_both (Some x) (Some y) h k =
        let m = moved es fs there x h in
        let d = spec_stands fs key y k in
        ap Some (one m.0 d.0 x y m.1 d.1 (m.2 ∙ sym d.2))

-- and so is what is held after it
pub same_after : (doc other : OddDoc) (key : Key) (held : Option Component) → AreAlike doc other → after_one doc key held ≡ after_one other key held
same_after doc other key held alike =
    ap (λ s. held_by s doc.entries key held) (same_spec doc.entries other.entries key alike.there alike.back alike.other_one) ∙ by_held (spec_at other.entries key) held
  where
    by_held : (s : Option Spec) (held : Option Component) → held_by s doc.entries key held ≡ held_by s other.entries key held
    by_held (Some spec) held = refl
    by_held None None = refl
    by_held None (Some part) = ap (λ b. if b then Some part else None) (same_referred doc.entries other.entries key part alike.there alike.back)

-- after several docs too; the last of them stands first
pub same_held : {docs others : List OddDoc} (key : Key) → AreAllAlike docs others → held_after docs key ≡ held_after others key
same_held key none = refl
same_held {docs = doc ∷ docs} {others = other ∷ others} key (more alike rest) =
    ap (λ held. after_one doc key held) (same_held key rest) ∙ same_after doc other key (held_after others key) alike

-- the ident and the start words are the last file's
same_ident : {docs others : List OddDoc} → AreAllAlike docs others → ident_after docs ≡ ident_after others
same_ident none = refl
same_ident (more alike rest) = alike.ident

same_start : {docs others : List OddDoc} → AreAllAlike docs others → start_after docs ≡ start_after others
same_start none = refl
same_start (more alike rest) = alike.start

-- so the library after them is the same
pub same_library : {docs others : List OddDoc} (library : Library) → AreAllAlike (reverse docs) (reverse others) → IsLibraryAfter docs library → IsLibraryAfter others library
same_library library alike is = record {
  ident = is.ident ∙ same_ident alike;
  start = is.start ∙ same_start alike;
  rising = is.rising;
  holds = λ key. is.holds key ∙ same_held key alike;
}
