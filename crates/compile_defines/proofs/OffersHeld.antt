-- The elements of a library in a table of what they offer.
use Rattle.std.proofs.Common.{◌≡◌, ◌∙◌, ◌<◌, ℕ, List, [], ◌∷◌, Some, None, MatchOption, length, get_or, sym, ap, subst}
use Rattle.std.specs.FinMap.{find, is_sorted}
use Rattle.std.specs.Prelude.{IsTrue, unwrap_or}
use Rattle.odd_classes.proofs.Places.{entry_held, entry_here}
use Rattle.odd_classes.specs.Offered.{AreOffersIn}
use Rattle.odd_content.specs.declared.content.Condition.{Condition}
use Rattle.odd_library.specs.Odd.{element_key}
use Rattle.odd_library.specs.declared.library.Component.{Component}
use Rattle.odd_library.specs.declared.library.Component.TheVariants as component
use Rattle.odd_library.specs.declared.library.ElementPart.{ElementPart}
use Rattle.odd_library.specs.declared.library.Library.{Library}
use Rattle.odd_meaning.specs.Classes.{Members}
use Rattle.odd_offers.specs.Answers.{AreGivensOf}
use Rattle.odd_offers.specs.declared.given.Given.{Given}
use Rattle.odd_text.specs.Key.{key_cmp}
use Rattle.odd_text.specs.Text.{text_cmp}
use Rattle.odd_text.specs.declared.key.Key.{Key}
use Rattle.odd_text.specs.declared.key.Kind.TheVariants as kind
use Rattle.compile_defines.specs.Blocks.{element_defines}
use Rattle.compile_defines.specs.Compiled.{element_define, offers_in, offers_of}

-- the define of an entry that is an element, with what is found of it in the table
pub defines_here : (library : Library) (conditions : List Condition) (members : Members) (table : List (List ℕ × List (List ℕ × Given))) (entry : Key × Component) (part : ElementPart) (givens : List (List ℕ × Given))
    → entry.0.kind ≡ kind.Element → entry.1 ≡ component.Element part → Some givens ≡ find text_cmp entry.0.ident table
    → element_defines library conditions members (offers_in table) entry ≡ element_define library conditions members (offers_of givens) entry.0.ident part ∷ []
defines_here library conditions members table entry part givens element is found =
    let ident = entry.0.ident in
    (λ i. element_defines library conditions members (offers_in table) (record { kind = element i; ident = ident }, is i))
    ∙ ap (λ at. element_define library conditions members (offers_of (unwrap_or at [])) ident part ∷ []) (sym found)

-- an element of the library is there
pub element_listed : (library : Library) (table : List (List ℕ × List (List ℕ × Given))) (items : List (Key × Component)) (i : ℕ) (entry : Key × Component) → AreOffersIn library table
    → IsTrue (is_sorted key_cmp library.parts) → items ≡ library.parts → i < length items → entry ≡ get_or items i entry → entry.0.kind ≡ kind.Element → find text_cmp entry.0.ident table ≡ None → ⊥
element_listed library table items i entry are up same within is element none =
    let ident = entry.0.ident in
    let sorted = subst (λ es. IsTrue (is_sorted key_cmp es)) (sym same) up in
    let held = entry_held items sorted i entry.0 entry.1 (entry_here items i entry within is) in
    let key : entry.0 ≡ element_key ident = λ j. record { kind = element j; ident = ident } in
    let there = (λ j. find key_cmp (sym key j) (sym same j)) ∙ held in
    let missing = subst (λ found. MatchOption found (find key_cmp (element_key ident) library.parts ≡ None) (AreGivensOf library ident)) none (are ident) in
    cc (there, missing)
