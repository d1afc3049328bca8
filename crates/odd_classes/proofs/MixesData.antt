-- Which components break the rule on data.
use Rattle.std.proofs.Common.{◌≡◌, ◌≢◌, ◌↔◌, ℕ, Bool, Some, arith, inr}
use Rattle.std.specs.FinMap.{find}
use Rattle.std.specs.Prelude.{IsTrue}
use Rattle.std.specs.declared.cmp.Ordering.TheVariants.{Greater}
use Rattle.odd_content.specs.declared.content.Content.{Content}
use Rattle.odd_library.specs.declared.library.Component.{Component}
use Rattle.odd_library.specs.declared.library.Library.{Library}
use Rattle.odd_meaning.specs.Data.{IsDataBy, IsDataContent, IsLeast, IsMixed, ReachesBy, ReachesData, own_content}
use Rattle.odd_meaning.specs.Rules.{BreaksWithin, IsFirstBreak, contradicts, datatype_not_held, datatype_reaches_itself, macro_not_held, mixes_data, of_attributes, own_member, reaches_itself, shares_name}
use Rattle.odd_text.specs.Key.{key_cmp}
use Rattle.odd_text.specs.declared.key.Key.{Key}
use Rattle.odd_classes.proofs.DataLaws.{data_by, reaches_by}
use Rattle.odd_classes.specs.DataFacts.{AreFactsOf, Facts, IsMixedPart, TellsData, TellsReaches}

module _ (library : Library) where
  -- the content of an element or a macro reaches data and is not data content
  abbrev pub MixesData : Component → Type 0
  MixesData part = (content : Content) × (own_content part ≡ Some content) × ReachesData library content × (IsDataContent library content → ⊥)

  -- what is answered by the map of macros tells whether it does
  pub mixed_told : (macros : Facts) → AreFactsOf library macros → (part : Component) (answer : Bool) → IsMixedPart macros part answer → IsTrue answer ↔ MixesData part
  mixed_told macros facts part answer told = (
    λ h. let m = told.0 h in
        (m.0, m.1, reaches_by (TellsReaches macros) (IsLeast ReachesBy library) m.0 (λ key s. (facts.reaches key).0) m.2, λ d. m.3 (data_by (IsLeast IsDataBy library) (TellsData macros) m.0 (λ key s. (facts.is_data key).1) d)),
    λ m. told.1 (
      m.0,
      m.1,
      reaches_by (IsLeast ReachesBy library) (TellsReaches macros) m.0 (λ key s. (facts.reaches key).1) m.2,
      λ d. m.3 (data_by (TellsData macros) (IsLeast IsDataBy library) m.0 (λ key s. (facts.is_data key).0) d),
    ),
  )

  -- who breaks the rule
  sort : (key : Key) (rule : ℕ) → BreaksWithin 18 18 library key rule → IsMixed library key
  sort key _ (macro_not_held ident names held, low, high) = absurd (omega arith)
  sort key _ (datatype_not_held ident names held, low, high) = absurd (omega arith)
  sort _ _ (own_member ident l, low, high) = absurd (omega arith)
  sort _ _ (reaches_itself ident l, low, high) = absurd (omega arith)
  sort _ _ (datatype_reaches_itself ident l, low, high) = absurd (omega arith)
  sort _ _ (contradicts ident is, low, high) = absurd (omega arith)
  sort _ _ (shares_name ident is, low, high) = absurd (omega arith)
  sort key _ (of_attributes ident names is, low, high) = absurd (omega arith)
  sort key _ (mixes_data is, low, high) = is

  -- that is what is held at its key
  mixes : (key : Key) (m : IsMixed library key) → MixesData m.part
  mixes key m = (m.content, m.own, m.reaches, m.mixed)

  -- where no component does, none breaks it
  pub none_mixes : ((key : Key) (part : Component) → find key_cmp key library.parts ≡ Some part → MixesData part → ⊥) → (key : Key) (rule : ℕ) → BreaksWithin 18 18 library key rule → ⊥
  none_mixes none key rule breaks = let m = sort key rule breaks in none key m.part m.held (mixes key m)

  -- the first that does is the first offence
  pub first_mixes : (key : Key) (part : Component) → find key_cmp key library.parts ≡ Some part → MixesData part
      → ((other : Key) (others : Component) → find key_cmp other library.parts ≡ Some others → MixesData others → key_cmp key other ≢ Greater)
      → IsFirstBreak (BreaksWithin 18 18 library) key 18
  first_mixes key part held mixed first = record {
    is_one = (mixes_data (record { part = part; content = mixed.0; held = held; own = mixed.1; reaches = mixed.2; mixed = mixed.3 }), omega arith, omega arith);
    first = λ other rule breaks. let m = sort other rule breaks in inr (omega (arith, breaks.1, breaks.2), first other m.part m.held (mixes other m));
  }
