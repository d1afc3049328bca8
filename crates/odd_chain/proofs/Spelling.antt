-- The text of the merged ODD of a library that breaks no rule is a file that stands for the library's files.
use Rattle.std.proofs.Common.{◌≡◌, ℕ, List, [], ◌∷◌, None, Some, refl, sym, ap, subst, ◌∙◌, ⊎_elim}
use Rattle.merged_laws.proofs.Held.{AreEntriesFor, IsEntryFor}
use Rattle.merged_laws.proofs.MergedText.{is_merged}
use Rattle.odd_emit.specs.Components.{merged_odd}
use Rattle.odd_library.specs.Formed.{IsFormedLibrary}
use Rattle.odd_library.specs.declared.library.Component.{Component}
use Rattle.odd_library.specs.declared.library.Library.{Library}
use Rattle.odd_library.specs.declared.odd.Entry.{Entry}
use Rattle.odd_library.specs.declared.odd.Entry.TheVariants as entry
use Rattle.odd_library.specs.declared.odd.OddDoc.{OddDoc}
use Rattle.odd_library.specs.declared.spec.Mode.TheVariants as mode
use Rattle.odd_library.specs.declared.spec.Spec.{Spec}
use Rattle.odd_meaning.specs.Rules.{Breaks}
use Rattle.odd_modes.proofs.HeldEntries.{one_library}
use Rattle.odd_modes.specs.After.{IsLibraryAfter}
use Rattle.odd_modes.specs.Offences.{ItemFault, Offends, ReferenceFault, SpecFault}
use Rattle.odd_text.specs.declared.key.Key.{Key}
use Rattle.odd_text.proofs.InList.{first_or_later, nothing_stands}
use Rattle.odd_text.specs.Standing.{StandsIn}
use Rattle.odd_chain.specs.Base.{SpellsBase}
use Rattle.odd_chain.specs.Offences.{OffendsIn, of_item, of_library}
use Rattle.odd_chain.specs.Order.{Position}

-- an item that adds something
abbrev Adds : Entry → Type 0
Adds item = (at : ℕ) × (spec : Spec) × (item ≡ entry.Spec at spec) × (spec.mode ≡ mode.Add)

entry_adds : (item : Entry) (e : Key × Component) → IsEntryFor item e → Adds item
entry_adds (entry.Module at name p) e h = absurd h
entry_adds (entry.Take at taken) e h = absurd h
entry_adds (entry.Spec at spec) e h = (at, spec, refl, h.1)

each_adds : (entries : List Entry) (es : List (Key × Component)) (item : Entry) → AreEntriesFor entries es → StandsIn entries item → Adds item
each_adds [] es item h s = absurd (nothing_stands item s)
each_adds (x ∷ rest) [] item h s = absurd h
each_adds (x ∷ rest) (e ∷ es) item h s = ⊎_elim (λ is. subst Adds (sym is) (entry_adds x e h.0)) (λ later. each_adds rest es item h.1 later) (first_or_later x item rest s)

-- it breaks nothing against the library before all files
fault_free : (library : Library) (doc : OddDoc) → IsLibraryAfter [] library → (item : Entry) (rule : ℕ) → Adds item → ItemFault library doc item rule → ⊥
fault_free library doc empty _ _ a (ItemFault.reference (ReferenceFault.not_held none)) = let no = a.2 in cc
fault_free library doc empty _ _ a (ItemFault.reference (ReferenceFault.no_module none)) = let no = a.2 in cc
fault_free library doc empty _ _ a (ItemFault.reference (ReferenceFault.no_element word stands none)) = let no = a.2 in cc
fault_free library doc empty _ _ a (ItemFault.spec (SpecFault.chosen {spec = spec} m c)) = let no : None ≡ Some c.part = sym (empty.holds spec.key) ∙ c.held in cc
fault_free library doc empty _ _ a (ItemFault.spec (SpecFault.not_chosen {spec = spec} m none)) = let same : spec ≡ a.1 = cc a.2 in m (ap (λ s. s.mode) same ∙ a.3)
fault_free library doc empty _ _ a (ItemFault.spec (SpecFault.another_type {spec = spec} m c another)) = let no : None ≡ Some c.part = sym (empty.holds spec.key) ∙ c.held in cc

module _ (library : Library) (doc : OddDoc) (is : IsLibraryAfter (doc ∷ []) library) (adds : AreEntriesFor doc.entries library.parts) (unbroken : (key : Key) (rule : ℕ) → Breaks library key rule → ⊥) where
  items_free : (empty : Library) → IsLibraryAfter [] empty → (place rule : ℕ) → Offends empty doc place rule → ⊥
  items_free empty after place rule o = fault_free empty doc after o.item rule (each_adds doc.entries library.parts o.item adds o.stands) o.fault

  -- alone it has no offence
  none_offends : (file : ℕ) (at : Position) → OffendsIn (doc ∷ []) file at → ⊥
  none_offends _ _ (of_item {place} {rule} [] d later l parts before offends) = let same : doc ≡ d = cc in items_free l before place rule (subst (λ x. Offends l x place rule) (sym same) offends)
  none_offends _ _ (of_item (x ∷ []) d later l parts before offends) = cc
  none_offends _ _ (of_item (x ∷ y ∷ xs) d later l parts before offends) = cc
  none_offends _ _ (of_library {key} {rule} [] d later l parts after breaks) =
      let same : doc ≡ d = cc in
      let one : l ≡ library = one_library (doc ∷ []) l library (subst (λ x. IsLibraryAfter (x ∷ []) l) (sym same) after) is in
      unbroken key rule (subst (λ x. Breaks x key rule) one breaks)
  none_offends _ _ (of_library (x ∷ []) d later l parts after breaks) = cc
  none_offends _ _ (of_library (x ∷ y ∷ xs) d later l parts after breaks) = cc

pub spells_base : (library : Library) → IsFormedLibrary library → ((key : Key) (rule : ℕ) → Breaks library key rule → ⊥) → SpellsBase library (merged_odd library)
spells_base library formed unbroken =
    let m = is_merged library formed in
    record {
      tree = m.tree;
      given = m.gives;
      stands = record { doc = m.doc; declares = m.declares; whole = m.asides; unoffended = none_offends library m.doc m.after m.entries unbroken; is_library = m.after };
    }
