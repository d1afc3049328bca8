-- The attribute law of an element of a library: its attributes are those that it may and has to have where they meet the rules of its define.
use Rattle.std.proofs.Common.{◌≡◌, ◌↔◌, ℕ, List, [], Option, Some, None, map, refl, sym, subst}
use Rattle.std.specs.Option.{IfSome}
use Rattle.std.specs.Prelude.{All}
use Rattle.compile_defines.proofs.Standing.{each_stands}
use Rattle.compile_defines.specs.Data.{item_pattern, value_pattern}
use Rattle.compile_defines.specs.Compiled.{IsGrammarOf, rule_of}
use Rattle.odd_attributes.specs.Formed.{IsFormedDatatype}
use Rattle.odd_attributes.specs.declared.att_def.AttDef.{AttDef}
use Rattle.odd_attributes.specs.declared.att_def.Datatype.{Datatype}
use Rattle.odd_content.proofs.Formed.{once_formed}
use Rattle.odd_library.specs.Formed.{IsFormedLibrary}
use Rattle.odd_library.specs.Odd.{element_key}
use Rattle.odd_library.specs.declared.library.Library.{Library}
use Rattle.odd_meaning.specs.Attributed.{AreAdmittedAttributes}
use Rattle.odd_meaning.specs.Links.{datatype_key, named_by_datatype}
use Rattle.odd_meaning.specs.Rules.{Breaks}
use Rattle.odd_meaning.specs.Values.{IsAdmittedValue, IsItemBy, IsOfDatatype, bounds_of}
use Rattle.odd_text.specs.declared.key.Key.{Key}
use Rattle.odd_text.proofs.InList.{stands_first, stands_map}
use Rattle.odd_text.specs.Standing.{StandsIn}
use Rattle.odd_tree.specs.declared.tree.Attr.{Attr}
use Rattle.rng_grammar.specs.Acceptance.{AreRuled, IsValueOf}
use Rattle.rng_grammar.specs.Patterns.{IsAllowed}
use Rattle.rng_grammar.specs.Sorts.{IsOfRule, IsOfWord}
use Rattle.rng_grammar.specs.declared.grammar.Grammar.{Grammar}
use Rattle.rng_types.specs.Bounds.{IsFormedBounds}
use Rattle.rng_types.specs.declared.item.Item.TheVariants as items
use Rattle.compile_laws.proofs.AttributeLaw.{attribute_law}
use Rattle.compile_laws.proofs.AttributeValueLaw.{admitted_law, values_sort}
use Rattle.compile_laws.proofs.ConditionClass.{one_body}
use Rattle.compile_laws.proofs.DatatypeLaw.{IsDatatypeKept, datatype_kept, item_word}
use Rattle.compile_laws.proofs.OfferLaw.{IsSound, NamesHeld, offer_sound}
use Rattle.compile_laws.proofs.ValueLaw.{item_law}

-- bounds that are not given are formed
bounds_formed : (o : Option Datatype) → IfSome o IsFormedDatatype → IsFormedBounds (bounds_of o)
bounds_formed None h = once_formed
bounds_formed (Some d) h = h.bounds

module _ (library : Library) (start : List (List ℕ)) (g : Grammar)
    (is : IsGrammarOf library start g) (f : IsFormedLibrary library) (none : (key : Key) (rule : ℕ) → Breaks library key rule → ⊥) where
  -- the datatype that an item names is kept
  named_kept : (d : Datatype) → NamesHeld library none (Some d) → (key : List ℕ) → d.item ≡ items.Key key → IsDatatypeKept library start g is f none key
  named_kept d h key e =
      let among : StandsIn (named_by_datatype (Some d)) (datatype_key key) = subst (λ i. StandsIn (named_by_datatype (Some (record { item = i; bounds = d.bounds }))) (datatype_key key)) (sym e) (stands_first (datatype_key key) []) in
      datatype_kept library start g is f none key (h key among)

  -- so is the item of a datatype
  item_kept : (o : Option Datatype) → NamesHeld library none o → (d : Datatype) → o ≡ Some d → (cs : List ℕ) → IsItemBy (IsOfDatatype library) d.item cs ↔ IsAllowed g (item_pattern d.item) cs
  item_kept o h d e =
      item_law library is.conditions is.members g (IsOfDatatype library) (IsOfDatatype library) d.item (λ key same. (named_kept d (subst (NamesHeld library none) e h) key same).law)

  word_kept : (o : Option Datatype) → NamesHeld library none o → (d : Datatype) → o ≡ Some d → IsOfWord g (item_pattern d.item)
  word_kept o h d e = item_word library start g is f none d.item (named_kept d (subst (NamesHeld library none) e h))

  -- what an element offers is sound
  offered_sound : (element : List ℕ) (ident : List ℕ) (def : AttDef) → StandsIn (is.offers element) (ident, def) → IsSound library none ident def
  offered_sound element ident def s = let given = (is.are_offers element).none_else (ident, def) s in offer_sound library none f (element_key element) ident def given.0 given.1

  -- and its values are those that its pattern allows
  value_kept : (element : List ℕ) (ident : List ℕ) (def : AttDef) → StandsIn (is.offers element) (ident, def) → (text : List ℕ) → IsAdmittedValue library def text ↔ IsValueOf g (value_pattern def) text
  value_kept element ident def s =
      let sound = offered_sound element ident def s in
      admitted_law library g (one_body library start g is) def.datatype (item_kept def.datatype sound.held) (word_kept def.datatype sound.held) def refl sound.formed.vals
      (bounds_formed def.datatype sound.formed.datatype)

  pub attributes_law : (element : List ℕ) (attrs : List Attr) → AreAdmittedAttributes library element attrs ↔ AreRuled g (map rule_of (is.offers element)) attrs
  attributes_law element attrs = attribute_law library g element (is.offers element) (is.are_offers element) (value_kept element) attrs

  -- and its rules are of values
  pub rules_sort : (element : List ℕ) → All (IsOfRule g) (map rule_of (is.offers element))
  rules_sort element =
      each_stands (IsOfRule g) (map rule_of (is.offers element)) (λ rule s.
      let o = stands_map rule_of (is.offers element) rule s in
      let sound = offered_sound element o.0.0 o.0.1 o.1 in
      subst (IsOfRule g) (sym o.2)
      (values_sort library g (one_body library start g is) o.0.1.datatype (item_kept o.0.1.datatype sound.held) (word_kept o.0.1.datatype sound.held) o.0.1 refl sound.formed.vals))
