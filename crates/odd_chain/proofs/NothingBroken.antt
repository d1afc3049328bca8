-- A library that holds nothing breaks no rule.
use Rattle.std.proofs.Common.{◌≡◌, ℕ, List, None, Some, sym, ◌∙◌}
use Rattle.std.specs.FinMap.{find}
use Rattle.odd_attributes.specs.declared.att_def.AttDef.{AttDef}
use Rattle.odd_graph.specs.Graph.{Chained}
use Rattle.odd_library.specs.Odd.{element_key}
use Rattle.odd_library.specs.declared.library.Component.{Component}
use Rattle.odd_library.specs.declared.library.Library.{Library}
use Rattle.odd_meaning.specs.Links.{IsLinked, class_key, classes_of, datatype_key, datatypes_of, macro_key, macros_of}
use Rattle.odd_meaning.specs.Offering.{Offers}
use Rattle.odd_meaning.specs.Rules.{Breaks, contradicts, datatype_not_held, datatype_reaches_itself, macro_not_held, mixes_data, of_attributes, own_member, reaches_itself, shares_name}
use Rattle.odd_text.specs.Key.{key_cmp}
use Rattle.odd_text.specs.declared.key.Key.{Key}

module _ (library : Library) (empty : (key : Key) → find key_cmp key library.parts ≡ None) where
  -- it holds nothing at a key
  not_held : (key : Key) (part : Component) → find key_cmp key library.parts ≡ Some part → ⊥
  not_held key part held = let none = sym held ∙ empty key in cc

  -- nothing leads on
  not_linked : (keys_of : Component → List Key) (key other : Key) → Chained (IsLinked keys_of library) key other → ⊥
  not_linked keys_of key other (Chained.at_once step) = not_held key step.part step.held
  not_linked keys_of key other (Chained.through between step more) = not_held key step.part step.held

  -- nothing offers
  not_offered : (holder giver : Key) (ident : List ℕ) (def : AttDef) → Offers library holder ident def giver → ⊥
  not_offered holder giver ident def (Offers.own part held set) = not_held holder part held
  not_offered holder giver ident def (Offers.inherited part class before held among offered passes) = not_held holder part held

  pub nothing_breaks : (key : Key) (rule : ℕ) → Breaks library key rule → ⊥
  nothing_breaks key _ (macro_not_held ident names not) = not_held key names.part names.held
  nothing_breaks key _ (datatype_not_held ident names not) = not_held key names.part names.held
  nothing_breaks key _ (own_member ident l) = not_linked classes_of (class_key ident) (class_key ident) l
  nothing_breaks key _ (reaches_itself ident l) = not_linked macros_of (macro_key ident) (macro_key ident) l
  nothing_breaks key _ (datatype_reaches_itself ident l) = not_linked datatypes_of (datatype_key ident) (datatype_key ident) l
  nothing_breaks key _ (contradicts ident is) = not_held (element_key ident) is.part is.held
  nothing_breaks key _ (shares_name ident is) = not_offered (element_key ident) is.giver is.one is.def is.offered
  nothing_breaks key _ (of_attributes ident names is) = not_held key names.part names.held
  nothing_breaks key _ (mixes_data is) = not_held key is.part is.held
