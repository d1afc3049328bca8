-- The defines of a library, one kind after the other, as its entries stand.
use Rattle.std.specs.Prelude.{◌≡◌, ℕ, List, [], ◌∷◌, ◌++◌, Option, Some, None, flat_map}
use Rattle.odd_text.specs.declared.key.Key.{Key}
use Rattle.odd_text.specs.declared.key.Kind.{Kind}
use Rattle.odd_text.specs.declared.key.Kind.TheVariants as kind
use Rattle.odd_text.specs.Standing.{StandsIn}
use Rattle.odd_content.specs.declared.content.Condition.{Condition}
use Rattle.odd_library.specs.declared.library.Component.{Component}
use Rattle.odd_library.specs.declared.library.Component.TheVariants as component
use Rattle.odd_library.specs.declared.library.Library.{Library}
use Rattle.odd_meaning.specs.Classes.{Members}
use Rattle.rng_grammar.specs.declared.grammar.Define.{Define}
use Rattle.rng_grammar.specs.declared.grammar.Grammar.{Grammar}
use Rattle.compile_defines.specs.Compiled.{AllOffers, class_define, condition_define, datatype_define, element_define, macro_define}
use Rattle.compile_defines.specs.Contents.{references_pattern}

-- the define of one of the conditions
abbrev pub IsConditionDefine : List Condition → Define → Type 0
IsConditionDefine conditions d = (c : Condition) × StandsIn conditions c × (d ≡ condition_define conditions c)

-- the define of a class with members that are listed
abbrev pub listed_defines : List ℕ → Option (List (List ℕ)) → List Define
listed_defines ident None = []
listed_defines ident (Some idents) = class_define ident idents ∷ []

abbrev pub class_at : Members → Kind → List ℕ → List Define
class_at members kind.Class ident = listed_defines ident (members ident)
class_at members k ident = []

abbrev datatype_at : Kind → List ℕ → Component → List Define
datatype_at kind.Datatype ident (component.Datatype part) = datatype_define ident part ∷ []
datatype_at k ident part = []

abbrev element_at : Library → List Condition → Members → AllOffers → Kind → List ℕ → Component → List Define
element_at library conditions members offers kind.Element ident (component.Element part) = element_define library conditions members (offers ident) ident part ∷ []
element_at library conditions members offers k ident part = []

abbrev macro_at : Library → List Condition → Members → Kind → List ℕ → Component → List Define
macro_at library conditions members kind.Macro ident (component.Macro part) = macro_define library conditions members ident part ∷ []
macro_at library conditions members k ident part = []

-- the define of an entry that is a class, a datatype, an element or a macro
abbrev pub class_defines : Members → Key × Component → List Define
class_defines members (key, part) = class_at members key.kind key.ident

abbrev pub datatype_defines : Key × Component → List Define
datatype_defines (key, part) = datatype_at key.kind key.ident part

abbrev pub element_defines : Library → List Condition → Members → AllOffers → Key × Component → List Define
element_defines library conditions members offers (key, part) = element_at library conditions members offers key.kind key.ident part

abbrev pub macro_defines : Library → List Condition → Members → Key × Component → List Define
macro_defines library conditions members (key, part) = macro_at library conditions members key.kind key.ident part

-- that of an entry, whatever it is
abbrev pub entry_defines : Library → List Condition → Members → AllOffers → Key × Component → List Define
entry_defines library conditions members offers entry =
    class_defines members entry ++ datatype_defines entry ++ element_defines library conditions members offers entry ++ macro_defines library conditions members entry

-- those of all entries
abbrev pub component_defines : Library → List Condition → Members → AllOffers → List Define
component_defines library conditions members offers =
    flat_map (class_defines members) library.parts ++ flat_map datatype_defines library.parts
    ++ flat_map (element_defines library conditions members offers) library.parts ++ flat_map (macro_defines library conditions members) library.parts

-- the grammar of these start words with them, after the defines of the conditions
abbrev pub grammar_with : Library → List (List ℕ) → List Condition → Members → AllOffers → List Define → Grammar
grammar_with library start conditions members offers before = record { start = references_pattern start; defines = before ++ component_defines library conditions members offers }
