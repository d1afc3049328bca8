-- The grammar of a library and a list of start words: a define for each condition, class of type `model`, datatype, element and macro, in order of name.
use Rattle.std.specs.Prelude.{◌≡◌, ℕ, false, not, List, [], ◌∷◌, Some, map, filter, unwrap_or}
use Rattle.std.specs.FinMap.{find}
use Rattle.std.specs.List.{list_any}
use Rattle.odd_text.specs.Key.{key_cmp}
use Rattle.odd_text.specs.Text.{text_cmp}
use Rattle.odd_text.specs.Same.{is_same}
use Rattle.odd_text.specs.Standing.{StandsIn}
use Rattle.odd_text.specs.Sorted.{IsSet}
use Rattle.odd_content.specs.declared.content.Condition.{Condition}
use Rattle.odd_attributes.specs.declared.att_def.AttDef.{AttDef}
use Rattle.odd_library.specs.Odd.{element_key}
use Rattle.odd_library.specs.declared.library.Component.TheVariants as component
use Rattle.odd_library.specs.declared.library.ElementPart.{ElementPart}
use Rattle.odd_library.specs.declared.library.Library.{Library}
use Rattle.odd_library.specs.declared.library.OtherPart.{OtherPart}
use Rattle.odd_meaning.specs.Classes.{AreMembers, Members}
use Rattle.odd_offers.specs.declared.given.Given.{Given}
use Rattle.odd_meaning.specs.Links.{datatype_key, macro_key}
use Rattle.odd_meaning.specs.Naming.{attribute_name, element_name}
use Rattle.odd_meaning.specs.Offering.{OffersOne, offer_cmp}
use Rattle.rng_grammar.specs.declared.grammar.AttrPart.TheVariants as attributes
use Rattle.rng_grammar.specs.declared.grammar.AttrRule.{AttrRule}
use Rattle.rng_grammar.specs.declared.grammar.Body.{Body}
use Rattle.rng_grammar.specs.declared.grammar.Body.TheVariants as body
use Rattle.rng_grammar.specs.declared.grammar.Define.{Define}
use Rattle.rng_grammar.specs.declared.grammar.Expr.{Expr}
use Rattle.rng_grammar.specs.declared.grammar.Expr.TheVariants as expr
use Rattle.rng_grammar.specs.declared.grammar.Grammar.{Grammar}
use Rattle.rng_grammar.specs.declared.grammar.NameClass.TheVariants as class
use Rattle.rng_grammar.specs.declared.grammar.NsPart.{NsPart}
use Rattle.std.specs.declared.cmp.Ordering.{Ordering}
use Rattle.odd_content.specs.ConditionOrder.{condition_cmp}
use Rattle.compile_defines.specs.Conditions.{IsConditionOf}
use Rattle.compile_defines.specs.Data.{data_pattern, datatype_name, value_pattern}
use Rattle.compile_defines.specs.Contents.{class_name, condition_name, content_pattern, define_name, holds_element, macro_name, references_pattern}

-- the attributes that elements offer: by ident, each with its definition
abbrev pub AllOffers : Type 0
AllOffers = List ℕ → List (List ℕ × AttDef)

-- of each element just what it offers
abbrev pub AreAllOffers : Library → AllOffers → Type 0
AreAllOffers library offers = (element : List ℕ) → IsSet offer_cmp (OffersOne library element) (offers element)

-- what is given, and what a table lists
abbrev pub offers_of : List (List ℕ × Given) → List (List ℕ × AttDef)
offers_of givens = map (λ e. (e.0, e.1.def)) givens

abbrev pub offers_in : List (List ℕ × List (List ℕ × Given)) → AllOffers
offers_in table element = offers_of (unwrap_or (find text_cmp element table) [])

-- the rule of an attribute
abbrev pub rule_of : List ℕ × AttDef → AttrRule
rule_of (ident, def) = record { name = attribute_name ident def; needed = def.needed; value = value_pattern def }

abbrev pub element_body : Library → List Condition → Members → List (List ℕ × AttDef) → List ℕ → ElementPart → Body
element_body library conditions members offers ident part =
    body.Element (class.One (element_name ident part)) (attributes.Listed (map rule_of offers)) (content_pattern library conditions members part.content)

abbrev pub element_define : Library → List Condition → Members → List (List ℕ × AttDef) → List ℕ → ElementPart → Define
element_define library conditions members offers ident part = record { name = define_name ident; body = element_body library conditions members offers ident part }

-- references to the members of a class
abbrev pub class_define : List ℕ → List (List ℕ) → Define
class_define ident idents = record { name = class_name ident; body = body.Part (references_pattern idents) }

-- what the content of a datatype says
abbrev pub datatype_define : List ℕ → OtherPart → Define
datatype_define ident part = record { name = datatype_name ident; body = body.Part (data_pattern part.content) }

-- what the content of a macro says
abbrev pub macro_define : Library → List Condition → Members → List ℕ → OtherPart → Define
macro_define library conditions members ident part = record { name = macro_name ident; body = body.Part (content_pattern library conditions members part.content) }

-- any number of texts, and of elements that the define itself takes
abbrev pub content_throughout : List ℕ → Expr
content_throughout name = expr.ZeroOrMore (expr.Choice (expr.Text ∷ expr.Ref name ∷ []))

-- a required namespace without the names in it that are excepted
abbrev pub space_part : Condition → List ℕ → NsPart
space_part c space = record { ns = space; but = filter (λ n. is_same n.ns space) c.names }

-- the required namespaces that are not excepted
abbrev pub spaces_left : Condition → List (List ℕ)
spaces_left c = filter (λ space. not (list_any (is_same space) c.spaces)) c.require

abbrev pub body_within : List ℕ → List NsPart → Body
body_within name [] = body.Part expr.NotAllowed
body_within name (part ∷ parts) = body.Element (class.Within (part ∷ parts)) attributes.AnyAttributes (content_throughout name)

abbrev pub body_requiring : List ℕ → Condition → List (List ℕ) → Body
body_requiring name c [] = body.Element (class.AnyBut c.spaces c.names) attributes.AnyAttributes (content_throughout name)
body_requiring name c (space ∷ spaces) = body_within name (map (space_part c) (spaces_left c))

-- an element of a name that meets the condition, with any attributes, over texts and such elements; of no name, nothing
abbrev pub condition_body : List ℕ → Condition → Body
condition_body name c = body_requiring name c c.require

abbrev pub condition_define : List Condition → Condition → Define
condition_define conditions c = record { name = condition_name conditions c; body = condition_body (condition_name conditions c) c }

abbrev pub define_cmp : Define → Define → Ordering
define_cmp d e = text_cmp d.name e.name

-- the define is that of one of the conditions, or of a class of type `model`, a datatype, an element or a macro that is held
pub data IsDefineOf (library : Library) (conditions : List Condition) (members : Members) (offers : AllOffers) (d : Define) : Type 0 where
  of_condition : (c : Condition) → StandsIn conditions c → d ≡ condition_define conditions c → IsDefineOf library conditions members offers d
  of_class : (ident : List ℕ) (idents : List (List ℕ)) → members ident ≡ Some idents → d ≡ class_define ident idents → IsDefineOf library conditions members offers d
  of_datatype : (ident : List ℕ) (part : OtherPart) → find key_cmp (datatype_key ident) library.parts ≡ Some (component.Datatype part)
      → d ≡ datatype_define ident part → IsDefineOf library conditions members offers d
  of_element : (ident : List ℕ) (part : ElementPart) → find key_cmp (element_key ident) library.parts ≡ Some (component.Element part)
      → d ≡ element_define library conditions members (offers ident) ident part → IsDefineOf library conditions members offers d
  of_macro : (ident : List ℕ) (part : OtherPart) → find key_cmp (macro_key ident) library.parts ≡ Some (component.Macro part)
      → d ≡ macro_define library conditions members ident part → IsDefineOf library conditions members offers d

pub record IsGrammarOf (library : Library) (start : List (List ℕ)) (g : Grammar) : Type 0 where
  pub conditions : List Condition
  pub are_conditions : IsSet condition_cmp (IsConditionOf library) conditions
  pub members : Members
  pub are_members : AreMembers library members
  pub offers : AllOffers
  pub are_offers : AreAllOffers library offers
  pub start_is : g.start ≡ references_pattern start
  pub are_defines : IsSet define_cmp (IsDefineOf library conditions members offers) g.defines

-- the start word is no held element
abbrev pub IsMissing : Library → List ℕ → Type 0
IsMissing library word = holds_element library word ≡ false

-- each start word is a held element
abbrev pub HoldsStart : Library → List (List ℕ) → Type 0
HoldsStart library start = (word : List ℕ) → StandsIn start word → IsMissing library word → ⊥
