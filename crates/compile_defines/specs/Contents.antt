-- The pattern of a content: what it admits, in the patterns of RELAX NG, where `e.KEY` is the define of the element KEY, `c.KEY` that of the class, `m.KEY` that
-- of the macro, `d.KEY` that of the datatype, and `a.N` that of the condition of the number N.
use Rattle.std.specs.Prelude.{ℕ, ◌+◌, Bool, true, false, if◌then◌else◌, List, [], ◌∷◌, ◌++◌, Option, Some, None, codes, count_by, decimal, filter, map}
use Rattle.std.specs.FinMap.{find}
use Rattle.std.specs.Ordering.{is_lt}
use Rattle.odd_text.specs.Key.{key_cmp}
use Rattle.odd_text.specs.Text.{text_cmp}
use Rattle.odd_content.specs.Picking.{is_picked}
use Rattle.odd_content.specs.declared.content.Condition.{Condition}
use Rattle.odd_content.specs.declared.content.Content.{Content, Empty, Text, Value, Vals, Element, Class, Macro, Any, Sequence', Alternate', Row_of-Content, end_of-Content, more_of-Content}
use Rattle.odd_content.specs.declared.content.Pick.{Pick}
use Rattle.odd_content.specs.declared.content.Pick.TheVariants as pick
use Rattle.odd_library.specs.Odd.{element_key}
use Rattle.odd_library.specs.declared.library.Component.{Component}
use Rattle.odd_library.specs.declared.library.Component.TheVariants as component
use Rattle.odd_library.specs.declared.library.Library.{Library}
use Rattle.odd_meaning.specs.Classes.{Members}
use Rattle.odd_meaning.specs.Links.{macro_key}
use Rattle.rng_grammar.specs.declared.grammar.Expr.{Expr}
use Rattle.rng_grammar.specs.declared.grammar.Expr.TheVariants as expr
use Rattle.odd_content.specs.ConditionOrder.{condition_cmp}
use Rattle.compile_defines.specs.Data.{item_pattern, list_pattern}
use Rattle.compile_defines.specs.Repeating.{choice_pattern, group_pattern, repeated}

-- the names of the defines of an element, a class and a macro
abbrev pub define_name : List ℕ → List ℕ
define_name ident = codes "e." ++ ident

abbrev pub class_name : List ℕ → List ℕ
class_name ident = codes "c." ++ ident

abbrev pub macro_name : List ℕ → List ℕ
macro_name ident = codes "m." ++ ident

-- the members that a table lists
abbrev pub listed_in : List (List ℕ × List (List ℕ)) → Members
listed_in table class = find text_cmp class table

-- a reference to an element
abbrev pub reference : List ℕ → Expr
reference ident = expr.Ref (define_name ident)

-- a choice of references to elements, in their order
abbrev pub references_pattern : List (List ℕ) → Expr
references_pattern idents = choice_pattern (map reference idents)

-- what is found is an element, or a macro
abbrev is_element : Option Component → Bool
is_element (Some (component.Element part)) = true
is_element found = false

abbrev is_macro : Option Component → Bool
is_macro (Some (component.Macro part)) = true
is_macro found = false

-- the library holds an element, or a macro, of the ident
abbrev pub holds_element : Library → List ℕ → Bool
holds_element library ident = is_element (find key_cmp (element_key ident) library.parts)

abbrev pub holds_macro : Library → List ℕ → Bool
holds_macro library ident = is_macro (find key_cmp (macro_key ident) library.parts)

-- what is not held stands nowhere
abbrev pub element_pattern : Library → List ℕ → Expr
element_pattern library key = if holds_element library key then reference key else expr.NotAllowed

abbrev pub macro_pattern : Library → List ℕ → Expr
macro_pattern library key = if holds_macro library key then expr.Ref (macro_name key) else expr.NotAllowed

-- the class, or those of its members that are picked, in their order; the members of a class that is not held stand nowhere
abbrev pub members_pattern : List ℕ → Pick → Option (List (List ℕ)) → Expr
members_pattern key p None = expr.NotAllowed
members_pattern key pick.All (Some idents) = expr.Ref (class_name key)
members_pattern key (pick.Include words) (Some idents) = choice_pattern (map reference (filter (is_picked (pick.Include words)) idents))
members_pattern key (pick.Except words) (Some idents) = choice_pattern (map reference (filter (is_picked (pick.Except words)) idents))

-- the number of a condition among conditions in rising order, from 1
abbrev pub number_of : List Condition → Condition → ℕ
number_of conditions c = count_by (λ other. is_lt (condition_cmp other c)) conditions + 1

-- the name of a condition's define
abbrev pub condition_name : List Condition → Condition → List ℕ
condition_name conditions c = codes "a." ++ decimal (number_of conditions c)

abbrev pub condition_pattern : List Condition → Condition → Expr
condition_pattern conditions c = expr.Ref (condition_name conditions c)

abbrev mutual
  pub content_pattern : Library → List Condition → Members → Content → Expr
  content_pattern library conditions members Empty = expr.Empty
  content_pattern library conditions members Text = expr.Text
  content_pattern library conditions members (Value item) = item_pattern item
  content_pattern library conditions members (Vals list) = list_pattern list
  content_pattern library conditions members (Element key b) = repeated (element_pattern library key) b
  content_pattern library conditions members (Class key p b) = repeated (members_pattern key p (members key)) b
  content_pattern library conditions members (Macro key b) = repeated (macro_pattern library key) b
  content_pattern library conditions members (Any c b) = repeated (condition_pattern conditions c) b
  content_pattern library conditions members (Sequence' shape parts b) = repeated (group_pattern (part_patterns library conditions members parts)) b
  content_pattern library conditions members (Alternate' shape parts b) = repeated (choice_pattern (part_patterns library conditions members parts)) b

  pub part_patterns : {n : _} → Library → List Condition → Members → Row_of-Content n → List Expr
  part_patterns library conditions members end_of-Content = []
  part_patterns library conditions members (more_of-Content part parts) = content_pattern library conditions members part ∷ part_patterns library conditions members parts
