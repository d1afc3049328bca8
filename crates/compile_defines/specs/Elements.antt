-- How many elements of the schema's text defines are, and what they take of a budget.
use Rattle.std.specs.Prelude.{◌≡◌, ℕ, zero, suc, ◌+◌, ◌<◌, List, Result, Ok, Err, sum_by}
use Rattle.odd_text.specs.Sorted.{IsSet}
use Rattle.rng_emit.specs.Grammar.{body_markup, class_markup, define_markup, part_markup, rule_markup}
use Rattle.rng_emit.specs.Nodes.{elements_in}
use Rattle.rng_grammar.specs.declared.grammar.AttrRule.{AttrRule}
use Rattle.rng_grammar.specs.declared.grammar.Body.{Body}
use Rattle.rng_grammar.specs.declared.grammar.Define.{Define}
use Rattle.rng_grammar.specs.declared.grammar.NameClass.{NameClass}
use Rattle.rng_grammar.specs.declared.grammar.NsPart.{NsPart}
use Rattle.compile_defines.specs.declared.budget.Budget.{Budget}
use Rattle.compile_defines.specs.declared.budget.MakeRefusal.{MakeRefusal}
use Rattle.compile_defines.specs.declared.budget.MakeRefusal.TheVariants as refusal
use Rattle.compile_defines.specs.Compiled.{define_cmp}

abbrev pub define_elements : Define → ℕ
define_elements d = elements_in (define_markup d)

abbrev pub body_elements : Body → ℕ
body_elements b = elements_in (body_markup b)

-- those of the rule of an attribute, and of several
abbrev pub rule_elements : AttrRule → ℕ
rule_elements rule = elements_in (rule_markup rule)

abbrev pub rules_elements : List AttrRule → ℕ
rules_elements rules = sum_by rule_elements rules

-- those of a name class, and of one of its namespaces
abbrev pub class_elements : NameClass → ℕ
class_elements names = sum_by elements_in (class_markup names)

abbrev pub part_elements : NsPart → ℕ
part_elements part = elements_in (part_markup part)

-- an element, and an `except` with so many exceptions where there are some
abbrev pub excepting_elements : ℕ → ℕ
excepting_elements zero = 1
excepting_elements (suc n) = suc n + 2

-- an `element`, three for any attributes, and four for any texts and elements
abbrev pub throughout_elements : ℕ
throughout_elements = 8

-- the elements of such defines are taken; or they have more elements than were left
abbrev pub HasTakenSet : (Define → Type 0) → Budget → Budget → Result (List Define) MakeRefusal → Type 0
HasTakenSet Is before after (Ok made) = before.left ≡ after.left + sum_by define_elements made
HasTakenSet Is before after (Err refusal.TooLarge) = (defines : List Define) → IsSet define_cmp Is defines → before.left < sum_by define_elements defines
HasTakenSet Is before after (Err refusal.NoMemory) = Unit {0}
