-- Where a library's schema is too large: by the elements of its text, by its nodes after linking, or by the members of its classes.
use Rattle.std.proofs.Common.{◌≡◌, ◌∙◌, ◌<◌, ◌≤◌, ◌+◌, ℕ, List, [], ◌∷◌, ◌++◌, Option, Some, None, inl, inr, map, refl, sym, ap, arith}
use Rattle.std.proofs.lemmas.List.Sums.{sum_by-append, sum_by-cons, sum_by-le-sum_by}
use Rattle.std.proofs.lemmas.Result.{err_from_is_err_and}
use Rattle.std.specs.FinMap.{is_sorted}
use Rattle.std.specs.Prelude.{Err, IsTrue, flat_map, sum_by}
use Rattle.std.specs.Result.{IsErrAnd}
use Rattle.std.specs.declared.result.Result.{Result}
use Rattle.compile_defines.proofs.Elements.{among_sum, references_elements, sum_by-map}
use Rattle.compile_defines.specs.Budget.{pattern_elements}
use Rattle.compile_defines.specs.Conditions.{IsConditionOf}
use Rattle.compile_defines.specs.declared.budget.MakeRefusal.{MakeRefusal}
use Rattle.compile_defines.specs.declared.budget.MakeRefusal.TheVariants as refusal
use Rattle.compile_defines.specs.Contents.{references_pattern}
use Rattle.compile_defines.specs.Blocks.{IsConditionDefine, class_at, class_defines, component_defines, datatype_defines, element_defines, grammar_with, listed_defines, macro_defines}
use Rattle.compile_defines.specs.Compiled.{AllOffers, AreAllOffers, HoldsStart, define_cmp}
use Rattle.compile_defines.specs.Elements.{define_elements}
use Rattle.compile_laws.proofs.MacroLaw.{BreaksNone}
use Rattle.odd_content.specs.ConditionOrder.{condition_cmp}
use Rattle.odd_content.specs.declared.content.Condition.{Condition}
use Rattle.odd_text.specs.Sorted.{IsSet}
use Rattle.odd_library.specs.declared.library.Component.{Component}
use Rattle.odd_library.specs.declared.library.Library.{Library}
use Rattle.odd_meaning.specs.Classes.{AreMembers, Members, class_count, count_at, listed_count, members_count}
use Rattle.odd_text.specs.Key.{key_cmp}
use Rattle.odd_text.specs.declared.key.Key.{Key}
use Rattle.odd_text.specs.declared.key.Kind.{Kind}
use Rattle.odd_text.specs.declared.key.Kind.TheVariants as kind
use Rattle.rng_emit.specs.Grammar.{define_markup}
use Rattle.rng_emit.specs.Nodes.{elements_in, text_nodes}
use Rattle.rng_grammar.specs.Counted.{counted}
use Rattle.rng_grammar.specs.Nodes.{linked_nodes}
use Rattle.rng_grammar.specs.declared.grammar.Define.{Define}
use Rattle.rng_grammar.specs.declared.grammar.Expr.{Expr}
use Rattle.rng_grammar.specs.declared.grammar.Grammar.{Grammar}
use Rattle.compile_core.proofs.Blocks.{made}
use Rattle.compile_core.proofs.MembersExist.{members_exist}
use Rattle.compile_core.specs.Schema.{HasLargeSchema, IsTooLarge}

-- a text has the elements of its start, those of its defines and two more
text_elements : (g : Grammar) → text_nodes g ≡ pattern_elements g.start + 2 + sum_by define_elements g.defines
text_elements g = let sum = among_sum (map define_markup g.defines) ∙ sum_by-map elements_in define_markup g.defines in omega arith

-- and so where the defines stand in two lists
pub text_parts : (start : Expr) (before after : List Define)
    → text_nodes (record { start = start; defines = before ++ after }) ≡ pattern_elements start + 2 + (sum_by define_elements before + sum_by define_elements after)
text_parts start before after =
    let whole = text_elements (record { start = start; defines = before ++ after }) in
    let parts = sum_by-append define_elements before after in
    omega arith

module _ (library : Library) (start : List (List ℕ)) (conditions : List Condition) (up : IsTrue (is_sorted key_cmp library.parts)) (holds : HoldsStart library start)
    (are_conditions : IsSet condition_cmp (IsConditionOf library) conditions) where
  -- a text of more elements than a schema may have
  pub large_text : (members : Members) (offers : AllOffers) (before : List Define) → AreMembers library members → AreAllOffers library offers → IsSet define_cmp (IsConditionDefine conditions) before
      → 1000000 < pattern_elements (references_pattern start) + 2 + (sum_by define_elements before + sum_by define_elements (component_defines library conditions members offers))
      → HasLargeSchema library start
  large_text members offers before are_members are_offers are_before over = record {
    holds_start = holds;
    grammar = grammar_with library start conditions members offers before;
    is_grammar = made library conditions members offers before up are_before are_members are_offers start are_conditions;
    too_large = let text = text_parts (references_pattern start) before (component_defines library conditions members offers) in inl (omega arith);
  }

-- a schema of more nodes after linking
pub nodes_pass : (g : Grammar) (count : ℕ) → count ≡ counted (linked_nodes g) → 4000000 < count → IsTooLarge g
nodes_pass g count is over = inr (omega arith)

-- what is answered where a part is refused, is what that is refused for
pub refused_for : {X : Type 0} (r : Result X MakeRefusal) (e : MakeRefusal) → IsErrAnd r (λ y. y ≡ e) → r ≡ Err refusal.TooLarge → e ≡ refusal.TooLarge
refused_for r e gives is = let given = err_from_is_err_and r gives in cc (given.1, given.2, is)

-- a class's define has an element for each of its members
listed_many : (ident : List ℕ) (listed : Option (List (List ℕ))) → listed_count listed ≤ sum_by define_elements (listed_defines ident listed)
listed_many ident None = omega arith
listed_many ident (Some idents) = let many = references_elements idents in omega arith

module _ (library : Library) (conditions : List Condition) (members : Members) (offers : AllOffers) where
  class_many : (key : Key) (k : Kind) → count_at members k key.ident ≤ sum_by define_elements (class_at members k key.ident)
  class_many key kind.Element = omega arith
  class_many key kind.Class = listed_many key.ident (members key.ident)
  class_many key kind.Macro = omega arith
  class_many key kind.Datatype = omega arith

  -- and so has an entry's, if it is a class
  entry_many : (entry : Key × Component) → class_count members entry ≤ sum_by define_elements (class_defines members entry)
  entry_many (key, part) = class_many key key.kind

  -- so those of the components have one for each member of each class
  components_many : members_count members library ≤ sum_by define_elements (component_defines library conditions members offers)
  components_many =
      let each = sum_by-le-sum_by (class_count members) (λ entry. sum_by define_elements (class_defines members entry)) library.parts entry_many in
      let classes = flat_elements (class_defines members) library.parts in
      let two = flat_map (class_defines members) library.parts ++ flat_map datatype_defines library.parts in
      let three = two ++ flat_map (element_defines library conditions members offers) library.parts in
      let first = sum_by-append define_elements three (flat_map (macro_defines library conditions members) library.parts) in
      let second = sum_by-append define_elements two (flat_map (element_defines library conditions members offers) library.parts) in
      let third = sum_by-append define_elements (flat_map (class_defines members) library.parts) (flat_map datatype_defines library.parts) in
      omega arith
    where
      flat_elements : (f : Key × Component → List Define) (xs : List (Key × Component)) → sum_by define_elements (flat_map f xs) ≡ sum_by (λ x. sum_by define_elements (f x)) xs
      flat_elements f [] = refl
      flat_elements f (x ∷ xs) =
          sum_by-append define_elements (f x) (flat_map f xs) ∙ ap (λ n. sum_by define_elements (f x) + n) (flat_elements f xs) ∙ sym (sum_by-cons (λ y. sum_by define_elements (f y)) x xs)

-- where the members of the classes are more than a schema may have elements, it is too large
pub too_many : (library : Library) (start : List (List ℕ)) (conditions : List Condition) (offers : AllOffers) (before : List Define) → IsTrue (is_sorted key_cmp library.parts) → BreaksNone library
    → IsSet condition_cmp (IsConditionOf library) conditions → AreAllOffers library offers → IsSet define_cmp (IsConditionDefine conditions) before → HoldsStart library start
    → ((members : Members) → AreMembers library members → 1000000 < members_count members library) → HasLargeSchema library start
too_many library start conditions offers before up none are_conditions are_offers are_before holds more =
    let exist = members_exist library none in
    let over = more exist.0 exist.1 in
    let many = components_many library conditions exist.0 offers in
    large_text library start conditions up holds are_conditions exist.0 offers before exist.1 are_offers are_before (omega arith)
