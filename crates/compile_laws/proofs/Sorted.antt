-- Each pattern of a library's grammar is of children or of a value, as it may where it stands.
use Rattle.std.proofs.Common.{◌≡◌, ℕ, Bool, true, false, cond, List, ◌∷◌, refl, sym, subst, inl, inr, ⊎_elim, Some}
use Rattle.std.specs.FinMap.{find}
use Rattle.std.proofs.lemmas.List.Elements.{All-contains}
use Rattle.std.specs.Prelude.{All}
use Rattle.compile_defines.proofs.Standing.{IsElementAt, IsMacroAt, element_found, macro_held, stands_either, stands_left}
use Rattle.compile_defines.specs.Contents.{holds_element, class_name, condition_name, condition_pattern, content_pattern, macro_name, macro_pattern, reference, references_pattern}
use Rattle.compile_defines.specs.Conditions.{conditions_in, conditions_of}
use Rattle.compile_defines.proofs.NamedDefines.{entry_stands, listed_is}
use Rattle.compile_defines.specs.Compiled as compiled
use Rattle.compile_defines.specs.Compiled.{HoldsStart, IsDefineOf, IsGrammarOf, class_define, condition_body, macro_define}
use Rattle.odd_content.specs.declared.content.Condition.{Condition}
use Rattle.odd_content.specs.declared.content.Content.{Content, Empty, Text, Value, Vals, Element, Class, Macro, Any, Sequence', Alternate', Row_of-Content, end_of-Content, more_of-Content}
use Rattle.odd_library.specs.Formed.{IsFormedLibrary}
use Rattle.odd_library.specs.Library.{content_of}
use Rattle.odd_library.specs.Odd.{element_key}
use Rattle.odd_library.specs.declared.library.Component.{Component}
use Rattle.odd_text.specs.Key.{key_cmp}
use Rattle.odd_meaning.specs.Data.{OfMacros, OneReachesBy, ReachesBy, ReachesData, own_content}
use Rattle.odd_library.specs.declared.library.Component.TheVariants as component
use Rattle.odd_library.specs.declared.library.ElementPart.{ElementPart}
use Rattle.odd_library.specs.declared.library.Library.{Library}
use Rattle.odd_library.specs.declared.library.OtherPart.{OtherPart}
use Rattle.odd_meaning.specs.Links.{macro_key, named_by, named_by_edits, named_in}
use Rattle.odd_text.specs.declared.key.Key.{Key}
use Rattle.odd_text.proofs.InList.{contained, nothing_stands}
use Rattle.odd_text.specs.Standing.{StandsIn}
use Rattle.rng_grammar.specs.Patterns.{IsDefined}
use Rattle.rng_grammar.specs.Sorts as sorts
use Rattle.rng_grammar.specs.Sorts.{IsOfBody, IsOfChildren, IsOfContent, IsSorted}
use Rattle.rng_grammar.specs.declared.grammar.Define.{Define}
use Rattle.rng_grammar.specs.declared.grammar.Expr.{Expr}
use Rattle.rng_grammar.specs.declared.grammar.Expr.TheVariants as expr
use Rattle.rng_grammar.specs.declared.grammar.Grammar.{Grammar}
use Rattle.compile_laws.proofs.Closed.{IsClosed, references_good, throughout_good}
use Rattle.compile_laws.proofs.ConditionClass.{IsElementBody, IsEmptyBody, body_kind, condition_defined}
use Rattle.compile_laws.proofs.Good.{IsGoodFor, content_good, data_in, data_in_parts}
use Rattle.compile_laws.proofs.DataOrChildren.{data_or_none, no_data_of_macro}
use Rattle.compile_laws.proofs.DatatypeLaw.{datatype_word}
use Rattle.compile_laws.proofs.HeldDefines.{held_defined}
use Rattle.compile_laws.proofs.MacroValueLaw.{data_word}
use Rattle.compile_laws.proofs.OfferedLaw.{rules_sort}
use Rattle.compile_laws.proofs.MacroLaw.{BreaksNone, by_levels}

-- what is made of patterns of children is one
sort_closed : (g : Grammar) → IsClosed (IsOfChildren g)
sort_closed g =
    let each : (ps : List Expr) → All (IsOfChildren g) ps → (p : Expr) → StandsIn ps p → IsOfChildren g p = λ ps all p s. All-contains (IsOfChildren g) ps p all (contained ps p s) in
    record {
      empty = sorts.empty;
      not_allowed = sorts.not_allowed;
      group = λ p q ps all. sorts.group (p ∷ q ∷ ps) refl (each (p ∷ q ∷ ps) all);
      choice = λ p q ps all. sorts.choice (p ∷ q ∷ ps) refl (each (p ∷ q ∷ ps) all);
      optional = λ p h. sorts.optional p refl h;
      zero_or_more = λ p h. sorts.zero_or_more p refl h;
      one_or_more = λ p h. sorts.one_or_more p refl h;
    }

module _ (library : Library) (start : List (List ℕ)) (g : Grammar) (is : IsGrammarOf library start g) (f : IsFormedLibrary library) (none : BreaksNone library) where
  abbrev Good : Expr → Type 0
  Good = IsOfChildren g

  -- a reference to a held element
  reference_sort : (ident : List ℕ) (part : ElementPart) → IsElementAt library ident part → Good (reference ident)
  reference_sort ident part held = sorts.element (record { names = _; attrs = _; content = _; defined = held_defined library start g is ident part held })

  -- to a condition
  condition_sort : (c : Condition) → StandsIn is.conditions c → Good (condition_pattern is.conditions c)
  condition_sort c s =
      let name = condition_name is.conditions c in
      let defined = condition_defined library start g is c s in
      ⊎_elim (λ (h : IsEmptyBody c (condition_body name c)). sorts.part expr.NotAllowed (subst (IsDefined g name) h.is defined) sorts.not_allowed)
      (λ (h : IsElementBody c name (condition_body name c)). sorts.element (record { names = _; attrs = _; content = _; defined = subst (IsDefined g name) h.is defined }))
      (body_kind name c)

  -- to a member of a class, and to the class
  member_sort : (class : List ℕ) (idents : List (List ℕ)) (ident : List ℕ) → is.members class ≡ Some idents → StandsIn idents ident → Good (reference ident)
  member_sort class idents ident e s = let m = (listed_is library is.members class idents is.are_members e).1.none_else ident s in reference_sort ident m.part m.held

  class_sort : (class : List ℕ) (idents : List (List ℕ)) → is.members class ≡ Some idents → Good (expr.Ref (class_name class))
  class_sort class idents e =
      sorts.part (references_pattern idents) (is.are_defines.each (class_define class idents) (compiled.of_class class idents e refl))
      (references_good Good (sort_closed g) idents (λ ident s. member_sort class idents ident e s))

  -- no item and no list stands in a content that reaches no data
  mutual
    no_leaf : (macros : OfMacros) (c : Content) → (ReachesBy macros c → ⊥) → (leaf : Content) → StandsIn (data_in c) leaf → ⊥
    no_leaf macros (Value item) none_reached leaf s = none_reached tt
    no_leaf macros (Vals list) none_reached leaf s = none_reached tt
    no_leaf macros (Sequence' shape parts b) none_reached leaf s = no_leaves macros parts none_reached leaf s
    no_leaf macros (Alternate' shape parts b) none_reached leaf s = no_leaves macros parts none_reached leaf s
    no_leaf macros Empty none_reached leaf s = nothing_stands leaf s
    no_leaf macros Text none_reached leaf s = nothing_stands leaf s
    no_leaf macros (Element key b) none_reached leaf s = nothing_stands leaf s
    no_leaf macros (Class key p b) none_reached leaf s = nothing_stands leaf s
    no_leaf macros (Macro key b) none_reached leaf s = nothing_stands leaf s
    no_leaf macros (Any c b) none_reached leaf s = nothing_stands leaf s

    no_leaves : {n : _} (macros : OfMacros) (parts : Row_of-Content n) → (OneReachesBy macros parts → ⊥) → (leaf : Content) → StandsIn (data_in_parts parts) leaf → ⊥
    no_leaves macros end_of-Content none_reached leaf s = nothing_stands leaf s
    no_leaves macros (more_of-Content part parts) none_reached leaf s =
        ⊎_elim (λ a. no_leaf macros part (λ r. none_reached (inl r)) leaf a) (λ b. no_leaves macros parts (λ r. none_reached (inr r)) leaf b) (stands_either (data_in part) (data_in_parts parts) leaf s)

  -- to what a content without data names, where it is so of the macros
  all_good : (c : Content) → (ReachesData library c → ⊥) → ((k : Condition) → StandsIn (conditions_in c) k → StandsIn is.conditions k)
      → ((ident : List ℕ) → StandsIn (named_in c) (macro_key ident) → Good (macro_pattern library ident)) → IsGoodFor Good library is.conditions is.members (named_in c) (conditions_in c) (data_in c)
  all_good c none_reached among macros = record {
    elements = λ key h. let at = element_found library key h in reference_sort key at.0 at.1;
    classes = class_sort;
    each_member = member_sort;
    macros = λ key s h. subst (λ holds. Good (cond holds (expr.Ref (macro_name key)) expr.NotAllowed)) h (macros key s);
    each_condition = λ k s. condition_sort k (among k s);
    each_data = λ leaf s. absurd (no_leaf _ c none_reached leaf s);
  }

  -- the conditions in a held component's content are the library's
  conditions_among : (key : Key) (part : Component) → find key_cmp key library.parts ≡ Some part → (content : Content) → content_of part ≡ Some content
      → (c : Condition) → StandsIn (conditions_in content) c → StandsIn is.conditions c
  conditions_among key part held content e c s =
      is.are_conditions.each c (record { entry = (key, part); among = entry_stands library key part held; holds = subst (λ o. StandsIn (conditions_of o) c) (sym e) s })

  -- a macro of that ident reaches no data
  abbrev IsFree : List ℕ → Type 0
  IsFree ident = (part : OtherPart) → IsMacroAt library ident part → ReachesData library part.content → ⊥

  -- to a macro that reaches no data
  macro_sort : (ident : List ℕ) → IsFree ident → Good (macro_pattern library ident)
  macro_sort = by_levels library none (λ levels ident. IsFree ident → Good (macro_pattern library ident))
      (λ levels ident lacks free. subst (λ holds. Good (cond holds (expr.Ref (macro_name ident)) expr.NotAllowed)) (sym lacks) sorts.not_allowed)
      (λ levels ident part held others free.
      let content =
      content_good Good (sort_closed g) sorts.text library is.conditions is.members part.content
      (all_good part.content (free part held) (conditions_among (macro_key ident) (component.Macro part) held part.content refl)
      (λ other s. others other s (λ inner there. no_data_of_macro library part.content (free part held) other s inner there))) in
      subst (λ holds. Good (cond holds (expr.Ref (macro_name ident)) expr.NotAllowed)) (sym (macro_held library ident part held))
      (sorts.part _ (is.are_defines.each (macro_define library is.conditions is.members ident part) (compiled.of_macro ident part held refl)) content))

  -- so the content of a held component that reaches no data is of children
  pub free_sort : (key : Key) (part : Component) (c : Content) → find key_cmp key library.parts ≡ Some part → content_of part ≡ Some c → (ReachesData library c → ⊥)
      → Good (content_pattern library is.conditions is.members c)
  free_sort key part c held e none_reached =
      content_good Good (sort_closed g) sorts.text library is.conditions is.members c
      (all_good c none_reached (conditions_among key part held c e) (λ other s. macro_sort other (λ inner there. no_data_of_macro library c none_reached other s inner there)))

  -- and that of an element or a macro is of children or of a value
  content_sort : (key : Key) (part : Component) (c : Content) → find key_cmp key library.parts ≡ Some part → content_of part ≡ Some c → own_content part ≡ Some c
      → ((k : Key) → StandsIn (named_in c) k → StandsIn (named_by part) k) → IsOfContent g (content_pattern library is.conditions is.members c)
  content_sort key part c held e own named =
      ⊎_elim (λ none_reached. inl (free_sort key part c held e none_reached)) (λ d. inr (sorts.word (data_word library start g is f none key part held c named d)))
      (data_or_none library f none key part c held own)

  -- the body of a condition's define
  condition_body_sort : (c : Condition) → StandsIn is.conditions c → IsOfBody g (condition_body (condition_name is.conditions c) c)
  condition_body_sort c s =
      let name = condition_name is.conditions c in
      ⊎_elim (λ (h : IsEmptyBody c (condition_body name c)). subst (IsOfBody g) (sym h.is) (inl sorts.not_allowed))
      (λ (h : IsElementBody c name (condition_body name c)). subst (IsOfBody g) (sym h.is) (tt, inl (throughout_good Good (sort_closed g) sorts.text name (condition_sort c s))))
      (body_kind name c)

  -- and that of each define
  bodies_sort : (d : Define) → IsDefineOf library is.conditions is.members is.offers d → IsOfBody g d.body
  bodies_sort d (compiled.of_condition c s e) = subst (λ (x : Define). IsOfBody g x.body) (sym e) (condition_body_sort c s)
  bodies_sort d (compiled.of_class ident idents listed e) =
      subst (λ (x : Define). IsOfBody g x.body) (sym e) (inl (references_good Good (sort_closed g) idents (λ member s. member_sort ident idents member listed s)))
  bodies_sort d (compiled.of_datatype ident part held e) =
      subst (λ (x : Define). IsOfBody g x.body) (sym e) (inr (sorts.word (datatype_word library start g is f none ident part held)))
  bodies_sort d (compiled.of_element ident part held e) =
      subst (λ (x : Define). IsOfBody g x.body) (sym e) (
        rules_sort library start g is f none ident,
        content_sort (element_key ident) (component.Element part) part.content held refl refl (λ k s. stands_left (named_in part.content) (named_by_edits part.atts) k s),
      )
  bodies_sort d (compiled.of_macro ident part held e) =
      subst (λ (x : Define). IsOfBody g x.body) (sym e) (content_sort (macro_key ident) (component.Macro part) part.content held refl refl (λ k s. s))

  -- a start word
  word_sort : HoldsStart library start → (word : List ℕ) → StandsIn start word → Good (reference word)
  word_sort h word s = by (holds_element library word) refl
    where
      by : (b : Bool) → holds_element library word ≡ b → Good (reference word)
      by true e = let at = element_found library word e in reference_sort word at.0 at.1
      by false e = absurd (h word s e)

  pub sorted : HoldsStart library start → IsSorted g
  sorted holds = record {
    start = subst Good (sym is.start_is) (references_good Good (sort_closed g) start (word_sort holds));
    defines = λ d s. bodies_sort d (is.are_defines.none_else d s);
  }
