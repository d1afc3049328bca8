-- The joining induction: an element is valid for a held element where the define of that element accepts it.
use Rattle.std.proofs.Common.{◌≡◌, ◌↔◌, ℕ, List, [], ◌∷◌, refl, subst, sym, ◌≤◌, zero, suc, Bool, true, false, cond, inl, inr, ⊎_elim, map, ◌∙◌, ◌<◌, arith}
use Rattle.std.proofs.lemmas.Bool.{false≢true}
use Rattle.std.proofs.lemmas.List.Elements.{All-head}
use Rattle.std.specs.Prelude.{All}
use Rattle.compile_defines.proofs.Standing.{element_held, IsElementAt, stands_left}
use Rattle.compile_defines.specs.Contents.{condition_name, condition_pattern, define_name, element_pattern, holds_element, reference, content_pattern}
use Rattle.compile_defines.specs.Compiled.{IsGrammarOf, element_body, rule_of}
use Rattle.odd_content.specs.declared.content.Condition.{Condition}
use Rattle.odd_library.specs.Formed.{IsFormedLibrary}
use Rattle.odd_library.specs.Odd.{element_key}
use Rattle.odd_library.specs.declared.library.Component.TheVariants as component
use Rattle.odd_library.specs.declared.library.ElementPart.{ElementPart}
use Rattle.odd_library.specs.declared.library.Library.{Library}
use Rattle.odd_meaning.specs.Admission as admission
use Rattle.odd_meaning.specs.Admission.{AreAdmitted, IsValidWithin, counting, IsValidBy}
use Rattle.odd_meaning.specs.Naming.{element_name}
use Rattle.odd_meaning.specs.Values.{IsDataValue}
use Rattle.odd_meaning.specs.Contents.{IsOne, Admits, IsOfMacro}
use Rattle.odd_meaning.specs.Labels.{Label, condition, element}
use Rattle.odd_meaning.specs.Links.{named_by_edits, named_in}
use Rattle.odd_text.specs.Standing.{StandsIn}
use Rattle.odd_tree.specs.Significant.{Marking, depth, IsSignificant}
use Rattle.odd_tree.specs.declared.tree.Node.{Node, Element}
use Rattle.odd_tree.specs.declared.tree.Tree.{Tree, out-Tree}
use Rattle.rng_grammar.proofs.OnePattern.{ref_shown, told}
use Rattle.rng_grammar.proofs.SortLaws.{no_value}
use Rattle.rng_grammar.specs.Acceptance as acceptance
use Rattle.rng_grammar.specs.Acceptance.{HasContent, IsAcceptedWithin, AreMatched, IsAcceptedBy, IsInClass}
use Rattle.rng_grammar.specs.Patterns as patterns
use Rattle.rng_grammar.specs.Patterns.{DefinesElement, IsAllowed, IsMatched}
use Rattle.rng_grammar.specs.declared.grammar.AttrPart.TheVariants as attributes
use Rattle.rng_grammar.specs.declared.grammar.Body.TheVariants as body
use Rattle.rng_grammar.specs.declared.grammar.Expr.TheOpen as shape
use Rattle.rng_grammar.specs.declared.grammar.Expr.TheVariants as expr
use Rattle.rng_grammar.specs.declared.grammar.Grammar.{Grammar}
use Rattle.rng_grammar.specs.declared.grammar.NameClass.TheVariants as class
use Rattle.compile_laws.proofs.ConditionClass.{one_body}
use Rattle.compile_laws.proofs.ConditionLaw.{condition_law, condition_part}
use Rattle.compile_laws.proofs.ContentLaw.{AreLeavesKept, content_law}
use Rattle.compile_laws.proofs.HeldDefines.{class_kept, hold_elements, reference_law, defined_held, held_defined}
use Rattle.compile_laws.proofs.Levels.{all_kept, child_less}
use Rattle.compile_laws.proofs.MacroLaw.{BreaksNone, names_kept, macro_kept}
use Rattle.compile_laws.proofs.ChildLaws.{none_matched}
use Rattle.compile_laws.proofs.Pieces.{Same}
use Rattle.compile_laws.proofs.Sorted.{free_sort}
use Rattle.compile_laws.proofs.DataOrChildren.{data_or_none}
use Rattle.compile_laws.proofs.DataReached.{value_reached}
use Rattle.compile_laws.proofs.MacroValueLaw.{data_law}
use Rattle.compile_laws.proofs.OfferedLaw.{attributes_law}

-- an accepted element is of a define that holds an `element`
pub accepted_defined : (levels : ℕ) (g : Grammar) (t : Tree) (name : List ℕ) → IsAcceptedWithin levels g t name → DefinesElement g name
accepted_defined zero g t name a = absurd a
accepted_defined (suc levels) g t name a = record { names = a.names; attrs = a.attrs; content = a.content; defined = a.defined }

-- none is valid for what is not held
valid_held : (levels : ℕ) (library : Library) (t : Tree) (ident : List ℕ) → holds_element library ident ≡ false → IsValidWithin levels library t ident → ⊥
valid_held zero library t ident lacks v = v
valid_held (suc levels) library t ident lacks v = false≢true (sym lacks ∙ element_held library ident v.part v.held)

module _ (library : Library) (start : List (List ℕ)) (g : Grammar) (is : IsGrammarOf library start g) (f : IsFormedLibrary library) (levels : ℕ) (Q : Node → Type 0)
    (under : (t : Tree) → Q (Element t) → depth t ≤ levels)
    (join : (t : Tree) → depth t ≤ levels → (ident : List ℕ) → IsValidWithin levels library t ident ↔ IsAcceptedWithin levels g t (define_name ident)) where
  -- the markings of the children
  abbrev counts : Marking Label
  counts = counting (IsValidWithin levels library)

  abbrev marks : Marking (List ℕ)
  marks = IsAcceptedWithin levels g

  -- an element that is alone in the list is not too deep
  alone_under : (t : Tree) (children : List Node) → children ≡ Element t ∷ [] → All Q children → depth t ≤ levels
  alone_under t children e q = under t (All-head Q (Element t) [] (subst (All Q) e q))

  -- one element that counts for an ident
  referred_kept : (key : List ℕ) → Same Q (IsOne counts (element key)) (IsMatched g marks (reference key))
  referred_kept key children q = (
    λ o.
        let accepted = (join o.tree (alone_under o.tree children o.alone q) key).0 o.counted in
        let defines = accepted_defined levels g o.tree (define_name key) accepted in
        (reference_law g (hold_elements library start g is) marks key children).1 (record { tree = o.tree; alone = o.alone; is_of = (defines, accepted) }),
    λ m.
        let o = (reference_law g (hold_elements library start g is) marks key children).0 m in
        record { tree = o.tree; alone = o.alone; counted = (join o.tree (alone_under o.tree children o.alone q) key).1 o.is_of.1 },
  )

  -- be it held or not
  element_kept : (key : List ℕ) → Same Q (IsOne counts (element key)) (IsMatched g marks (element_pattern library key))
  element_kept key = by (holds_element library key) refl
    where
      by : (holds : Bool) → holds_element library key ≡ holds → Same Q (IsOne counts (element key)) (IsMatched g marks (cond holds (reference key) expr.NotAllowed))
      by true e = referred_kept key
      by false e = λ children q. (λ o. absurd (valid_held levels library o.tree key e o.counted), λ m. absurd (none_matched g marks children m))

  -- one that meets a condition throughout
  condition_kept : (c : Condition) → StandsIn is.conditions c → Same Q (IsOne counts (condition c)) (IsMatched g marks (condition_pattern is.conditions c))
  condition_kept c s children q = (
    λ o.
        let h = (condition_law library start g is c s levels o.tree (alone_under o.tree children o.alone q)).0 o.counted in
        patterns.leaf (patterns.element h.0 o.alone h.1),
    λ m. elim (told g marks (condition_pattern is.conditions c) (shape.Ref (condition_name is.conditions c)) children (ref_shown (condition_name is.conditions c)) m) [
      | inl one ↦ record {
        tree = one.0;
        alone = one.2;
        counted = (condition_law library start g is c s levels one.0 (alone_under one.0 children one.2 q)).1 (one.1, one.3);
      }
      | inr part ↦ absurd (none_matched g marks children (subst (λ p. IsMatched g marks p children) (condition_part library start g is c s part.0 part.1) part.2))
    ],
  )

  -- so the leaves are kept
  pub leaves_kept : AreLeavesKept library is.conditions is.members g counts marks Q
  leaves_kept = record { elements = element_kept; classes = class_kept library start g is marks f counts Q referred_kept; conditions = condition_kept }

-- a child has less levels than the element
child_under : (levels : ℕ) (t : Tree) → depth t ≤ suc levels → (u : Tree) → StandsIn (out-Tree t).children (Element u) → depth u ≤ levels
child_under levels t h u s = let less : depth u < depth t = child_less t u s in omega arith

module _ (library : Library) (start : List (List ℕ)) (g : Grammar) (is : IsGrammarOf library start g) (f : IsFormedLibrary library) (none : BreaksNone library) where
  -- a step of the induction for an element, from markings of its children by which the leaves are kept
  module _ (t : Tree) (ident : List ℕ) (counts : Marking Label) (marks : Marking (List ℕ))
      (kept : AreLeavesKept library is.conditions is.members g counts marks (StandsIn (out-Tree t).children)) where
    -- a held content admits the significant children that its pattern matches
    held_law : (part : ElementPart) → IsElementAt library ident part → (children : List Node) → IsSignificant (out-Tree t).children children
        → Admits library counts part.content children ↔ IsMatched g marks (content_pattern library is.conditions is.members part.content) children
    held_law part held children s =
        let Q : Node → Type 0 = StandsIn (out-Tree t).children in
        let key = element_key ident in
        let formed = (f.formed key (component.Element part) held).1.content in
        let macros = macro_kept library start g is f none counts marks Q kept in
        let named = names_kept library start g is f none counts marks Q (IsOfMacro library counts) key (component.Element part) held (named_in part.content) (λ k s. stands_left (named_in part.content) (named_by_edits part.atts) k s) (λ other among. macros other) in
        content_law library is.conditions is.members g counts marks Q (one_body library start g is) kept (IsOfMacro library counts) 60 part.content formed named children (all_kept t children s)

    -- where no element stands among the children, it admits their text as one value where its pattern allows it
    value_law : (part : ElementPart) → IsElementAt library ident part → (cs : List ℕ)
        → IsDataValue library part.content cs ↔ IsAllowed g (content_pattern library is.conditions is.members part.content) cs
    value_law part held cs =
        let key = element_key ident in
        let whole = component.Element part in
        ⊎_elim
        (λ free. (λ v. absurd (free (value_reached library part.content cs v)), λ m. absurd (no_value g (one_body library start g is) _ (free_sort library start g is f none key whole part.content held refl free) cs m)))
        (λ d. data_law library start g is f none key whole held part.content (λ k s. stands_left (named_in part.content) (named_by_edits part.atts) k s) (f.formed key whole held).1.content d cs)
        (data_or_none library f none key whole part.content held refl)

    -- so an element has the content
    content_kept : (part : ElementPart) → IsElementAt library ident part
        → AreAdmitted counts library part.content t ↔ HasContent marks g (content_pattern library is.conditions is.members part.content) t
    content_kept part held = (λ a. has a, λ h. admits h)
      where
        has : AreAdmitted counts library part.content t → HasContent marks g (content_pattern library is.conditions is.members part.content) t
        has (admission.children nodes kept a) = acceptance.children nodes kept ((held_law part held nodes kept).0 a)
        has (admission.value no_element v) = acceptance.value no_element ((value_law part held _).0 v)

        admits : HasContent marks g (content_pattern library is.conditions is.members part.content) t → AreAdmitted counts library part.content t
        admits (acceptance.children nodes kept m) = admission.children nodes kept ((held_law part held nodes kept).1 m)
        admits (acceptance.value no_element m) = admission.value no_element ((value_law part held _).1 m)

    -- a valid element is accepted by the define of the held element
    valid_accepted : IsValidBy counts library t ident → IsAcceptedBy marks g t (define_name ident)
    valid_accepted v = record {
      names = class.One (element_name ident v.part);
      attrs = attributes.Listed (map rule_of (is.offers ident));
      content = content_pattern library is.conditions is.members v.part.content;
      defined = held_defined library start g is ident v.part v.held;
      named = v.named;
      attributed = (attributes_law library start g is f none ident (out-Tree t).attrs).0 v.attributed;
      holds = (content_kept v.part v.held).0 v.admitted;
    }

    -- and the other way round
    accepted_valid : IsAcceptedBy marks g t (define_name ident) → IsValidBy counts library t ident
    accepted_valid a =
        let h = defined_held library start g is ident (body.Element a.names a.attrs a.content) a.defined in
        let bodies : body.Element a.names a.attrs a.content ≡ element_body library is.conditions is.members (is.offers ident) ident h.part = h.is in
        let names : a.names ≡ class.One (element_name ident h.part) = cc in
        let attrs : a.attrs ≡ attributes.Listed (map rule_of (is.offers ident)) = cc in
        let content : a.content ≡ content_pattern library is.conditions is.members h.part.content = cc in
        record {
          part = h.part;
          held = h.held;
          named = subst (λ n. IsInClass n (out-Tree t).name) names a.named;
          attributed = (attributes_law library start g is f none ident (out-Tree t).attrs).1 (subst (λ r. AreMatched g r (out-Tree t).attrs) attrs a.attributed);
          admitted = (content_kept h.part h.held).1 (subst (λ p. HasContent marks g p t) content a.holds);
        }

  -- so within each number of levels that is enough
  pub joined : (levels : ℕ) (t : Tree) → depth t ≤ levels → (ident : List ℕ) → IsValidWithin levels library t ident ↔ IsAcceptedWithin levels g t (define_name ident)
  joined zero t h ident = (λ v. v, λ a. a)
  joined (suc levels) t h ident =
      let kept = leaves_kept library start g is f levels (StandsIn (out-Tree t).children) (child_under levels t h) (joined levels) in (
        valid_accepted t ident (counting (IsValidWithin levels library)) (IsAcceptedWithin levels g) kept,
        accepted_valid t ident (counting (IsValidWithin levels library)) (IsAcceptedWithin levels g) kept,
      )
