-- The content law: a content admits the lists of children that its pattern matches, repetitions by their bounds.
use Rattle.std.proofs.Common.{ℕ, ◌-◌, List, [], ◌++◌}
use Rattle.compile_defines.proofs.Standing.{stands_left, stands_right}
use Rattle.compile_defines.specs.Conditions.{conditions_in, conditions_in_parts}
use Rattle.compile_defines.specs.Contents.{condition_pattern, content_pattern, element_pattern, macro_pattern, members_pattern, part_patterns}
use Rattle.compile_defines.specs.Data.{datatype_name, list_pattern}
use Rattle.compile_defines.specs.Repeating.{group_pattern, choice_pattern}
use Rattle.odd_content.specs.Formed.{AreFormedWithin, IsFormedWithin}
use Rattle.odd_content.specs.declared.content.Condition.{Condition}
use Rattle.odd_content.specs.declared.content.Content.{Content, Empty, Text, Value, Vals, Element, Class, Macro, Any, Sequence', Alternate', Row_of-Content, end_of-Content, more_of-Content}
use Rattle.odd_content.specs.declared.content.Pick.{Pick}
use Rattle.odd_library.specs.declared.library.Library.{Library}
use Rattle.odd_meaning.specs.Classes.{Members}
use Rattle.odd_meaning.specs.Contents.{AdmitsBy, ByOne, InOrder, IsOne, IsOneMember, Macros}
use Rattle.odd_meaning.specs.Labels.{Label, element, condition}
use Rattle.odd_meaning.specs.Links.{class_key, datatype_key, macro_key, named_in, named_in_parts}
use Rattle.odd_meaning.specs.Rules.{IsOfAttributes}
use Rattle.odd_text.specs.declared.key.Key.{Key}
use Rattle.odd_text.proofs.InList.{stands_first}
use Rattle.odd_text.specs.Standing.{StandsIn}
use Rattle.odd_tree.specs.Significant.{Marking}
use Rattle.odd_tree.specs.declared.tree.Node.{Node}
use Rattle.rng_grammar.proofs.OnePattern.{told, text_shown}
use Rattle.rng_grammar.proofs.SortLaws.{DefinesOnce, no_children}
use Rattle.rng_grammar.specs.Denoting.{read_as}
use Rattle.rng_grammar.specs.Patterns as patterns
use Rattle.rng_grammar.specs.Sorts as sorts
use Rattle.rng_grammar.specs.Sorts.{IsOfWord}
use Rattle.rng_grammar.specs.Patterns.{IsMatched}
use Rattle.rng_grammar.specs.declared.grammar.Expr.{Expr}
use Rattle.rng_grammar.specs.declared.grammar.Expr.TheOpen as shape
use Rattle.rng_grammar.specs.declared.grammar.Expr.TheVariants as expr
use Rattle.rng_grammar.specs.declared.grammar.Grammar.{Grammar}
use Rattle.rng_types.specs.declared.item.Item.TheVariants as items
use Rattle.compile_laws.proofs.ChildLaws.{InChoice, InGroup, choice_law, group_law, repeated_law}
use Rattle.compile_laws.proofs.AttributeValueLaw.{list_word}
use Rattle.compile_laws.proofs.Pieces.{Same, or_same, same, then_same, trans}

module _ (library : Library) (numbered : List Condition) (members : Members) (g : Grammar) (counts : Marking Label) (marks : Marking (List ℕ)) (Q : Node → Type 0) where
  -- what an element, a class and a condition admit is what their patterns match, of children of which each is such
  pub record AreLeavesKept : Type 0 where
    pub elements : (key : List ℕ) → Same Q (IsOne counts (element key)) (IsMatched g marks (element_pattern library key))
    pub classes : (key : List ℕ) (p : Pick) → (IsOfAttributes library key → ⊥) → Same Q (IsOneMember library counts key p) (IsMatched g marks (members_pattern key p (members key)))
    pub conditions : (c : Condition) → StandsIn numbered c → Same Q (IsOne counts (condition c)) (IsMatched g marks (condition_pattern numbered c))

  -- so what macros of these admit, no class among these is of attributes, each datatype is of one word, and each of the conditions is numbered
  pub record AreNamesKept (of_macro : Macros) (named : List Key) (cs : List Condition) : Type 0 where
    pub macros : (key : List ℕ) → StandsIn named (macro_key key) → Same Q (of_macro key) (IsMatched g marks (macro_pattern library key))
    pub classes : (key : List ℕ) → StandsIn named (class_key key) → IsOfAttributes library key → ⊥
    pub datatypes : (key : List ℕ) → StandsIn named (datatype_key key) → IsOfWord g (expr.Ref (datatype_name key))
    pub conditions : (c : Condition) → StandsIn cs c → StandsIn numbered c

  module _ (once : DefinesOnce g) (kept : AreLeavesKept) (macros : Macros) where
    -- of the names of all parts those of a first part are kept
    first_kept : (names others : List Key) (cs ds : List Condition) → AreNamesKept macros (names ++ others) (cs ++ ds) → AreNamesKept macros names cs
    first_kept names others cs ds a = record {
      macros = λ key s. a.macros key (stands_left names others (macro_key key) s);
      classes = λ key s. a.classes key (stands_left names others (class_key key) s);
      datatypes = λ key s. a.datatypes key (stands_left names others (datatype_key key) s);
      conditions = λ c s. a.conditions c (stands_left cs ds c s);
    }

    -- and so are those of the further parts
    rest_kept : (names others : List Key) (cs ds : List Condition) → AreNamesKept macros (names ++ others) (cs ++ ds) → AreNamesKept macros others ds
    rest_kept names others cs ds a = record {
      macros = λ key s. a.macros key (stands_right names others (macro_key key) s);
      classes = λ key s. a.classes key (stands_right names others (class_key key) s);
      datatypes = λ key s. a.datatypes key (stands_right names others (datatype_key key) s);
      conditions = λ c s. a.conditions c (stands_right cs ds c s);
    }

    -- a pattern of one word matches no children
    no_child : (p : Expr) → IsOfWord g p → Same Q (λ w. ⊥) (IsMatched g marks p)
    no_child p word w q = (λ h. absurd h, λ m. no_children g once marks p (sorts.word word) w m)

    mutual
      -- each formed content whose names are kept admits what its pattern matches
      pub content_law : (left : ℕ) (k : Content) → IsFormedWithin left k → AreNamesKept macros (named_in k) (conditions_in k)
          → Same Q (AdmitsBy macros library counts k) (IsMatched g marks (content_pattern library numbered members k))
      content_law left Empty f a = group_law Q g marks []
      content_law left Text f a = λ w q. ((λ none. patterns.leaf (patterns.text none)), told g marks expr.Text shape.Text w text_shown)
      content_law left (Value (items.Typed k facets)) f a = no_child (expr.Typed (read_as k) facets) sorts.typed
      content_law left (Value (items.Key key)) f a = no_child (expr.Ref (datatype_name key)) (a.datatypes key (stands_first (datatype_key key) []))
      content_law left (Vals list) f a = no_child (list_pattern list) (list_word g list)
      content_law left (Element key b) f a = repeated_law Q g marks (IsOne counts (element key)) (element_pattern library key) b f.1 (kept.elements key)
      content_law left (Class key p b) f a =
          repeated_law Q g marks (IsOneMember library counts key p) (members_pattern key p (members key)) b f.2 (kept.classes key p (a.classes key (stands_first (class_key key) [])))
      content_law left (Macro key b) f a = repeated_law Q g marks (macros key) (macro_pattern library key) b f.1 (a.macros key (stands_first (macro_key key) []))
      content_law left (Any c b) f a = repeated_law Q g marks (IsOne counts (condition c)) (condition_pattern numbered c) b f.1 (kept.conditions c (a.conditions c (stands_first c [])))
      content_law left (Sequence' shape parts b) f a =
          let ps = part_patterns library numbered members parts in
          repeated_law Q g marks (InOrder macros library counts parts) (group_pattern ps) b f.2 (trans Q (in_order (left - 1) parts f.1 a) (group_law Q g marks ps))
      content_law left (Alternate' shape parts b) f a =
          let ps = part_patterns library numbered members parts in
          repeated_law Q g marks (ByOne macros library counts parts) (choice_pattern ps) b f.2 (trans Q (by_one (left - 1) parts f.1 a) (choice_law g marks Q ps))

      -- the parts of a sequence
      in_order : {n : _} (left : ℕ) (parts : Row_of-Content n) → AreFormedWithin left parts → AreNamesKept macros (named_in_parts parts) (conditions_in_parts parts)
          → Same Q (InOrder macros library counts parts) (InGroup Q g marks (part_patterns library numbered members parts))
      in_order left end_of-Content f a = same Q _
      in_order left (more_of-Content part parts) f a =
          then_same Q (content_law left part f.0 (first_kept (named_in part) (named_in_parts parts) (conditions_in part) (conditions_in_parts parts) a))
          (in_order left parts f.1 (rest_kept (named_in part) (named_in_parts parts) (conditions_in part) (conditions_in_parts parts) a))

      -- the parts of an alternate
      by_one : {n : _} (left : ℕ) (parts : Row_of-Content n) → AreFormedWithin left parts → AreNamesKept macros (named_in_parts parts) (conditions_in_parts parts)
          → Same Q (ByOne macros library counts parts) (InChoice g marks (part_patterns library numbered members parts))
      by_one left end_of-Content f a = same Q _
      by_one left (more_of-Content part parts) f a =
          or_same Q (content_law left part f.0 (first_kept (named_in part) (named_in_parts parts) (conditions_in part) (conditions_in_parts parts) a))
          (by_one left parts f.1 (rest_kept (named_in part) (named_in_parts parts) (conditions_in part) (conditions_in_parts parts) a))
