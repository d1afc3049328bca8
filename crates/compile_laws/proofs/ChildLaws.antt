-- The laws of groups, choices and repetitions, of children.
use Rattle.std.proofs.Common.{◌↔◌, ℕ, List}
use Rattle.std.specs.Prelude.{All}
use Rattle.compile_defines.specs.Contents.{reference, references_pattern}
use Rattle.compile_defines.specs.Repeating.{choice_pattern, group_pattern, repeated}
use Rattle.odd_meaning.specs.Contents.{IsWithin}
use Rattle.odd_text.specs.Standing.{StandsIn}
use Rattle.odd_tree.specs.Significant.{Marking}
use Rattle.odd_tree.specs.Splits.{Counted}
use Rattle.odd_tree.specs.declared.tree.Node.{Node}
use Rattle.compile_laws.proofs.Leaves.{children_leaves}
use Rattle.rng_grammar.specs.Patterns.{IsMatched, TakesChildren}
use Rattle.rng_grammar.specs.declared.grammar.Expr.{Expr}
use Rattle.rng_grammar.specs.declared.grammar.Expr.TheVariants as expr
use Rattle.rng_grammar.specs.declared.grammar.Grammar.{Grammar}
use Rattle.rng_types.specs.Bounds.{IsFormedBounds}
use Rattle.rng_types.specs.declared.bounds.Bounds.{Bounds}
use Rattle.compile_laws.proofs.MatchLaws as laws
use Rattle.compile_laws.proofs.Pieces.{Same}

module _ (g : Grammar) (marks : Marking (List ℕ)) where
  pub none_matched : (w : List Node) → IsMatched g marks expr.NotAllowed w → ⊥
  none_matched = laws.none_matched g (TakesChildren g marks) (children_leaves g marks)

  pub references_law : (idents : List (List ℕ)) (w : List Node)
      → IsMatched g marks (references_pattern idents) w ↔ ((ident : List ℕ) × StandsIn idents ident × IsMatched g marks (reference ident) w)
  references_law = laws.each_law g (TakesChildren g marks) (children_leaves g marks) reference

  abbrev pub InChoice : List Expr → List Node → Type 0
  InChoice = laws.InChoice g (TakesChildren g marks) (children_leaves g marks)

  pub choice_law : (Q : Node → Type 0) (ps : List Expr) → Same Q (InChoice ps) (IsMatched g marks (choice_pattern ps))
  choice_law = laws.choice_law g (TakesChildren g marks) (children_leaves g marks)

module _ (Q : Node → Type 0) (g : Grammar) (marks : Marking (List ℕ)) where
  abbrev pub InGroup : List Expr → List Node → Type 0
  InGroup = laws.InGroup Q g (TakesChildren g marks) (children_leaves g marks)

  pub group_law : (ps : List Expr) → Same Q (InGroup ps) (IsMatched g marks (group_pattern ps))
  group_law = laws.group_law Q g (TakesChildren g marks) (children_leaves g marks)

  pub repeated_law : (A : List Node → Type 0) (p : Expr) (b : Bounds) → IsFormedBounds b → ((w : List Node) → All Q w → A w ↔ IsMatched g marks p w)
      → (w : List Node) → All Q w → Counted (IsWithin b) A w ↔ IsMatched g marks (repeated p b) w
  repeated_law = laws.repeated_law Q g (TakesChildren g marks) (children_leaves g marks)
