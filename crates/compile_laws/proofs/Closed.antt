-- What holds of all patterns that are made of contents.
use Rattle.std.proofs.Common.{ℕ, zero, suc, ◌-◌, List, [], ◌∷◌, ◌++◌, Option, Some, None, map, replicate}
use Rattle.std.proofs.lemmas.List.Elements.{All-nil, All-cons, All-head, All-append, All-map, All-replicate}
use Rattle.std.specs.Prelude.{All}
use Rattle.compile_defines.proofs.Standing.{each_stands}
use Rattle.compile_defines.specs.Contents.{reference, references_pattern}
use Rattle.compile_defines.specs.Repeating.{choice_pattern, further, group_pattern, repeated, repeated_within}
use Rattle.compile_defines.specs.Compiled.{content_throughout}
use Rattle.rng_grammar.specs.declared.grammar.Expr.{Expr}
use Rattle.rng_grammar.specs.declared.grammar.Expr.TheVariants as expr
use Rattle.rng_types.specs.declared.bounds.Bounds.{Bounds}
use Rattle.odd_text.specs.Standing.{StandsIn}

-- it holds of what is made of patterns of which it holds; nothing is said of texts, references, lists and values
pub record IsClosed (Good : Expr → Type 0) : Type 0 where
  pub empty : Good expr.Empty
  pub not_allowed : Good expr.NotAllowed
  pub group : (p q : Expr) (ps : List Expr) → All Good (p ∷ q ∷ ps) → Good (expr.Group (p ∷ q ∷ ps))
  pub choice : (p q : Expr) (ps : List Expr) → All Good (p ∷ q ∷ ps) → Good (expr.Choice (p ∷ q ∷ ps))
  pub optional : (p : Expr) → Good p → Good (expr.Optional p)
  pub zero_or_more : (p : Expr) → Good p → Good (expr.ZeroOrMore p)
  pub one_or_more : (p : Expr) → Good p → Good (expr.OneOrMore p)

module _ (Good : Expr → Type 0) (closed : IsClosed Good) where
  -- of a group and a choice of any number of patterns

  pub group_good : (ps : List Expr) → All Good ps → Good (group_pattern ps)
  group_good [] all = closed.empty
  group_good (p ∷ []) all = All-head Good p [] all
  group_good (p ∷ q ∷ ps) all = closed.group p q ps all

  pub choice_good : (ps : List Expr) → All Good ps → Good (choice_pattern ps)
  choice_good [] all = closed.not_allowed
  choice_good (p ∷ []) all = All-head Good p [] all
  choice_good (p ∷ q ∷ ps) all = closed.choice p q ps all

  -- of a choice of references to elements
  pub references_good : (idents : List (List ℕ)) → ((ident : List ℕ) → StandsIn idents ident → Good (reference ident)) → Good (references_pattern idents)
  references_good idents each = choice_good (map reference idents) (All-map Good reference idents (each_stands (λ ident. Good (reference ident)) idents each))

  -- of what may stand after the least number of times
  further_good : (part : Expr) (min : ℕ) (max : Option ℕ) → Good part → All Good (further part min max)
  further_good part min None h = All-cons Good (expr.ZeroOrMore part) [] (closed.zero_or_more part h) (All-nil Good)
  further_good part min (Some max) h = All-replicate Good (max - min) (expr.Optional part) (closed.optional part h)

  -- of a group of what must stand and what may
  several_good : (part : Expr) (min : ℕ) (max : Option ℕ) → Good part → Good (group_pattern (replicate min part ++ further part min max))
  several_good part min max h =
      group_good (replicate min part ++ further part min max)
      (All-append Good (replicate min part) (further part min max) (All-replicate Good min part h) (further_good part min max h))

  -- by the bounds
  within_good : (part : Expr) (min : ℕ) (max : Option ℕ) → Good part → Good (repeated_within part min max)
  within_good part zero max h = several_good part zero max h
  within_good part (suc zero) None h = closed.one_or_more part h
  within_good part (suc zero) (Some max) h = several_good part (suc zero) (Some max) h
  within_good part (suc (suc min)) max h = several_good part (suc (suc min)) max h

  pub repeated_good : (part : Expr) (b : Bounds) → Good part → Good (repeated part b)
  repeated_good part b h = within_good part b.min b.max h

-- what holds of a reference to a name, and of what is made of patterns of which it holds, holds of any number of texts and such references
pub throughout_good : (Good : Expr → Type 0) → IsClosed Good → Good expr.Text → (name : List ℕ) → Good (expr.Ref name) → Good (content_throughout name)
throughout_good Good closed text name h =
    let parts = expr.Text ∷ expr.Ref name ∷ [] in
    closed.zero_or_more (expr.Choice parts)
    (closed.choice expr.Text (expr.Ref name) [] (All-cons Good expr.Text (expr.Ref name ∷ []) text (All-cons Good (expr.Ref name) [] h (All-nil Good))))
