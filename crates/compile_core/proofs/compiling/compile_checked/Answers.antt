use Rattle.std.proofs.Common.{◌<◌, arith, subst}
use Rattle.std.proofs.lemmas.Grind.{common_steps}
use Rattle.compile_defines.specs.Compiled.{HoldsStart}
use Rattle.compile_laws.proofs.Correct.{accepts_admitted}
use Rattle.compile_core.proofs.Plain.{apart, plain}
use Rattle.compile_core.proofs.SchemaText.{schema_text}
use Rattle.compile_core.proofs.TooLarge.{nodes_pass}
use Rattle.compile_core.proofs.compiling.compile_checked.Goals as goal

pub linked_nodes-requires : goal.linked_nodes-requires
linked_nodes-requires c = apart c.args.library.now c.args.start.now c.in_ok-grammar.grammar c.library.ensures.unbroken c.in_ok-grammar.ensures.grammar

pub returns-then-branch-gt-MOST_NODES-clause-too_large : goal.returns-then-branch-gt-MOST_NODES-clause-too_large
returns-then-branch-gt-MOST_NODES-clause-too_large c = λ e.
    let grammar = c.in_ok-grammar.grammar in
    let over : 4000000 < c.in_ok-linked_nodes.field-0 = grind (arith, common_steps) in
    record {
      holds_start = subst (λ library. HoldsStart library c.args.start.now) c.library.ensures.same c.in_default.ensures;
      grammar = grammar;
      is_grammar = c.in_ok-grammar.ensures.grammar;
      too_large = nodes_pass grammar c.in_ok-linked_nodes.field-0 c.in_ok-linked_nodes.ensures over;
    }

pub returns-clause-text : goal.returns-clause-text
returns-clause-text c = schema_text c.args.library.now c.args.start.now c.in_ok-grammar.grammar c.in_ok-grammar.ensures.grammar

pub returns-clause-plain : goal.returns-clause-plain
returns-clause-plain c = λ f. plain c.args.library.now c.args.start.now c.in_ok-grammar.grammar f c.library.ensures.unbroken (subst (λ library. HoldsStart library c.args.start.now) c.library.ensures.same c.in_default.ensures) c.in_ok-grammar.ensures.grammar

pub returns-clause-accepts : goal.returns-clause-accepts
returns-clause-accepts c = λ f t. accepts_admitted c.args.library.now c.args.start.now c.in_ok-grammar.grammar f c.library.ensures.unbroken c.in_ok-grammar.ensures.grammar t
