use Rattle.std.proofs.Common.{◌+◌, ◌∙◌, sym, ap, arith}
use Rattle.rng_grammar.specs.Denoting.{read_as}
use Rattle.rng_grammar.specs.declared.grammar.Expr.TheVariants as expr
use Rattle.compile_defines.proofs.DataElements.{typed_elements}
use Rattle.compile_defines.proofs.Taking.{making_refused}
use Rattle.compile_defines.specs.Budget.{pattern_elements}
use Rattle.compile_defines.specs.Data.{item_pattern}
use Rattle.compile_defines.proofs.data.item_pattern.Goals as goal

pub returns-in_err-take_over-in-Typed : goal.returns-in_err-take_over-in-Typed
returns-in_err-take_over-in-Typed c =
    let whole = ap (λ item. pattern_elements (item_pattern item)) c.in-Typed.is ∙ typed_elements (read_as c.in-Typed.kind) c.in-Typed.facets in
    let many = c.len.ensures in
    making_refused pattern_elements (item_pattern c.args.item.now) (c.len.result + 1) c.args.budget.now c.args.budget.now _ (λ less. omega arith)
    _ c.in_err-take_over-in-Typed.ensures.taken c.from_residual.result c.from_residual.ensures.1

pub returns-in_ok-copy-in-Typed : goal.returns-in_ok-copy-in-Typed
returns-in_ok-copy-in-Typed c =
    let whole = ap (λ item. pattern_elements (item_pattern item)) c.in-Typed.is ∙ typed_elements (read_as c.in-Typed.kind) c.in-Typed.facets in
    let many = c.len.ensures in
    ((λ i. expr.Typed (c.written_as.ensures i) (c.in_ok-copy-in-Typed.ensures i)) ∙ sym (ap item_pattern c.in-Typed.is), omega (arith, c.in_ok-take_over-in-Typed.ensures.taken))
