use Rattle.std.proofs.Common.{◌≡◌, ◌∙◌, sym, ap, arith}
use Rattle.odd_meaning.specs.Values.{bounds_of}
use Rattle.rng_grammar.specs.declared.grammar.Expr.TheVariants as expr
use Rattle.compile_defines.proofs.DataElements.{list_elements, piece_in_value, value_listed}
use Rattle.compile_defines.proofs.Taking.{making_refused}
use Rattle.compile_defines.specs.Budget.{pattern_elements}
use Rattle.compile_defines.specs.Data.{piece_pattern, value_pattern}
use Rattle.compile_defines.specs.Repeating.{repeated}
use Rattle.compile_defines.proofs.data.value_pattern.Goals.{in-Some, in-None}
use Rattle.compile_defines.proofs.data.value_pattern.Goals as goal

pub returns-in_err-piece : goal.returns-in_err-piece
returns-in_err-piece c =
    let def = c.args.def.now in
    let bounds : c.match-def.bounds ≡ bounds_of def.datatype = elim c.match-def.branch [
      | in-Some w ↦ w.bounds-is ∙ sym (ap bounds_of w.in-Some.is)
      | in-None w ↦ w.bounds-is ∙ sym (ap bounds_of w.in-None.is)
    ] in
    let within = piece_in_value def c.match-def.bounds bounds (sym c.eq.ensures ∙ c.if-eq.false) (sym c.is_never.ensures ∙ c.if-is_never.false) in
    making_refused pattern_elements (value_pattern def) (pattern_elements (piece_pattern def.datatype def.vals)) c.args.budget.now c.args.budget.now _ (λ less. omega arith)
    _ c.in_err-piece.ensures c.from_residual-in_err-piece.result c.from_residual-in_err-piece.ensures.1

pub returns : goal.returns
returns c =
    let def = c.args.def.now in
    let bounds : c.match-def.bounds ≡ bounds_of def.datatype = elim c.match-def.branch [
      | in-Some w ↦ w.bounds-is ∙ sym (ap bounds_of w.in-Some.is)
      | in-None w ↦ w.bounds-is ∙ sym (ap bounds_of w.in-None.is)
    ] in
    let made = c.in_ok-pieces.ensures.0 ∙ ap (λ piece. repeated piece c.match-def.bounds) c.in_ok-piece.ensures.0 in
    let is = ap expr.List made ∙ sym (value_listed def c.match-def.bounds bounds (sym c.eq.ensures ∙ c.if-eq.false)) in
    let whole = sym (list_elements c.in_ok-pieces.pieces) ∙ ap pattern_elements is in
    let inside = ap pattern_elements c.in_ok-pieces.ensures.0 in
    (ap expr.List c.in_ok-new-2.ensures ∙ is, omega (arith, c.in_ok-take.ensures.taken, c.in_ok-pieces.ensures.1))
