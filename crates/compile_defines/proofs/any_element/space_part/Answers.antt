use Rattle.std.proofs.Common.{◌≡◌, ◌+◌, ◌∙◌, length, ap, arith}
use Rattle.std.specs.List.{filter}
use Rattle.odd_text.specs.Same.{is_same}
use Rattle.rng_grammar.specs.declared.grammar.NsPart.{NsPart}
use Rattle.compile_defines.proofs.Taking.{making_refused}
use Rattle.compile_defines.proofs.NameElements.{part_is}
use Rattle.compile_defines.specs.Elements.{excepting_elements, part_elements}
use Rattle.compile_defines.proofs.any_element.space_part.Goals as goal

pub returns-in_err-take_excepting : goal.returns-in_err-take_excepting
returns-in_err-take_excepting c =
    let names = c.run_of-names.result.now in
    let part : NsPart = record { ns = c.args.space.now; but = filter (λ n. is_same n.ns c.args.space.now) c.args.by_space.now } in
    let none : 0 + length names ≡ length names = omega arith in
    let whole = ap excepting_elements (none ∙ ap length c.run_of-names.ensures) in
    let all = part_is part in
    making_refused part_elements part (excepting_elements (0 + length names)) c.args.budget.now c.args.budget.now _ (λ less. omega arith)
    _ c.in_err-take_excepting.ensures c.from_residual.result c.from_residual.ensures.1

pub returns : goal.returns
returns c =
    let names = c.run_of-names.result.now in
    let part : NsPart = record { ns = c.args.space.now; but = filter (λ n. is_same n.ns c.args.space.now) c.args.by_space.now } in
    let none : 0 + length names ≡ length names = omega arith in
    let whole = ap excepting_elements (none ∙ ap length c.run_of-names.ensures) in
    let all = part_is part in
    ((λ i. record { ns = c.in_ok-ns.ensures i; but = (c.in_ok-but.ensures ∙ c.run_of-names.ensures) i }), omega (arith, c.in_ok-take_excepting.ensures))
