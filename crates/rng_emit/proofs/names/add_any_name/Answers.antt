use Rattle.std.proofs.Common.{map, sym, ◌∙◌}
use Rattle.std.proofs.lemmas.Bool.{false≢true}
use Rattle.std.proofs.lemmas.Result.{on_ok_weaker}
use Rattle.odd_printing.proofs.Shapes.{none_of_two}
use Rattle.rng_emit.specs.Grammar.{name_markup, space_markup}
use Rattle.rng_emit.proofs.Shapes.{any_name}
use Rattle.rng_emit.proofs.names.add_any_name.Goals as goal

pub returns : goal.returns
returns c =
    let spaces = c.args.spaces.now in
    let names = c.args.names.now in
    on_ok_weaker c.add_end_tag-2.result
    (any_name c.args.out.now (map space_markup spaces) (map name_markup names)
    (λ p. false≢true (sym c.if-except_none.false ∙ c.except_none.ensures.1 (none_of_two space_markup name_markup spaces names p)))
    c.add_start_tag.new.out c.add_start_tag-2.new.out c.add_excepted_spaces.new.out c.add_excepted_names.new.out c.add_end_tag.new.out c.add_end_tag-2.new.out
    c.in_ok-add_start_tag.ensures c.in_ok-add_start_tag-2.ensures c.in_ok-add_excepted_spaces.ensures c.in_ok-add_excepted_names.ensures c.in_ok-add_end_tag.ensures.ok)
    c.add_end_tag-2.ensures.ok
