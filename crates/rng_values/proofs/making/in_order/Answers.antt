use Rattle.std.proofs.Common.{Some, None, [], ◌∷◌, ◌++◌, ◌∙◌, ap, sym}
use Rattle.std.proofs.lemmas.List.{append-nil}
use Rattle.rng_types.specs.declared.facet.Facet.{Facet}
use Rattle.rng_values.proofs.InOrder.{all_made, made_more}
use Rattle.rng_values.proofs.making.in_order.Goals as goal
use Rattle.rng_values.proofs.making.in_order.Goals.{in-Some+in_ok-value+in_ok-push, in_default}

pub loop-name-preserved : goal.loop-name-preserved
loop-name-preserved c =
    let before = c.loop-name.made in
    let more = made_more c.args.facets.now c.loop-name.name-index _ before c.match-first_of.made in
    elim c.match-first_of.branch [
      | in-Some+in_ok-value+in_ok-push w ↦
          more (Some w.in-Some.facet.now) c.loop-name.invariant c.loop-name-test.true w.in-Some.ensures
          (w.made-is ∙ w.in_ok-push.ensures.ok ∙ ap (λ v. let made : Facet = record { name = _; value = v } in before ++ made ∷ []) w.in_ok-value.ensures)
      | in_default w ↦ more None c.loop-name.invariant c.loop-name-test.true w.in_default.ensures (w.made-is ∙ sym (append-nil before))
    ]

pub returns : goal.returns
returns c = all_made c.args.facets.now c.loop-name.name-index c.loop-name.made c.loop-name-test.false c.loop-name.invariant
