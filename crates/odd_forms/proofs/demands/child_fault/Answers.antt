use Rattle.std.proofs.Common.{◌≡◌, ◌&&◌, not, map, rules}
use Rattle.odd_tree.specs.Elements.{given}
use Rattle.odd_forms.specs.Faults.{has_named}
use Rattle.odd_forms.specs.Words.{is_given_among}
use Rattle.odd_forms.proofs.Values.{needed_child_least}
use Rattle.odd_forms.proofs.demands.child_fault.Goals as goal

pub returns : goal.returns
returns c = λ binds.
    let tree = c.args.tree.now in
    let by = c.args.by.now in
    let words = map (λ w. w.now) c.args.words.now in
    let test : c.if-not-has_named.fault_where ≡ (not (has_named c.args.element tree) && not (is_given_among words (given tree by))) = search rules in
    rw (c.fault_where.ensures, test) (needed_child_least binds tree c.args.element by words)
