use Rattle.std.proofs.Common.{◌↔◌, IsTrue, ap, codes, subst}
use Rattle.std.specs.List.{Contains}
use Rattle.odd_items.proofs.ConstraintPlaces.{word_among}
use Rattle.odd_items.proofs.constraints.leaves_out_constraints.Goals as goal

pub returns : goal.returns
returns c =
    subst (λ words. IsTrue c.contains.result ↔ Contains words (codes "constraintSpec")) (ap (λ f. f.left_out_children) c.form.ensures)
    (word_among c.form.result.now.left_out_children.now (codes "constraintSpec") c.contains.result c.contains.ensures.value)
