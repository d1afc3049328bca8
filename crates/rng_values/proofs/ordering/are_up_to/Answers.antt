use Rattle.std.proofs.Common.{◌↔◌, ◌≤◌, ◌∙◌, Bool, IsTrue, ap, subst, sym}
use Rattle.std.specs.Ordering.{is_le}
use Rattle.std.specs.Str.Parse.{digits_value}
use Rattle.rng_values.proofs.Ordered.{by_count, by_digits}
use Rattle.rng_values.proofs.ordering.are_up_to.Goals as goal

pub returns-then-digits-others : goal.returns-then-digits-others
returns-then-digits-others c =
    let Told : Bool → Type 0 = λ r. IsTrue r ↔ (digits_value 10 c.args.digits.now ≤ digits_value 10 c.args.others.now) in
    subst Told (sym (c.is_le.ensures ∙ ap is_le c.cmp.ensures)) (by_digits c.args.digits.now c.args.others.now c.requires.digits c.requires.others c.if-digits-others.true)

pub returns-else-digits-others : goal.returns-else-digits-others
returns-else-digits-others c = by_count c.args.digits.now c.args.others.now c.requires.digits c.requires.others c.if-digits-others.false
