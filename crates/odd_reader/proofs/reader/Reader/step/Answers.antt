use Rattle.std.proofs.Common.{sym, ◌∙◌}
use Rattle.odd_reader.proofs.reader.Reader.step.Goals as goal

pub markup-requires-clause-inside : goal.markup-requires-clause-inside
markup-requires-clause-inside c =
    record { between = λ fresh at read r. (c.is_between.ensures fresh at read r).0 c.if-not-is_between.false; inside = sym c.is_inside.ensures ∙ c.if-not-is_inside.false }

pub text-requires-clause-inside : goal.text-requires-clause-inside
text-requires-clause-inside c =
    record { between = λ fresh at read r. (c.is_between.ensures fresh at read r).0 c.if-not-is_between.false; inside = sym c.is_inside.ensures ∙ c.if-not-is_inside.false }
