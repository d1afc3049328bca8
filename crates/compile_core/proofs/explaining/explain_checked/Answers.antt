use Rattle.std.proofs.Common.{Some, ap, sym, ◌∙◌}
use Rattle.compile_core.proofs.explaining.explain_checked.Goals as goal

pub returns-clause-account : goal.returns-clause-account
returns-clause-account c = record {
  part = c.in-Some-Element.part;
  held = rw c.library.ensures.same at (sym c.in-Some-Element.ensures ∙ ap Some c.in-Some-Element.field-0-is);
  classes = c.in_ok-classes.classes;
  are_classes = c.in_ok-classes.ensures;
  offers = c.in-Some.offers;
  are_offers = rw c.in-Some.is at c.in_ok-offers.ensures;
  printed = c.in_ok-account.ensures;
}
