use Rattle.std.proofs.Common.{subst, sym}
use Rattle.std.proofs.lemmas.Result.{IfOk-weaker}
use Rattle.odd_items.proofs.ConstraintsLeft.{constraints_gone}
use Rattle.odd_items.specs.Constraints.{AddsPlaces, IsConstraintIn}
use Rattle.odd_forms.specs.declared.element.Element.TheVariants as element
use Rattle.odd_attributes.specs.Giving.{IsListRead, whole, without}
use Rattle.odd_attributes.proofs.reading.list_fault.Goals as goal

pub returns-then-not-aside : goal.returns-then-not-aside
returns-then-not-aside c = λ first end formed.
    let list = c.args.tree.now in
    let is : IsListRead list c.args.aside list = subst (λ b. IsListRead list b list) (sym c.if-not-aside.true) whole in
    IfOk-weaker c.deep_fault.result _ _ (λ fault least. (list, is, least)) c.deep_fault.ensures

pub returns : goal.returns
returns c = λ first end formed.
    let list = c.args.tree.now in
    let left = c.in_ok-left.left in
    let places = c.add_constraints.new.places.keys in
    let gone = c.in_ok-left.ensures in
    let adds = subst (λ keys. AddsPlaces (IsConstraintIn element.AttList list) keys places) c.new-places.ensures.empty c.in_ok-add_constraints.ensures in
    let without_them = constraints_gone first end element.AttList list left places gone.0 (formed c.if-not-aside.false) adds gone.1 in
    let is : IsListRead list c.args.aside left = subst (λ b. IsListRead list b left) (sym c.if-not-aside.false) (without without_them) in
    IfOk-weaker c.deep_fault-2.result _ _ (λ fault least. (left, is, least)) c.deep_fault-2.ensures
