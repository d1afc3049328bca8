use Rattle.std.proofs.Common.{refl, sym, ◌∙◌}
use Rattle.std.proofs.lemmas.Bool.{both_ways}
use Rattle.std.proofs.lemmas.Result.{on_ok_weaker}
use Rattle.odd_items.proofs.ConstraintPlaces.{IsOne, inside_none, inside_put, none_put, one_put}
use Rattle.odd_items.specs.Constraints.{AddsPlaces, IsConstraint}
use Rattle.odd_decls.proofs.Constraints.{item_put}
use Rattle.odd_decls.proofs.aside.add_item.Goals.{then-is_constraint+in_ok-insert, else-is_constraint}
use Rattle.odd_decls.proofs.aside.add_item.Goals as goal

pub returns-in-Some : goal.returns-in-Some
returns-in-Some c = λ told.
    let item = c.args.item.now.tree.now in
    let old = c.args.places.now in
    let between = c.if-is_constraint.places in
    let new = c.add_constraints.new.places in
    let one : AddsPlaces (IsOne (IsConstraint item) item) old.keys between.keys = elim c.if-is_constraint.branch [
      | then-is_constraint+in_ok-insert w ↦
          one_put (IsConstraint item) item old w.insert.new.self between (c.is_constraint.ensures.0 w.if-is_constraint.true) w.in_ok-insert.ensures.updates.0 w.places-is
      | else-is_constraint w ↦ none_put (IsConstraint item) item old between (λ k. both_ways _ w.if-is_constraint.false (c.is_constraint.ensures.1 k)) w.places-is
    ] in
    on_ok_weaker c.add_constraints.result
    (λ adds. item_put item old.keys between.keys new.keys one (inside_put _ item between c.in-Some.element new new (sym told ∙ c.in-Some.is) adds refl)) c.add_constraints.ensures

pub returns-in-None : goal.returns-in-None
returns-in-None c = λ told.
    let item = c.args.item.now.tree.now in
    let old = c.args.places.now in
    let between = c.if-is_constraint.places in
    let one : AddsPlaces (IsOne (IsConstraint item) item) old.keys between.keys = elim c.if-is_constraint.branch [
      | then-is_constraint+in_ok-insert w ↦
          one_put (IsConstraint item) item old w.insert.new.self between (c.is_constraint.ensures.0 w.if-is_constraint.true) w.in_ok-insert.ensures.updates.0 w.places-is
      | else-is_constraint w ↦ none_put (IsConstraint item) item old between (λ k. both_ways _ w.if-is_constraint.false (c.is_constraint.ensures.1 k)) w.places-is
    ] in
    item_put item old.keys between.keys between.keys one (inside_none _ item between between (sym told ∙ c.in-None.is) refl)
