use Rattle.std.proofs.Common.{refl, sym, subst}
use Rattle.std.proofs.lemmas.Bool.{both_ways}
use Rattle.odd_graph.specs.Marking.{IsMarked}
use Rattle.odd_graph.proofs.Placed.{placed_none}
use Rattle.odd_graph.proofs.ordering.Placing.try_node.Goals.{else-is_marked-via-then-is_marked+else-is_free, else-is_marked-via-else-is_marked}
use Rattle.odd_graph.proofs.ordering.Placing.try_node.Goals as goal

pub place-requires-clause-places : goal.place-requires-clause-places
place-requires-clause-places c =
    (placed_none c.args.self.now c.is_free.new.self (λ _. ⊥) c.requires c.is_free.ensures.same c.is_free.ensures.length (rw c.as_slice-left.ensures.value at c.is_free.ensures.passed)
    (λ _ none. absurd none)).places

pub returns-else-is_marked : goal.returns-else-is_marked
returns-else-is_marked c =
    elim c.else-is_marked.branch [
      | else-is_marked-via-then-is_marked+else-is_free w ↦
          rw w.self-is (placed_none c.args.self.now w.is_free.new.self _ c.requires w.is_free.ensures.same w.is_free.ensures.length (rw c.as_slice-left.ensures.value at w.is_free.ensures.passed)
          (λ tried e. rw (← e) (rw c.as_slice-left.ensures.value at (w.is_free.ensures.held w.if-is_free.false) c.requires.all)))
      | else-is_marked-via-else-is_marked w ↦
          rw w.self-is (placed_none c.args.self.now c.args.self.now.passing _ c.requires refl refl c.requires.passed
          (λ tried e is. absurd (both_ways c.is_marked.result w.if-is_marked.false (c.is_marked.ensures.1 (rw c.as_slice-left.ensures.value (subst (IsMarked c.args.self.now.left.items) (sym e) is))))))
    ]
