use Rattle.std.proofs.Common.{inl, inr, length, ap, ◌∙◌}
use Rattle.std.proofs.lemmas.Bool.{cases_lt}
use Rattle.std.proofs.lemmas.List.{length-replicate}
use Rattle.odd_classes.proofs.Sweeping.{none_exact, none_ready}
use Rattle.odd_classes.proofs.inheriting.Inheriting.new.Goals as goal

pub returns : goal.returns
returns c =
    let library = c.args.library.now in
    let arrows = c.args.arrows.now in
    let order = c.in_ok-order.order.items in
    record {
      entries = c.entries-entries.ensures.all;
      rising = c.entries-entries.ensures.rising;
      graph = c.requires;
      order = c.in_ok-order.ensures.order;
      each = λ node apart. elim (cases_lt node (length arrows)) [
        | inl lt ↦ inl ((c.in_ok-order.ensures.each node).1 (lt, apart))
        | inr ge ↦ inr ge
      ];
      last = rw c.as_slice.ensures.value at c.in_ok-last.ensures;
      of_all = ap length c.in_ok-tables.ensures ∙ length-replicate _ _ ∙ ap length c.entries-entries.ensures.all;
      exact = none_exact library _ c.in_ok-tables.tables.items c.in_ok-tables.ensures;
      ready = none_ready library arrows order c.in_ok-tables.tables.items;
    }
