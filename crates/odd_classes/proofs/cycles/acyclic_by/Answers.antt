use Rattle.std.proofs.Common.{◌≡◌, sym}
use Rattle.odd_classes.specs.Placing.{keys_by}
use Rattle.odd_classes.proofs.Linked.{entry_of_key, first_loops, none_loops}
use Rattle.odd_classes.proofs.cycles.acyclic_by.Goals as goal

pub returns-in_default-clause-none : goal.returns-in_default-clause-none
returns-in_default-clause-none c = λ ok.
    none_loops (keys_by c.args.link) c.args.library.now c.entries-entries.ensures.rising _ (rw c.entries-entries.ensures.all at c.in_ok-arrows.ensures)
    (rw (c.as_slice.ensures.value, c.in_default.is) at c.in_ok-place.ensures)

pub returns-in_ok-copy-in-Some-key-clause-first : goal.returns-in_ok-copy-in-Some-key-clause-first
returns-in_ok-copy-in-Some-key-clause-first c = λ key given is.
    let same : c.in-Some-key.key.now ≡ key = cc c.in_ok-copy-in-Some-key.ensures in
    let entry = entry_of_key c.args.library.now.parts c.in-Some.place c.in-Some-key.key.now c.in-Some-key.ensures.value in
    rw (sym same)
    (first_loops (keys_by c.args.link) c.args.library.now c.entries-entries.ensures.rising _ (rw c.entries-entries.ensures.all at c.in_ok-arrows.ensures) c.in-Some.place _ entry.0
    (rw (c.as_slice.ensures.value, c.in-Some.is) at c.in_ok-place.ensures) entry.1)
