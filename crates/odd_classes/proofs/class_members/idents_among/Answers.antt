use Rattle.std.proofs.Common.{◌<◌, length, get_or, subst, arith}
use Rattle.std.proofs.lemmas.List.{take_all}
use Rattle.std.proofs.lemmas.Option.{slice_get_within}
use Rattle.odd_classes.proofs.TableMembers.{AreThose, entry_more, those_none}
use Rattle.odd_classes.proofs.Places.{found_here}
use Rattle.odd_classes.specs.Placing.{IsIdentAt}
use Rattle.odd_classes.proofs.class_members.idents_among.Goals.{in-Some+in_ok-copy+in_ok-push, in_default}
use Rattle.odd_classes.proofs.class_members.idents_among.Goals as goal

pub loop-place-preserved : goal.loop-place-preserved
loop-place-preserved c =
    let within = c.loop-place-test.true in
    let place = get_or c.args.places.now c.loop-place.place-index 0 in
    elim c.match-get.branch [
      | in-Some+in_ok-copy+in_ok-push w ↦
          let at = found_here c.args.entries.now place w.in-Some.entry.now w.in-Some.ensures.lookup.3 in
          rw (w.idents-is, w.in_ok-push.ensures.ok, w.in_ok-copy.ensures) (entry_more _ _ _ _ within w.in-Some.entry.now at c.loop-place.invariant)
      | in_default w ↦
          rw w.idents-is (those_none (IsIdentAt c.args.entries.now) _ _ _ c.loop-place.invariant within (λ ident m.
          let inside : place < length c.args.entries.now = slice_get_within c.args.entries.now place (m.0, m.1.0) m.1.1 in
          omega (arith, inside, w.in_default.ensures.lookup.3)))
    ]

pub returns : goal.returns
returns c = subst (λ xs. AreThose (IsIdentAt c.args.entries.now) xs c.loop-place.idents) (take_all _ c.args.places.now c.loop-place-test.false) c.loop-place.invariant
