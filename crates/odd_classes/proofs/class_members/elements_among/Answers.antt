use Rattle.std.proofs.Common.{◌<◌, length, get_or, sym, subst, ap, arith, ◌∙◌}
use Rattle.std.proofs.lemmas.Bool.{false≢true}
use Rattle.std.proofs.lemmas.List.{take_all}
use Rattle.std.proofs.lemmas.Option.{same_Some, slice_get_within}
use Rattle.odd_library.specs.Odd.{element_key}
use Rattle.odd_library.specs.declared.library.Component.TheVariants as component
use Rattle.odd_classes.proofs.TableMembers.{AreAmong, IsElementAt, element_more, those_none}
use Rattle.odd_classes.proofs.Places.{found_here}
use Rattle.odd_classes.proofs.class_members.elements_among.Goals.{in-Some+then-is_element+in_ok-copy+in_ok-push, in-Some+else-is_element, in_default}
use Rattle.odd_classes.proofs.class_members.elements_among.Goals as goal

pub loop-place-preserved : goal.loop-place-preserved
loop-place-preserved c =
    let within = c.loop-place-test.true in
    let place = get_or c.args.places.now c.loop-place.place-index 0 in
    elim c.match-get.branch [
      | in-Some+then-is_element+in_ok-copy+in_ok-push w ↦
          let at = found_here c.args.entries.now place w.in-Some.entry.now w.in-Some.ensures.lookup.3 in
          let part = w.is_element.ensures.0 w.if-is_element.true in
          rw (w.idents-is, w.in_ok-push.ensures.ok, w.in_ok-copy.ensures) (element_more _ _ _ _ within w.in-Some.entry.now at c.loop-place.invariant part.0 part.1)
      | in-Some+else-is_element w ↦
          let at = found_here c.args.entries.now place w.in-Some.entry.now w.in-Some.ensures.lookup.3 in
          rw w.idents-is (those_none (IsElementAt c.args.entries.now) _ _ _ c.loop-place.invariant within (λ ident m.
          let e = same_Some _ _ (sym at ∙ m.1) in
          false≢true (sym w.if-is_element.false ∙ w.is_element.ensures.1 (m.0, e ∙ ap (λ x. (element_key x, component.Element m.0)) (ap (λ x. x.0.ident) (sym e))))))
      | in_default w ↦
          rw w.idents-is (those_none (IsElementAt c.args.entries.now) _ _ _ c.loop-place.invariant within (λ ident m.
          let inside : place < length c.args.entries.now = slice_get_within c.args.entries.now place (element_key ident, component.Element m.0) m.1 in
          omega (arith, inside, w.in_default.ensures.lookup.3)))
    ]

pub returns : goal.returns
returns c =
    let all = subst (λ xs. AreAmong c.args.entries.now xs c.loop-place.idents) (take_all _ c.args.places.now c.loop-place-test.false) c.loop-place.invariant in
    λ ident. (λ s. let m = (all ident).0 s in (m.0, m.1.0, m.1.1, m.2), λ m. (all ident).1 (m.0, (m.1, m.2), m.3))
