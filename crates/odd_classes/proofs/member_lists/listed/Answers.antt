use Rattle.std.proofs.Common.{sym, ap, ◌∙◌, arith}
use Rattle.std.proofs.lemmas.Bool.{false≢true}
use Rattle.std.proofs.lemmas.Option.{same_Some}
use Rattle.odd_library.specs.Odd.{element_key}
use Rattle.odd_library.specs.declared.library.Component.TheVariants as component
use Rattle.odd_classes.proofs.Listed.{element_more, none_listed, none_more, all_listed, are_listed}
use Rattle.odd_classes.proofs.Places.{entry_here}
use Rattle.odd_classes.proofs.Thinning.{listed_alike}
use Rattle.odd_classes.proofs.member_lists.listed.Goals.{then-is_element+in_ok-classes+in_ok-count+in-Some, else-is_element}
use Rattle.odd_classes.proofs.member_lists.listed.Goals as goal

pub loop-place-init : goal.loop-place-init
loop-place-init c =
    let none = none_listed c.args.library.now.parts c.in_ok-arrows.arrows.items _ (rw c.entries-entries.ensures.all at c.in_ok-lists.ensures) in
    (rw c.as_slice.ensures.value at c.in_ok-marks.ensures, none.0, omega (arith, none.1))

pub reached-requires : goal.reached-requires
reached-requires c = rw c.as_slice-then-is_element.ensures.value c.loop-place.invariant.0

pub returns-in_default-clause-more : goal.returns-in_default-clause-more
returns-in_default-clause-more c =
    let all = c.entries-entries.ensures.all in
    let up = c.entries-entries.ensures.rising in
    let there = entry_here _ _ _ (rw all at c.loop-place-test.true) (rw all at c.index-entries-place.is) in
    let nodes = rw c.as_slice-then-is_element.ensures.value at c.in_ok-classes.ensures.nodes in
    let has = rw (all, c.as_slice-then-is_element-2.ensures.value) at c.in_ok-count.ensures.listed in
    let more = element_more _ _ _ _ c.loop-place.invariant.1 up _ there (c.is_element.ensures.0 c.if-is_element.true) _ _ nodes has in
    let alike = rw all at c.in_ok-arrows.ensures in
    λ _. (_, are_listed c.args.library.now up _ c.requires _ _ (listed_alike _ _ _ _ _ alike more), omega (arith, c.in_ok-count.ensures.count, c.in_default.ensures, c.loop-place.invariant.2))

pub loop-place-preserved : goal.loop-place-preserved
loop-place-preserved c =
    let all = c.entries-entries.ensures.all in
    let up = c.entries-entries.ensures.rising in
    let there = entry_here _ _ _ (rw all at c.loop-place-test.true) (rw all at c.index-entries-place.is) in
    elim c.if-is_element.branch [
      | then-is_element+in_ok-classes+in_ok-count+in-Some w ↦
          let nodes = rw w.as_slice-then-is_element.ensures.value at w.in_ok-classes.ensures.nodes in
          let has = rw (all, w.as_slice-then-is_element-2.ensures.value) at w.in_ok-count.ensures.listed in
          let more = element_more _ _ _ _ c.loop-place.invariant.1 up _ there (c.is_element.ensures.0 w.if-is_element.true) _ _ nodes has in
          rw (w.marks-is, w.lists-is, w.left-is)
          (rw w.as_slice-then-is_element.ensures.value at w.in_ok-classes.ensures.clear, more, omega (arith, w.in_ok-count.ensures.count, w.in-Some.ensures, c.loop-place.invariant.2))
      | else-is_element w ↦
          let none = none_more _ _ _ _ c.loop-place.invariant.1 (λ ident part m.
          let e = same_Some _ _ (sym there ∙ m) in
          false≢true (sym w.if-is_element.false ∙ c.is_element.ensures.1 (part, e ∙ ap (λ x. (element_key x, component.Element part)) (ap (λ x. x.0.ident) (sym e))))) in
          rw (w.marks-is, w.lists-is, w.left-is) (c.loop-place.invariant.0, none, c.loop-place.invariant.2)
    ]

pub returns-clause-lists : goal.returns-clause-lists
returns-clause-lists c =
    let all = c.entries-entries.ensures.all in
    let alike = rw all at c.in_ok-arrows.ensures in
    all_listed c.args.library.now c.entries-entries.ensures.rising _ c.requires _ _ (listed_alike _ _ _ _ _ alike c.loop-place.invariant.1) (rw all at c.loop-place-test.false)

pub returns-clause-within : goal.returns-clause-within
returns-clause-within c = omega (arith, c.loop-place.invariant.2)
