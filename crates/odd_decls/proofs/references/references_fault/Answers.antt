use Rattle.std.proofs.Common.{true, cond, not, ap, subst, sym, ◌∙◌}
use Rattle.std.proofs.Math.Bool.{not-not}
use Rattle.std.proofs.lemmas.List.{take_all}
use Rattle.std.specs.BTreeMap.{is_at}
use Rattle.std.specs.Option.{option_copied}
use Rattle.odd_text.specs.Text.{text_cmp}
use Rattle.odd_decls.proofs.FirstFault.{BreaksAt, none_breaks}
use Rattle.odd_decls.proofs.ReferencesFirst.{Wrongly, references_first, references_more, references_same}
use Rattle.odd_decls.proofs.TargetFaults.{has_text, targets_more, targets_none, targets_same}
use Rattle.odd_decls.specs.Faults.{IsFirstIn}
use Rattle.odd_decls.proofs.references.references_fault.Goals.{in-Some+in_ok-again+in_ok-rule, in_default}
use Rattle.odd_decls.proofs.references.references_fault.Goals as goal

pub loop-item-init : goal.loop-item-init
loop-item-init c = record {
  targets = λ target. targets_none c.new-targets.result target c.new-targets.ensures.empty;
  is_first = λ t are. none_breaks (Wrongly t c.in_ok-standing.standing);
}

pub loop-item-preserved : goal.loop-item-preserved
loop-item-preserved c =
    let items = c.deref-item-items.result.now in
    let i = c.loop-item.item-index in
    let item = c.item-item.result in
    elim c.match-target_of.branch [
      | in-Some+in_ok-again+in_ok-rule w ↦
          let word = w.in-Some.target.now in
          let has = sym c.target_of.ensures ∙ ap option_copied w.in-Some.is in
          let had = has_text c.loop-item.targets word in
          let same = ap not w.in_ok-again.ensures.added ∙ not-not (has_text c.loop-item.targets w.as_str.result.now) ∙ ap (has_text c.loop-item.targets) w.as_str.ensures in
          record {
            targets = λ target.
                rw w.targets-is
                (targets_more items i item c.loop-item-test.true c.item-item.is word target (has_text c.loop-item.targets target) _ has
                (w.in_ok-again.ensures.updates.0 (record { ref_ptr = w.as_str.result.ref_ptr; now = target })
                ∙ ap (λ m. cond (is_at (text_cmp m) target) true (has_text c.loop-item.targets target)) w.as_str.ensures) (c.loop-item.invariant.targets target));
            is_first = λ t are.
                rw w.first-is
                (references_more t c.in_ok-standing.standing items i item c.loop-item.first c.loop-item-test.true c.item-item.is (c.loop-item.invariant.is_first t are) word _ had
                w.in_ok-rule.rule _ _ has same (c.loop-item.invariant.targets word) (w.in_ok-rule.ensures t are) w.fault_of.ensures w.lesser-first.ensures);
          }
      | in_default w ↦
          let none = sym c.target_of.ensures ∙ ap option_copied w.in_default.is in
          record {
            targets = λ target. rw w.targets-is (targets_same items i item c.loop-item-test.true c.item-item.is target _ none (c.loop-item.invariant.targets target));
            is_first = λ t are.
                rw w.first-is
                (references_same t c.in_ok-standing.standing items i item c.loop-item.first c.loop-item-test.true c.item-item.is (c.loop-item.invariant.is_first t are) none);
          }
    ]

pub returns : goal.returns
returns c t first end formed are =
    let items = c.args.of.now.items.items in
    let places = c.in_ok-standing.standing in
    let standing = rw c.as_slice.ensures.value at c.in_ok-standing.ensures in
    references_first first end t formed are.schemas are.finds c.args.of.now.levels.items items are.items are.rises places standing c.loop-item.first
    (subst (λ xs. IsFirstIn (BreaksAt (Wrongly t places) xs) c.loop-item.first)
    (take_all c.loop-item.item-index c.deref-item-items.result.now c.loop-item-test.false ∙ c.deref-item-items.ensures.value) (c.loop-item.invariant.is_first t are.groups))
