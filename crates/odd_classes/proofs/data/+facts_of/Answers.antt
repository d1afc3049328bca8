use Rattle.std.proofs.Common.{◌≡◌, ◌↔◌, ◌⊎◌, inl, inr, ⊎_elim, sym, ap, subst, ◌∙◌}
use Rattle.std.proofs.lemmas.Bool.{false≢true}
use Rattle.std.proofs.lemmas.List.{take_all}
use Rattle.std.specs.Prelude.{IsTrue}
use Rattle.odd_content.specs.Formed.{once}
use Rattle.odd_text.proofs.InList.{ends}
use Rattle.odd_classes.proofs.FactsTold.{alternate_facts, no_parts, parts_more, sequence_facts, told_filled}
use Rattle.odd_classes.specs.DataFacts.{HasFactsOfParts}
use Rattle.odd_classes.specs.declared.data.DataFacts.{DataFacts}
use Rattle.odd_classes.proofs.data.+facts_of.Goals.{facts_of-then-facts, facts_of-else-facts, facts_of_parts-then-facts, facts_of_parts-else-facts, facts_of_parts-then-facts-2, facts_of_parts-else-facts-2}
use Rattle.odd_classes.proofs.data.+facts_of.Goals as goal

pub facts_of-returns-in-Sequence : goal.facts_of-returns-in-Sequence
facts_of-returns-in-Sequence t c = rw c.in-Sequence.is (sequence_facts c.args.macros.now.entries c.in-Sequence.parts c.in-Sequence.bounds c.facts_of_parts.result c.facts_of_parts.ensures)

pub facts_of-returns-then-is_once : goal.facts_of-returns-then-is_once
facts_of-returns-then-is_once t c =
    let given = c.facts_of_parts-facts.result in
    let both : IsTrue given.is_data × (c.in-Alternate.bounds ≡ once) = elim c.if-facts.branch [
      | facts_of-then-facts w ↦ (w.if-facts.true, w.is_once.ensures.0 (sym w.value-is ∙ c.if-is_once.true))
      | facts_of-else-facts w ↦ absurd (false≢true (sym w.if-facts.false ∙ sym w.value-is ∙ c.if-is_once.true))
    ] in
    let filled = told_filled c.is_empty.result c.in-Alternate.parts c.is_empty.ensures in
    rw c.in-Alternate.is (alternate_facts c.args.macros.now.entries c.in-Alternate.parts c.in-Alternate.bounds given _ c.facts_of_parts-facts.ensures
    (λ h. (both, filled.0 h), λ s. filled.1 s.1))

pub facts_of-returns-else-is_once : goal.facts_of-returns-else-is_once
facts_of-returns-else-is_once t c =
    let given = c.facts_of_parts-facts.result in
    let not : IsTrue given.is_data × (c.in-Alternate.bounds ≡ once) → ⊥ = λ both. elim c.if-facts.branch as (λ b. ⊥) [
      | facts_of-then-facts w ↦ false≢true (sym c.if-is_once.false ∙ w.value-is ∙ w.is_once.ensures.1 both.1)
      | facts_of-else-facts w ↦ false≢true (sym w.if-facts.false ∙ both.0)
    ] in
    rw c.in-Alternate.is (alternate_facts c.args.macros.now.entries c.in-Alternate.parts c.in-Alternate.bounds given _ c.facts_of_parts-facts.ensures
    (λ h. absurd (false≢true (sym c.if-is_once.false ∙ h)), λ s. absurd (not s.0)))

pub facts_of_parts-loop-part-init : goal.facts_of_parts-loop-part-init
facts_of_parts-loop-part-init t c = no_parts c.args.macros.now.entries

pub facts_of_parts-loop-part-preserved : goal.facts_of_parts-loop-part-preserved
facts_of_parts-loop-part-preserved t c =
    let given = c.loop-part.facts in
    let of_part = c.facts_of-of_part.result in
    let joined : c.if-facts-2.facts.reaches ≡ c.if-facts.facts = elim c.if-facts-2.branch [
      | facts_of_parts-then-facts-2 w ↦ ap (λ (f : DataFacts). f.reaches) w.facts-is
      | facts_of_parts-else-facts-2 w ↦ ap (λ (f : DataFacts). f.reaches) w.facts-is
    ] in
    let one : IsTrue c.if-facts-2.facts.reaches ↔ (IsTrue given.reaches ⊎ IsTrue of_part.reaches) = elim c.if-facts.branch [
      | facts_of_parts-then-facts w ↦ (λ h. inl w.if-facts.true, λ s. joined ∙ w.facts-is ∙ w.if-facts.true)
      | facts_of_parts-else-facts w ↦ (λ h. inr (sym w.facts-is ∙ sym joined ∙ h), λ s. joined ∙ w.facts-is ∙ ⊎_elim (λ g. absurd (false≢true (sym w.if-facts.false ∙ g))) (λ p. p) s)
    ] in
    let both : IsTrue c.if-facts-2.facts.is_data ↔ (IsTrue given.is_data × IsTrue of_part.is_data) = elim c.if-facts-2.branch [
      | facts_of_parts-then-facts-2 w ↦ let is = ap (λ (f : DataFacts). f.is_data) w.facts-is in (λ h. (w.if-facts-2.true, sym is ∙ h), λ p. is ∙ p.1)
      | facts_of_parts-else-facts-2 w ↦
          let is = ap (λ (f : DataFacts). f.is_data) w.facts-is in
          (λ h. absurd (false≢true (sym w.if-facts-2.false ∙ sym is ∙ h)), λ p. absurd (false≢true (sym w.if-facts-2.false ∙ p.0)))
    ] in
    rw (ends c.as_slice-part-items.result.now c.loop-part.part-index c.part-item.result c.loop-part-test.true c.part-item.is)
    (parts_more c.args.macros.now.entries _ c.part-item.result given of_part c.if-facts-2.facts c.loop-part.invariant c.facts_of-of_part.ensures one both)

pub facts_of_parts-returns : goal.facts_of_parts-returns
facts_of_parts-returns t c =
    let items = c.as_slice-part-items.result.now in
    subst (λ ps. HasFactsOfParts c.args.macros.now.entries ps c.loop-part.facts) (take_all c.loop-part.part-index items c.loop-part-test.false ∙ c.as_slice-part-items.ensures) c.loop-part.invariant
