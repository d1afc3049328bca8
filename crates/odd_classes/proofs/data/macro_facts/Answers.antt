use Rattle.std.proofs.Common.{Some, sym, ap, ◌∙◌, arith}
use Rattle.std.proofs.lemmas.Grind.{common_steps}
use Rattle.odd_library.specs.declared.library.OtherPart.{OtherPart}
use Rattle.odd_text.specs.Map.{SetsOnly}
use Rattle.odd_text.specs.Text.{text_cmp}
use Rattle.odd_classes.proofs.MacroFacts.{IsMacro, facts_all, facts_more, facts_none, facts_same}
use Rattle.odd_classes.specs.Ranking.{IsMacroOrder}
use Rattle.odd_classes.proofs.data.macro_facts.Goals.{in-Some-Macro+in_ok-copy+in_ok-keep, in-Some+in-Element-1, in-None-1}
use Rattle.odd_classes.proofs.data.macro_facts.Goals as goal

pub loop-ident-init : goal.loop-ident-init
loop-ident-init c = rw c.new-facts.ensures.empty (facts_none c.args.library.now)

pub loop-ident-preserved : goal.loop-ident-preserved
loop-ident-preserved c =
    let library = c.args.library.now in
    let idents = c.as_slice-ident-items.result.now in
    let order : IsMacroOrder library idents = rw c.as_slice-ident-items.ensures c.requires.order in
    let i = c.loop-ident.ident-index in
    let ident = c.ident-item.result in
    elim c.match-find_by.branch [
      | in-Some-Macro+in_ok-copy+in_ok-keep w ↦
          let part = w.in-Some-Macro.part in
          let held : IsMacro library ident part = sym w.in-Some-Macro.ensures ∙ ap Some w.in-Some-Macro.field-0-is in
          let facts = w.facts_of-of_it.result in
          let sets : SetsOnly text_cmp c.loop-ident.facts.entries w.keep.new.macros.entries ident facts = rw w.in_ok-copy.ensures at w.in_ok-keep.ensures in
          rw w.facts-is (facts_more library idents order i ident c.loop-ident.facts.entries c.loop-ident.invariant c.loop-ident-test.true c.ident-item.is part facts w.keep.new.macros.entries held w.facts_of-of_it.ensures sets)
      | in-Some+in-Element-1 w ↦
          let none : (part : OtherPart) → IsMacro library ident part → ⊥ = λ part held. grind (arith, common_steps) in
          rw w.facts-is (facts_same library idents order i ident c.loop-ident.facts.entries c.loop-ident.invariant c.loop-ident-test.true c.ident-item.is none)
      | in-None-1 w ↦
          let none : (part : OtherPart) → IsMacro library ident part → ⊥ = λ part held. grind (arith, common_steps) in
          rw w.facts-is (facts_same library idents order i ident c.loop-ident.facts.entries c.loop-ident.invariant c.loop-ident-test.true c.ident-item.is none)
    ]

pub returns : goal.returns
returns c =
    let idents = c.as_slice-ident-items.result.now in
    let order : IsMacroOrder c.args.library.now idents = rw c.as_slice-ident-items.ensures c.requires.order in
    facts_all c.args.library.now c.requires.acyclic idents order c.loop-ident.ident-index c.loop-ident.facts.entries c.loop-ident-test.false c.loop-ident.invariant
