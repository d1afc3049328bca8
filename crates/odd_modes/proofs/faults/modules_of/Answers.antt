use Rattle.std.proofs.Common.{true, cond, ap, ◌∙◌}
use Rattle.std.proofs.lemmas.List.{take_all}
use Rattle.std.specs.BTreeMap.{is_at}
use Rattle.std.specs.List.{list_any}
use Rattle.odd_text.specs.Text.{text_cmp}
use Rattle.odd_text.specs.Same.{is_same}
use Rattle.odd_library.specs.Library.{module_of}
use Rattle.odd_modes.specs.Index.{has_text}
use Rattle.odd_modes.proofs.ItemFaults.{modules_held}
use Rattle.odd_modes.proofs.TextSets.{text_put}
use Rattle.odd_modes.proofs.faults.modules_of.Goals as goal

pub loop-part-preserved : goal.loop-part-preserved
loop-part-preserved c = λ name.
    let was = has_text c.loop-part.modules name in
    text_put (λ e. module_of e.1) c.entries-part-items.result.now c.loop-part.part-index c.loop-part-item.result name was (has_text c.insert.new.self name) c.loop-part-test.true c.loop-part-item.is
    (c.in_ok-insert.ensures.updates.0 (record { ref_ptr = c.as_str.result.ref_ptr; now = name }) ∙ ap (λ m. cond (is_at (text_cmp m) name) true was) (c.as_str.ensures ∙ c.module.ensures))
    (c.loop-part.invariant name)

pub returns : goal.returns
returns c = λ name.
    let parts = c.entries-part-items.result.now in
    modules_held c.args.library.now name (has_text c.loop-part.modules name) c.entries-part-items.ensures.rising
    (c.loop-part.invariant name ∙ ap (list_any (λ e. is_same (module_of e.1) name)) (take_all c.loop-part.part-index parts c.loop-part-test.false ∙ c.entries-part-items.ensures.all))
