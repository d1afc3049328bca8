use Rattle.std.proofs.Common.{◌≡◌, is_some, not, sym, ap, ◌∙◌}
use Rattle.std.proofs.lemmas.Bool.{both_ways}
use Rattle.std.specs.List.{list_any}
use Rattle.std.specs.FinMap.{find}
use Rattle.odd_text.specs.Key.{key_cmp}
use Rattle.odd_library.specs.Odd.{element_key}
use Rattle.odd_modes.specs.Index.{has_text, is_of_module}
use Rattle.odd_modes.proofs.ItemFaults.{copied_held, module_absent, module_held, taken_held}
use Rattle.odd_modes.proofs.faults.reference_fault.Goals as goal

pub returns-in-Module : goal.returns-in-Module
returns-in-Module c =
    let key = c.in-Module.key in
    let held = ap (has_text c.args.modules.now) (sym c.as_str.ensures) ∙ sym c.contains.ensures ∙ c.if-contains.true in
    rw (c.in-Module.is, c.fault_where.ensures)
    (module_held c.args.library.now c.in-Module.at key c.in-Module.pick c.has_other.result ((c.requires key).0 held)
    (c.has_other.ensures ∙ ap (list_any (λ word. not (is_of_module (find key_cmp (element_key word) c.args.library.now.parts) key))) c.words_in.ensures))

pub returns-in-Module-2 : goal.returns-in-Module-2
returns-in-Module-2 c =
    let key = c.in-Module-2.key in
    let same : key ≡ c.in-Module.key = cc in
    let absent = ap (has_text c.args.modules.now) (same ∙ sym c.as_str.ensures) ∙ sym c.contains.ensures ∙ c.if-contains.false in
    rw c.in-Module-2.is (module_absent c.args.library.now c.in-Module-2.at key c.in-Module-2.pick (λ at held. both_ways (has_text c.args.modules.now key) absent ((c.requires key).1 (at, held))))

pub returns-in-Take : goal.returns-in-Take
returns-in-Take c =
    rw (c.in-Take.is, c.fault_where-in-Take.ensures)
    (taken_held c.args.library.now c.in-Take.at c.in-Take.key c.is_none.result (ap is_some (sym c.find.ensures) ∙ copied_held c.find.result ∙ c.is_none.ensures))
