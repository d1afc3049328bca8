use Rattle.std.proofs.Common.{◌↔◌, sym, ap, subst, ◌∙◌}
use Rattle.std.proofs.lemmas.List.{take_all}
use Rattle.odd_text.specs.Standing.{StandsIn}
use Rattle.odd_modes.specs.Choosing.{IsChosen}
use Rattle.odd_modes.specs.Index.{keys_listed}
use Rattle.odd_modes.proofs.HeldEntries.{lists_chosen}
use Rattle.odd_modes.proofs.selecting.chosen_keys.Goals as goal

pub returns-clause-chosen : goal.returns-clause-chosen
returns-clause-chosen c doc are key =
    let library = c.args.library.now in
    let refs = c.args.references.now in
    let all = take_all c.loop-key.key-index c.entries-key-items.result.now c.loop-key-test.false ∙ c.entries-key-items.ensures.all in
    let listed = c.loop-key.invariant ∙ ap (keys_listed refs) all in
    subst (λ ks. StandsIn ks key ↔ IsChosen library doc key) (sym listed) (lists_chosen library doc refs key are c.entries-key-items.ensures.rising)
