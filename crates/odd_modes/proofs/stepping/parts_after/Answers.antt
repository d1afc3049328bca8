use Rattle.std.proofs.Common.{ap, ◌∙◌}
use Rattle.std.specs.FinMap.{find}
use Rattle.odd_text.specs.Key.{key_cmp}
use Rattle.odd_library.specs.Over.{spec_laid}
use Rattle.odd_modes.specs.After.{spec_at}
use Rattle.odd_modes.specs.Index.{kept_at, put_over}
use Rattle.odd_modes.specs.Swept.{swept_at}
use Rattle.odd_modes.proofs.LayerActs.{done_after}
use Rattle.odd_modes.proofs.stepping.parts_after.Goals as goal

pub returns-clause-holds : goal.returns-clause-holds
returns-clause-holds c = λ key.
    let held = find key_cmp key c.args.library.parts in
    let refs = c.args.references.now in
    c.in_ok-parts.ensures key
    ∙ ap (λ a. swept_at spec_laid a held) (c.in_ok-layer.ensures key ∙ ap (λ es. put_over (spec_at es key) (kept_at refs key held)) c.as_slice.ensures)
    ∙ done_after c.args.doc.now refs key held c.requires
