use Rattle.std.proofs.Common.{◌≡◌, ◌∙◌, IfOk, filter, ap, sym, subst}
use Rattle.odd_content.specs.Picking.{is_picked}
use Rattle.compile_defines.proofs.Collected.{all_picked}
use Rattle.compile_defines.proofs.words.picked.Goals as goal

pub returns-in-All : goal.returns-in-All
returns-in-All c =
    let idents = c.args.idents.now in
    let same = sym (all_picked idents) ∙ ap (λ p. filter (is_picked p) idents) (sym c.in-All.is) in
    subst (λ words. IfOk c.copy.result (λ left. left ≡ words)) same c.copy.ensures
