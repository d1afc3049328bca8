use Rattle.std.proofs.Common.{◌≡◌, IfOk, sym, subst}
use Rattle.std.specs.FinMap.{slice_cmp-IsAntisymmetric, nat_cmp-IsAntisymmetric}
use Rattle.odd_tokens.proofs.table.TextTable.share.Goals as goal

pub returns-in-Some : goal.returns-in-Some
returns-in-Some c =
    let same : c.args.text.now ≡ c.in-Some.kept.now = slice_cmp-IsAntisymmetric nat_cmp-IsAntisymmetric c.args.text.now c.in-Some.kept.now c.in-Some.ensures.same_key in
    subst (λ text. IfOk c.copy.result (λ shared. shared ≡ text)) (sym same) c.copy.ensures
