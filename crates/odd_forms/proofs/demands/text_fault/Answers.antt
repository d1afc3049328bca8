use Rattle.std.proofs.Common.{◌↔◌, IsTrue, subst}
use Rattle.odd_forms.specs.Form.{Suits}
use Rattle.odd_forms.specs.Seen as seen
use Rattle.odd_forms.specs.Texts.{collapsed_in}
use Rattle.odd_forms.proofs.Values.{text_least}
use Rattle.odd_forms.proofs.demands.text_fault.Goals as goal

pub returns : goal.returns
returns c = λ binds.
    let tree = c.args.tree.now in
    let kind = seen.kind c.args.kind.now in
    let passes = c.in_ok-suits.field-0 in
    let told : IsTrue passes ↔ Suits kind (collapsed_in tree) = subst (λ text. IsTrue passes ↔ Suits kind text) c.in_ok-text.ensures c.in_ok-suits.ensures in
    rw c.fault_where.ensures (text_least binds tree kind passes told)
