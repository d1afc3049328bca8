use Rattle.std.proofs.Common.{subst}
use Rattle.std.specs.FinMap.{find}
use Rattle.std.specs.Option.{IfSome}
use Rattle.std.specs.Prelude.{IfOk}
use Rattle.odd_meaning.specs.Classes.{AreMembers}
use Rattle.odd_text.specs.Text.{text_cmp}
use Rattle.odd_classes.proofs.checked.Checked.members.Goals as goal

pub returns-clause-members : goal.returns-clause-members
returns-clause-members c =
    subst (λ library. IfOk c.table_within.result (λ given. IfSome given (λ table. AreMembers library (λ class. find text_cmp class table)))) c.self.view_is c.table_within.ensures.members
