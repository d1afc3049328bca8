-- Formed marks laid over classes give classes.
use Rattle.std.proofs.Common.{◌≡◌, Some, ap, subst, sym, ◌∙◌}
use Rattle.std.proofs.lemmas.Result.{IfOk-weaker}
use Rattle.std.specs.Option.{IfSome}
use Rattle.odd_library.specs.FormedMembers.{AreClasses, IsFormedMembership}
use Rattle.odd_library.specs.Membership.{changed}
use Rattle.odd_library.specs.declared.membership.Membership.TheVariants as membership
use Rattle.odd_library.proofs.FormedMembers.{classes_formed}
use Rattle.odd_library.proofs.membership.classes_over.Goals as goal

pub returns-in-Some-Change-clause-formed : goal.returns-in-Some-Change-clause-formed
returns-in-Some-Change-clause-formed c = λ formed are.
    let marks = c.in-Some-Change.marks in
    let before = c.args.before in
    let given = subst (λ o. IfSome o IsFormedMembership) (c.in-Some-Change.is ∙ ap Some c.in-Some-Change.field-0-is) formed in
    IfOk-weaker c.words_laid.result (λ made. made ≡ changed marks before) AreClasses (λ made is. subst AreClasses (sym is) (classes_formed (Some (membership.Change marks)) before given are)) c.words_laid.ensures.value
