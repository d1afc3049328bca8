use Rattle.std.proofs.Common.{◌≤◌, Ok, ap, arith, length, subst}
use Rattle.std.specs.Option.{IfSome}
use Rattle.std.specs.Prelude.{sum_by}
use Rattle.odd_classes.proofs.TableMembers.{are_members, no_more, too_many}
use Rattle.odd_classes.specs.Listing.{AreListsOf}
use Rattle.odd_classes.proofs.member_lists.table_within.Goals as goal

pub returns-in_default-clause-more : goal.returns-in_default-clause-more
returns-in_default-clause-more c = λ is members are.
    let lists = c.in_ok-lists.ensures.more (ap Ok c.in_default.is) in
    omega (arith, lists.2, too_many c.args.library.now c.entries-entries.ensures.rising lists.0 lists.1 members are)

pub returns-clause-members : goal.returns-clause-members
returns-clause-members c =
    let all = c.entries-entries.ensures.all in
    are_members c.args.library.now c.entries-entries.ensures.rising _ (subst (λ o. IfSome o (λ lists. AreListsOf c.args.library.now lists.items)) c.in-Some.is c.in_ok-lists.ensures.lists) _ (rw all at c.in_ok-lists-2.ensures)

pub returns-clause-within : goal.returns-clause-within
returns-clause-within c =
    let all = c.entries-entries.ensures.all in
    let no = no_more c.args.library.now c.entries-entries.ensures.rising _ (subst (λ o. IfSome o (λ lists. AreListsOf c.args.library.now lists.items)) c.in-Some.is c.in_ok-lists.ensures.lists) _ (rw all at c.in_ok-lists-2.ensures) in
    omega (arith, no, subst (λ o. IfSome o (λ lists. sum_by length lists.items ≤ c.args.limit)) c.in-Some.is c.in_ok-lists.ensures.within)
