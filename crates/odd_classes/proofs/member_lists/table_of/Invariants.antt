use Rattle.odd_classes.proofs.TableMembers.{IsMadeSoFar}
use Rattle.odd_classes.proofs.member_lists.table_of.Given as goal

abbrev pub invariant-loop-place : goal.invariant-loop-place
invariant-loop-place l = IsMadeSoFar l.entries l.fn.lists.items l.place-iterator.count l.place-iterator.iter.rest.items l.table
