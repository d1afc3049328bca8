use Rattle.std.proofs.Common.{take}
use Rattle.odd_classes.proofs.TableMembers.{AreAmong}
use Rattle.odd_classes.proofs.class_members.elements_among.Given as goal

abbrev pub invariant-loop-place : goal.invariant-loop-place
invariant-loop-place l = AreAmong l.entries (take l.place-index l.places) l.idents
