use Rattle.std.proofs.Common.{take}
use Rattle.odd_classes.proofs.TableMembers.{AreThose}
use Rattle.odd_classes.specs.Placing.{IsIdentAt}
use Rattle.odd_classes.proofs.class_members.idents_among.Given as goal

abbrev pub invariant-loop-place : goal.invariant-loop-place
invariant-loop-place l = AreThose (IsIdentAt l.entries) (take l.place-index l.places) l.idents
