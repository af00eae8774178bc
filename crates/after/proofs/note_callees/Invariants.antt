use Rattle.after.specs.State.{Sized}
use Rattle.after.proofs.Returns.{Noting}
use Rattle.after.proofs.note_callees.Given as goal

abbrev pub invariant-loop-a : goal.invariant-loop-a
invariant-loop-a l = Sized l.initial.returns l.returns (Noting l.program.links l.k l.callees l.initial.returns l.returns l.a)

abbrev pub decreases-loop-a : goal.decreases-loop-a
decreases-loop-a l = l.a
