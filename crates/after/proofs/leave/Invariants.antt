use Rattle.after.specs.State.{BothSized}
use Rattle.after.proofs.Search.{Leaving, noted_at}
use Rattle.after.proofs.leave.Given as goal

abbrev pub invariant-loop-j : goal.invariant-loop-j
invariant-loop-j l = BothSized l.initial.returns l.initial.set l.returns l.set (Leaving l.program.links l.q l.initial.returns l.initial.set l.returns l.set)

abbrev pub decreases-loop-j : goal.decreases-loop-j
decreases-loop-j l = noted_at l.q l.returns
