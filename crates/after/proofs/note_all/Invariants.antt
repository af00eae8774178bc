use Rattle.after.specs.State.{Sized}
use Rattle.after.proofs.Returns.{NotingAll}
use Rattle.after.proofs.note_all.Given as goal

abbrev pub invariant-loop-k : goal.invariant-loop-k
invariant-loop-k l = Sized l.initial.returns l.returns (NotingAll l.program.nodes l.program.links l.count l.initial.returns l.returns l.k)
