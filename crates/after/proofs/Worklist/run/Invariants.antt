use Rattle.after.proofs.Search.{RunTo, edges_left}
use Rattle.after.proofs.Worklist.run.Given as goal

abbrev pub invariant-loop-e : goal.invariant-loop-e
invariant-loop-e l =
    RunTo l.program.nodes l.program.links l.initial.self.owners l.initial.self.left l.initial.self.returns l.initial.set l.self.owners l.self.left l.self.returns l.set

abbrev pub decreases-loop-e : goal.decreases-loop-e
decreases-loop-e l = edges_left l.self.left
