use Rattle.std.proofs.Common.{length}
use Rattle.text.proofs.Labels.{Matching}
use Rattle.text.proofs.same_squeezed.Given as goal

abbrev pub invariant-loop-x : goal.invariant-loop-x
invariant-loop-x l = Matching l.a l.b l.x l.y

abbrev pub decreases-loop-x : goal.decreases-loop-x
decreases-loop-x l = length l.x
