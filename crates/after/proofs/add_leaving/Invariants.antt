use Rattle.laws.specs.Places.{place}
use Rattle.after.specs.State.{Sized}
use Rattle.after.proofs.Adding.{Adding}
use Rattle.after.proofs.add_leaving.Given as goal

abbrev pub invariant-loop-place : goal.invariant-loop-place
invariant-loop-place l = Sized l.initial.set l.set (Adding l.program.links l.n l.initial.set l.set (place l.place))

abbrev pub decreases-loop-place : goal.decreases-loop-place
decreases-loop-place l = place l.place
