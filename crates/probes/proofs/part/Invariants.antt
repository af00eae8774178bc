use Rattle.laws.specs.Places.{place}
use Rattle.probes.proofs.Starts.{PartsTo}
use Rattle.probes.proofs.part.Given as goal

abbrev pub invariant-loop-place : goal.invariant-loop-place
invariant-loop-place l = PartsTo l.old.nodes l.old.links l.new.nodes l.new.links l.w l.e l.n l.initial.set l.set (place l.place)

abbrev pub decreases-loop-place : goal.decreases-loop-place
decreases-loop-place l = place l.place
