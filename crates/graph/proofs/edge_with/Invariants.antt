use Rattle.laws.specs.Places.{place}
use Rattle.graph.proofs.Laws.{WithBelow}
use Rattle.graph.proofs.edge_with.Given as goal

abbrev pub invariant-loop-place : goal.invariant-loop-place
invariant-loop-place l = WithBelow l.links l.n l.key (place l.place)

abbrev pub decreases-loop-place : goal.decreases-loop-place
decreases-loop-place l = place l.place
