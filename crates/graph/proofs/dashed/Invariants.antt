use Rattle.laws.specs.Places.{place}
use Rattle.graph.proofs.Laws.{DashedBelow}
use Rattle.graph.proofs.dashed.Given as goal

abbrev pub invariant-loop-next : goal.invariant-loop-next
invariant-loop-next l = DashedBelow l.links l.n (place l.next)

abbrev pub decreases-loop-next : goal.decreases-loop-next
decreases-loop-next l = place l.next
