use Prim.Native.Nat.{◌≤◌, ◌+◌}
use Rattle.laws.specs.Places.{place}
use Rattle.graph.proofs.Laws.{Counted}
use Rattle.graph.proofs.degree.Given as goal

abbrev pub invariant-loop-place : goal.invariant-loop-place
invariant-loop-place l = (l.r + place l.place ≤ place l.initial.place) × Counted l.links l.n l.r (place l.place)

abbrev pub decreases-loop-place : goal.decreases-loop-place
decreases-loop-place l = place l.place
