use Rattle.laws.specs.Places.{place}
use Rattle.selection.proofs.Counterparts.{SeenTo}
use Rattle.selection.proofs.only_counterpart.Given as goal

abbrev pub invariant-loop-place : goal.invariant-loop-place
invariant-loop-place l = SeenTo l.old.nodes l.old.links l.new.nodes l.new.links l.w l.e l.n l.seen (place l.place)

abbrev pub decreases-loop-place : goal.decreases-loop-place
decreases-loop-place l = place l.place
