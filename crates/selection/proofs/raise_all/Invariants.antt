use Rattle.laws.specs.Places.{place}
use Rattle.selection.proofs.Marks.{RaisedTo}
use Rattle.selection.proofs.raise_all.Given as goal

abbrev pub invariant-loop-place : goal.invariant-loop-place
invariant-loop-place l = RaisedTo l.old.nodes l.old.links l.new.nodes l.new.links l.w l.e l.most l.n l.initial.marks l.marks (place l.place)

abbrev pub decreases-loop-place : goal.decreases-loop-place
decreases-loop-place l = place l.place
