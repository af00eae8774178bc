use Rattle.versions.proofs.Opposites.{LeftFrom}
use Prim.Native.Nat.{◌≤◌}
use Rattle.laws.specs.Places.{place}
use Rattle.versions.proofs.opposite_from.Given as goal

abbrev pub invariant-loop-place : goal.invariant-loop-place
invariant-loop-place l = (place l.place ≤ place l.fn.from) × LeftFrom l.old.links l.new.links l.e l.n (place l.fn.from) (place l.place)

abbrev pub decreases-loop-place : goal.decreases-loop-place
decreases-loop-place l = place l.place
