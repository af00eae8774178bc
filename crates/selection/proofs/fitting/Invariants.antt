use Prim.Native.Nat.{◌≤◌}
use Rattle.laws.specs.Places.{place}
use Rattle.selection.specs.Compared.{is_met}
use Rattle.selection.proofs.Dangers.{FitsFrom}
use Rattle.selection.proofs.fitting.Given as goal

abbrev pub invariant-loop-place : goal.invariant-loop-place
invariant-loop-place l = (place l.place ≤ place l.fn.from) × FitsFrom l.old.links l.new.links l.w l.e (place l.fn.from) (is_met l.ends) (place l.place)

abbrev pub decreases-loop-place : goal.decreases-loop-place
decreases-loop-place l = place l.place
