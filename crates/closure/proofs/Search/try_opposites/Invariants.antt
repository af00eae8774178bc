use Prim.Native.Nat.{◌≤◌}
use Rattle.laws.specs.Places.{place}
use Rattle.closure.specs.Claims.{Sized}
use Rattle.closure.proofs.Turns.{Trying}
use Rattle.closure.proofs.Search.try_opposites.Given as goal

abbrev pub invariant-loop-place : goal.invariant-loop-place
invariant-loop-place l =
    (l.total ≤ l.self.limit)
    × Sized l.initial.w l.w (Trying l.self.old.now l.self.new.now l.self.groups.now l.self.limit l.initial.w l.initial.total l.e l.m l.w l.total (place l.place))

abbrev pub decreases-loop-place : goal.decreases-loop-place
decreases-loop-place l = place l.place
