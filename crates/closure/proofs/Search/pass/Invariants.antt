use Prim.Native.Nat.{◌-◌, ◌≤◌}
use Rattle.closure.specs.Claims.{Sized}
use Rattle.closure.proofs.Turns.{Visiting}
use Rattle.closure.proofs.Search.pass.Given as goal

abbrev pub invariant-loop-x : goal.invariant-loop-x
invariant-loop-x l =
    (l.count ≤ l.self.limit)
    × Sized l.initial.w l.w (Visiting l.self.old.now l.self.new.now l.self.groups.now l.self.limit l.initial.w l.initial.count l.w l.count l.settled l.x)

abbrev pub decreases-loop-x : goal.decreases-loop-x
decreases-loop-x l = l.self.limit - l.x
