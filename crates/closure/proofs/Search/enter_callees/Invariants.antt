use Prim.Native.Nat.{◌≤◌}
use Rattle.closure.specs.Claims.{Sized}
use Rattle.closure.proofs.Turns.{Entering}
use Rattle.closure.proofs.Search.enter_callees.Given as goal

abbrev pub invariant-loop-a : goal.invariant-loop-a
invariant-loop-a l = (l.count ≤ l.self.limit) × Sized l.initial.w l.w (Entering l.self.old.now l.self.new.now l.self.limit l.initial.w l.initial.count l.k l.l l.w l.count l.a l.b)

abbrev pub decreases-loop-a : goal.decreases-loop-a
decreases-loop-a l = l.a
