use Prim.Native.Nat.{◌-◌, ◌≤◌}
use Rattle.closure.specs.Claims.{Sized}
use Rattle.closure.proofs.Turns.{Repeating}
use Rattle.closure.proofs.Search.repeat.Given as goal

abbrev pub invariant-loop-next : goal.invariant-loop-next
invariant-loop-next l = (l.count ≤ l.self.limit) × Sized l.initial.w l.w (Repeating l.self.old.now l.self.new.now l.self.groups.now l.self.limit l.initial.w l.w l.count)

abbrev pub decreases-loop-next : goal.decreases-loop-next
decreases-loop-next l = l.self.limit - l.count
