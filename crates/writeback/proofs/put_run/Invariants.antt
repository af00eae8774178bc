use Prim.Native.Nat.{◌-◌, ◌≤◌}
use Rattle.writeback.specs.Runs.{RunPut}
use Rattle.writeback.proofs.put_run.Given as goal

abbrev pub invariant-loop-i : goal.invariant-loop-i
invariant-loop-i g l = (l.i - l.from ≤ l.to - l.from) × RunPut g.F.Fn l.put l.initial.out l.at l.from l.i l.k l.out
