use Prim.Native.Nat.{◌-◌}
use lib.ListN.{length}
use Rattle.suite.proofs.Turns.{Head}
use Rattle.suite.proofs.read_lines.Given as goal

abbrev pub invariant-loop-at : goal.invariant-loop-at
invariant-loop-at l = Head l.edges l.text l.initial.filter l.initial.tests l.initial.rows l.at l.n l.count l.filter l.tests l.rows

abbrev pub decreases-loop-at : goal.decreases-loop-at
decreases-loop-at l = length l.text - l.at
