use Prim.Native.Nat.{◌-◌}
use lib.ListN.{length}
use Rattle.reader.specs.Result.{counts_of}
use Rattle.reader.proofs.Turns.{Head}
use Rattle.reader.proofs.read_lines.Given as goal

abbrev pub invariant-loop-at : goal.invariant-loop-at
invariant-loop-at l = Head l.text l.initial.work l.at l.line (counts_of l.had) l.work

abbrev pub decreases-loop-at : goal.decreases-loop-at
decreases-loop-at l = length l.text - l.at
