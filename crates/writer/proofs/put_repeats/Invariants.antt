use Prim.Native.Nat.{◌*◌}
use Rattle.writer.specs.Writes.{Writes}
use Rattle.writer.specs.Texts.{repeat_text}
use Rattle.writer.proofs.put_repeats.Given as goal

abbrev pub invariant-loop-i : goal.invariant-loop-i
invariant-loop-i l = Writes l.initial.out l.at (repeat_text l.suite.text l.suite.names l.suite.rows l.set l.i) (15 * l.i) l.k l.out
