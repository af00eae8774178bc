use Prim.Native.Nat.{◌*◌}
use Rattle.writer.specs.Writes.{Writes}
use Rattle.writer.specs.Texts.{edge_text}
use Rattle.writer.proofs.put_edges.Given as goal

abbrev pub invariant-loop-e : goal.invariant-loop-e
invariant-loop-e l = Writes l.initial.out l.at (edge_text l.b l.set l.e) (23 * l.e) l.k l.out
