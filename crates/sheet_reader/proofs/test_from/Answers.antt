use Rattle.std.proofs.Common.{arith}
use Rattle.sheet_reader.proofs.Leaves.{test_hit}
use Rattle.sheet_reader.proofs.test_from.Goals as goal

pub returns-then-same : goal.returns-then-same
returns-then-same c = test_hit _ _ _ _ _ c.loop-i.invariant _ _ c.name.ensures c.same.ensures _ (omega arith) (omega arith) c.if-same.true
