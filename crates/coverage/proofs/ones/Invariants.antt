use Prim.Native.Nat.{◌*◌}
use mathlib.Core.Path.{◌≡◌}
use Rattle.laws.specs.Tests.{count}
use Rattle.coverage.specs.Rows.{edge_bit}
use Rattle.coverage.proofs.ones.Given as goal

abbrev pub invariant-loop-k : goal.invariant-loop-k
invariant-loop-k l = l.sum ≡ count (64 * l.k) (edge_bit l.rows l.test)
