use Prim.Native.Nat.{ℕ, ◌<◌}
use mathlib.Core.Bool.{true}
use Rattle.std.specs.Fn.{FnReturns}
use Rattle.pairset.specs.Store.{new_at, old_at}
use Rattle.checker.proofs.all_pairs.Given as goal

abbrev pub invariant-loop-i : goal.invariant-loop-i
invariant-loop-i g l = (j : ℕ) → j < l.i → FnReturns g.F.Fn l.keeps (old_at l.w j, (new_at l.w j, tt)) true
