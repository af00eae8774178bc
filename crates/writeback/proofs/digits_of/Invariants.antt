use mathlib.Core.Path.{◌≡◌}
use Prim.Native.Nat.{◌+◌, ◌-◌}
use Rattle.writeback.specs.Parts.{digits_of}
use Rattle.writeback.proofs.digits_of.Given as goal

abbrev pub invariant-loop-n : goal.invariant-loop-n
invariant-loop-n l = digits_of 8 l.v ≡ l.n + digits_of (8 - l.n) l.rest
