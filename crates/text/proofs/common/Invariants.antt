use Rattle.std.proofs.Common.{◌≡◌, ◌+◌, drop}
use Rattle.text.specs.Scans.{in_common}
use Rattle.text.proofs.common.Given as goal

abbrev pub invariant-loop-i : goal.invariant-loop-i
invariant-loop-i l = in_common l.a l.b ≡ l.i + in_common (drop l.i l.a) (drop l.i l.b)
