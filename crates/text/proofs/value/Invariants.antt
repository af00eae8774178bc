use Rattle.std.proofs.Common.{◌≡◌, ◌≤◌, min, drop}
use Rattle.rules.specs.Text.{value_from}
use Rattle.text.proofs.value.Given as goal

abbrev pub invariant-loop-b : goal.invariant-loop-b
invariant-loop-b l = (l.v ≤ 65536) × (min (value_from 0 l.s) 65536 ≡ min (value_from l.v (drop l.b-index l.s)) 65536)
