use Rattle.std.proofs.Common.{◌≡◌}
use Rattle.records.specs.NodeLaws.{saved}
use Rattle.records.proofs.save.Given as goal

abbrev pub invariant-loop-i : goal.invariant-loop-i
invariant-loop-i l = l.nodes ≡ saved l.table l.initial.nodes l.i
