use Rattle.std.proofs.Common.{◌≡◌}
use Rattle.records.specs.NodeLaws.{loaded}
use Rattle.records.proofs.load.Given as goal

abbrev pub invariant-loop-i : goal.invariant-loop-i
invariant-loop-i l = l.out ≡ loaded l.nodes l.initial.out l.at l.i
