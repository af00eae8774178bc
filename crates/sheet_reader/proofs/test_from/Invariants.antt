use Rattle.sheet_reader.proofs.Leaves.{NoTest}
use Rattle.sheet_reader.proofs.test_from.Given as goal

abbrev pub invariant-loop-i : goal.invariant-loop-i
invariant-loop-i l = NoTest l.suite.text l.suite.names l.k l.i l.name
