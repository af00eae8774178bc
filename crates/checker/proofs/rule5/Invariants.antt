use Rattle.checker.proofs.Laws.{TestsTo}
use Rattle.checker.proofs.rule5.Given as goal

abbrev pub invariant-loop-i : goal.invariant-loop-i
invariant-loop-i l = TestsTo l.suite.rows l.suite.count l.sets l.i
