use Rattle.coverage.proofs.Laws.{NoneTo}
use Rattle.coverage.proofs.first_danger.Given as goal

abbrev pub invariant-loop-at : goal.invariant-loop-at
invariant-loop-at l = NoneTo l.row l.dangers l.at
