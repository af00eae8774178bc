use Rattle.reader.specs.Reading.{FineTo}
use Rattle.reader.proofs.all_fine.Given as goal

abbrev pub invariant-loop-n : goal.invariant-loop-n
invariant-loop-n l = FineTo l.work l.first l.nodes l.n
