use Rattle.writer.specs.Claims.{PairsPut}
use Rattle.writer.proofs.put_pairs.Given as goal

abbrev pub invariant-loop-n : goal.invariant-loop-n
invariant-loop-n l = PairsPut l.initial.out l.at l.w l.n l.news l.k l.out
