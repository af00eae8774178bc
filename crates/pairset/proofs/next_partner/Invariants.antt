use Rattle.pairset.proofs.Laws.{NoneTo}
use Rattle.pairset.proofs.next_partner.Given as goal

abbrev pub invariant-loop-k : goal.invariant-loop-k
invariant-loop-k l = NoneTo l.w l.a l.from l.k
