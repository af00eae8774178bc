use Rattle.versions.proofs.Walks.{ExitsLeft}
use Rattle.versions.proofs.exits_met.Given as goal

abbrev pub invariant-loop-q : goal.invariant-loop-q
invariant-loop-q l = ExitsLeft l.old.links l.new.links l.w l.k l.l l.q-iterator.digits l.others.digits
