use Rattle.versions.proofs.Walks.{SameLeft}
use Rattle.versions.proofs.same_callees.Given as goal

abbrev pub invariant-loop-q : goal.invariant-loop-q
invariant-loop-q l = SameLeft l.old.text l.old.links l.new.text l.new.links l.k l.l l.q-iterator.digits l.others.digits
