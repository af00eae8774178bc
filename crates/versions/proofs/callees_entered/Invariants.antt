use Rattle.versions.proofs.Walks.{EntriesLeft}
use Rattle.versions.proofs.callees_entered.Given as goal

abbrev pub invariant-loop-q : goal.invariant-loop-q
invariant-loop-q l = EntriesLeft l.old.links l.new.links l.w l.k l.l l.q-iterator.digits l.others.digits
