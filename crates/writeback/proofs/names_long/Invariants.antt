use Rattle.writeback.proofs.Parts.{LongTo}
use Rattle.writeback.proofs.names_long.Given as goal

abbrev pub invariant-loop-q : goal.invariant-loop-q
invariant-loop-q l = LongTo l.version.links l.callees l.q-iterator.iter.digits l.len l.q-iterator.n
