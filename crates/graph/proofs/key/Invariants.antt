use Rattle.graph.proofs.Laws.{KeyBehind}
use Rattle.graph.proofs.key.Given as goal

abbrev pub invariant-loop-b : goal.invariant-loop-b
invariant-loop-b l = KeyBehind l.word l.b-iterator.iter.rest.now l.k
