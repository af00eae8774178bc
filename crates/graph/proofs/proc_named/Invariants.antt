use Rattle.graph.proofs.Laws.{Unnamed}
use Rattle.graph.proofs.proc_named.Given as goal

abbrev pub invariant-loop-q : goal.invariant-loop-q
invariant-loop-q l = Unnamed l.text l.links l.procs l.name l.q
