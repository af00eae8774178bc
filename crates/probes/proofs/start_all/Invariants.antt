use Rattle.probes.specs.Starts.{AllStart}
use Rattle.probes.proofs.start_all.Given as goal

abbrev pub invariant-loop-e : goal.invariant-loop-e
invariant-loop-e l = AllStart l.old.nodes l.old.links l.new.nodes l.new.links l.w l.dangers l.edges l.e l.initial.set l.set
