use Rattle.after.specs.State.{Sized}
use Rattle.after.proofs.Returns.{Owning}
use Rattle.after.proofs.find_owners.Given as goal

abbrev pub invariant-loop-q : goal.invariant-loop-q
invariant-loop-q l = Sized l.initial.owners l.owners (Owning l.program.links l.initial.owners l.owners l.q)
