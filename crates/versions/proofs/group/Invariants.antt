use Rattle.versions.specs.Groups.{Regrouped}
use Rattle.versions.proofs.group.Given as goal

abbrev pub invariant-loop-x : goal.invariant-loop-x
invariant-loop-x l = Regrouped l.version l.initial.groups l.groups
