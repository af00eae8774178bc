use Rattle.selection.specs.Marks.{AllCarried}
use Rattle.selection.proofs.carry_all.Given as goal

abbrev pub invariant-loop-e : goal.invariant-loop-e
invariant-loop-e l = AllCarried l.old.nodes l.old.links l.new.nodes l.new.links l.w l.rows l.test l.edges l.e l.initial.marks l.marks
