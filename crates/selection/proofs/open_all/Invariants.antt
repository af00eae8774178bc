use Rattle.selection.specs.Marks.{AllOpened}
use Rattle.selection.proofs.open_all.Given as goal

abbrev pub invariant-loop-e : goal.invariant-loop-e
invariant-loop-e l = AllOpened l.old.nodes l.old.links l.new.nodes l.new.links l.w l.rows l.test l.after l.edges l.e l.initial.marks l.marks
