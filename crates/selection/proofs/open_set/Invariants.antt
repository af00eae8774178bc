use Rattle.selection.specs.Marks.{SetOpened}
use Rattle.selection.proofs.open_set.Given as goal

abbrev pub invariant-loop-f : goal.invariant-loop-f
invariant-loop-f l = SetOpened l.set l.f l.initial.marks l.marks
