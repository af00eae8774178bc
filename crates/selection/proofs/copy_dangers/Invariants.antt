use Rattle.selection.proofs.Dangers.{CopiedTo}
use Rattle.selection.proofs.copy_dangers.Given as goal

abbrev pub invariant-loop-k : goal.invariant-loop-k
invariant-loop-k l = CopiedTo l.w l.initial.set l.set l.k
