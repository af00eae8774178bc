use Rattle.after.proofs.Search.{run_on}
use Rattle.after.proofs.Worklist.run.Goals as goal

pub loop-e-preserved : goal.loop-e-preserved
loop-e-preserved c = run_on _ _ _ _ _ _ _ _ _ _ _ c.in-Some.ensures _ _ _ c.visit.ensures.visited _ c.visit.ensures.kept c.loop-e.invariant
