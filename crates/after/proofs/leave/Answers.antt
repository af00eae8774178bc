use Rattle.after.proofs.Search.{leave_on}
use Rattle.after.proofs.leave.Goals as goal

pub loop-j-preserved : goal.loop-j-preserved
loop-j-preserved c = leave_on _ _ _ _ _ _ _ c.in-Some.ensures _ _ c.loop-j.invariant c.take_return.ensures
