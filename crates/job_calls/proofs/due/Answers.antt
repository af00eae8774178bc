use Rattle.job_calls.proofs.Laws.{due_edges}
use Rattle.std.proofs.Common.{length}
use Rattle.job_calls.proofs.due.Goals as goal

pub suite_due-requires : goal.suite_due-requires
suite_due-requires c = due_edges c.args.held.now (length c.args.w.now) c.if-held-ne3.false c.if-w-lt16912.false _ c.program.ensures _ c.in-Some.ensures
