use Rattle.job_calls.proofs.Laws.{due_few, few_with}
use Rattle.job_calls.proofs.call_held.Goals as goal

pub serve-requires-clause-few : goal.serve-requires-clause-few
serve-requires-clause-few c = few_with _ _ _ _ _ c.new-suite.ensures (due_few _ _ c.in_ok-had.ensures)
