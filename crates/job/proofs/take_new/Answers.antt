use Rattle.std.proofs.lemmas.Result.{err_from_is_err_and}
use Rattle.job.proofs.NewLaws.{new_due_taken, new_refused, new_done}
use Rattle.job.proofs.take_new.Goals as goal

pub returns-in-Err : goal.returns-in-Err
returns-in-Err c = new_due_taken _ _ _ _ _ _ c.in-Err.fault _ c.in-Err.ensures

pub returns-in_err-had : goal.returns-in_err-had
returns-in_err-had c =
    let p = err_from_is_err_and c.from_residual.result c.from_residual.ensures.1 in
    rw (p.1, p.2) (new_refused _ _ _ _ _ _ c.in_default.ensures _ _ c.in_err-had.ensures)

pub returns : goal.returns
returns c = new_done _ _ _ _ _ _ c.in_default.ensures _ _ _ _ c.in_ok-had.ensures c.read_into.auto.work c.copy_links.ensures c.with_new.ensures
