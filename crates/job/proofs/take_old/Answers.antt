use Rattle.std.proofs.lemmas.Result.{err_from_is_err_and}
use Rattle.job.proofs.Laws.{taken_due, taken_refused, taken_done}
use Rattle.job.proofs.take_old.Goals as goal

pub returns-in-Err : goal.returns-in-Err
returns-in-Err c = taken_due _ _ _ _ _ c.in-Err.fault _ c.in-Err.ensures

pub returns-in_err-had : goal.returns-in_err-had
returns-in_err-had c =
    let p = err_from_is_err_and c.from_residual.result c.from_residual.ensures.1 in
    rw (p.1, p.2) (taken_refused _ _ _ _ _ c.in_default.ensures _ _ c.in_err-had.ensures)

pub returns : goal.returns
returns c = taken_done _ _ _ _ _ c.in_default.ensures _ _ _ _ c.in_ok-had.ensures c.read_into.auto.work c.copy_links.ensures c.with_old.ensures
