use native.Mathlib.Omega.{arith}
use mathlib.Core.Path.{refl}
use Rattle.std.proofs.lemmas.Result.{err_from_is_err_and}
use Rattle.job.proofs.TestsLaws.{tests_edges, tests_refused, tests_stop, tests_taken}
use Rattle.job.proofs.take_tests.Goals as goal

pub returns-in-Err : goal.returns-in-Err
returns-in-Err c = tests_refused _ _ _ _ _ _ _ c.in-Err.fault c.in-Err.ensures

pub read_lent_tests-requires : goal.read_lent_tests-requires
read_lent_tests-requires c = (tests_edges _ _ _ _ _ _ _ c.in_default.ensures refl, omega arith, omega arith)

pub returns-in_err-count : goal.returns-in_err-count
returns-in_err-count c =
    let p = err_from_is_err_and c.from_residual.result c.from_residual.ensures.1 in
    rw (p.1, p.2) (tests_stop _ _ _ _ _ _ _ c.in_default.ensures _ _ _ c.in_err-count.ensures)

pub returns : goal.returns
returns c = tests_taken _ _ _ _ _ _ _ c.in_default.ensures _ _ _ _ c.in_ok-count.ensures c.with_tests.ensures
