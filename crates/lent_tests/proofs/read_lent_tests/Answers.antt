use borrow.Author.Rules.{rules}
use mathlib.Core.Path.{refl}
use Rattle.std.proofs.lemmas.Result.{err_from_is_err_and}
use Rattle.lent_tests.proofs.Laws.{lent_read, lent_stop}
use Rattle.lent_tests.proofs.read_lent_tests.Goals as goal

pub returns-in_err-count : goal.returns-in_err-count
returns-in_err-count c =
    let p = err_from_is_err_and c.from_residual.result c.from_residual.ensures.1 in
    rw (p.1, p.2) (lent_stop _ _ _ _ _ _ _ c.in_err-count.ensures _ refl)

pub returns : goal.returns
returns c = lent_read _ _ _ _ _ _ _ c.in_ok-count.ensures _ refl (search rules) (search rules) _ _ c.copy_tests.ensures c.copy_rows.ensures
