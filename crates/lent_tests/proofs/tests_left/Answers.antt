use borrow.Author.Rules.{rules}
use mathlib.Core.Path.{◌∙◌, sym}
use Rattle.lent_tests.proofs.Laws.{both_no, both_yes, left_refused, left_told}
use Rattle.lent_tests.proofs.tests_left.Goals as goal
use Rattle.lent_tests.proofs.tests_left.Goals.{then-same_tests, else-same_tests}

pub returns-in_err-count : goal.returns-in_err-count
returns-in_err-count c = rw c.from_residual.ensures (left_refused _ _ _ _ _ _ _ c.read_tests.ensures c.in_err-count.ensures.value)

pub returns : goal.returns
returns c =
    left_told _ _ _ _ _ _ _ c.read_tests.ensures _ c.in_ok-count.ensures.value (search rules) (search rules) _
    (elim c.if-same_tests.branch [
      | then-same_tests w ↦ both_yes _ _ _ (sym c.same_tests.ensures ∙ w.if-same_tests.true) (w.same-is ∙ w.same_rows-same.ensures)
      | else-same_tests w ↦ both_no _ _ _ (sym c.same_tests.ensures ∙ w.if-same_tests.false) (w.same-is ∙ w.if-same_tests.false)
    ])
    _ c.then_some.ensures
