use borrow.Author.Rules.{rules}
use Rattle.rivetyellow.proofs.Laws.{new_read, new_stop_new, new_stop_old}
use Rattle.rivetyellow.proofs.read_both.Goals as goal

pub returns-in_err-read_into : goal.returns-in_err-read_into
returns-in_err-read_into c = new_stop_old _ _ _ _ _ c.in_err-read_into.ensures (search rules)

pub returns-in_err-read_into-2 : goal.returns-in_err-read_into-2
returns-in_err-read_into-2 c = new_stop_new _ _ _ _ c.in_ok-read_into.ensures _ _ _ c.in_err-read_into-2.ensures (search rules)

pub returns : goal.returns
returns c = new_read _ _ _ _ c.in_ok-read_into.ensures _ _ c.in_ok-read_into-2.ensures
