use borrow.Author.Rules.{rules}
use Rattle.work.proofs.Laws.{record_put}
use Rattle.work.proofs.record_from.Goals as goal

pub returns : goal.returns
returns c =
    record_put _ _ _ _ _ _ _ _ _ _ _ _ _ _ _ _ _ _ _ _ _ c.requires.few c.meets-again.ensures (search rules) (search rules) c.find_open.ensures (search rules) (rw c.rows.ensures at c.find_marks.ensures)
    c.write_record.ensures
