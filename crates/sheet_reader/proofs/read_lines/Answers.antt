use borrow.Author.Rules.{rules}
use Rattle.sheet_reader.proofs.Turns.{head_on}
use Rattle.sheet_reader.proofs.read_lines.Goals as goal

pub loop-at-preserved : goal.loop-at-preserved
loop-at-preserved c = head_on _ _ _ _ _ _ _ _ _ _ c.loop-at.invariant _ c.after-rest.ensures _ c.find_short-len.ensures c.if-rest-len.false _ c.front-line.ensures _ _ _ c.in_ok-had.ensures (search rules) (search rules)
