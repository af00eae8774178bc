use borrow.Author.Rules.{rules}
use Rattle.writer.proofs.All.{all}
use Rattle.writer.proofs.put_edges.Goals as goal
use Rattle.writer.proofs.put_edges.Goals.{then-in_set, else-in_set}

pub loop-e-init : goal.loop-e-init
loop-e-init c = search (all, rules)

pub loop-e-preserved : goal.loop-e-preserved
loop-e-preserved c = elim c.if-in_set.branch [ then-in_set w ↦ rw (w.out-is, w.k-is) (search (all, rules)) | else-in_set w ↦ rw (w.out-is, w.k-is) (search (all, rules)) ]
