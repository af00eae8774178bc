use borrow.Author.Rules.{rules}
use Rattle.writer.proofs.All.{all}
use Rattle.writer.proofs.put_repeats.Goals as goal
use Rattle.writer.proofs.put_repeats.Goals.{then-meets, else-meets}

pub loop-i-init : goal.loop-i-init
loop-i-init c = search (all, rules)

pub loop-i-preserved : goal.loop-i-preserved
loop-i-preserved c = elim c.if-meets.branch [ then-meets w ↦ rw (w.out-is, w.k-is) (search (all, rules)) | else-meets w ↦ rw (w.out-is, w.k-is) (search (all, rules)) ]
