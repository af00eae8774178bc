use Rattle.laws.specs.Places.{place}
use Rattle.checker.proofs.Laws.{KeptFrom}
use Rattle.checker.proofs.all_kept.Given as goal

abbrev pub invariant-loop-next : goal.invariant-loop-next
invariant-loop-next l = KeptFrom l.old l.new l.w l.sets l.n l.k (place l.next)

abbrev pub decreases-loop-next : goal.decreases-loop-next
decreases-loop-next l = place l.next
