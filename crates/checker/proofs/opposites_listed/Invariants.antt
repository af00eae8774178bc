use Rattle.laws.specs.Places.{place}
use Rattle.checker.proofs.Laws.{ListedFrom}
use Rattle.checker.proofs.opposites_listed.Given as goal

abbrev pub invariant-loop-next : goal.invariant-loop-next
invariant-loop-next l = ListedFrom l.old l.new l.w l.e (place l.fn.last) (place l.next)

abbrev pub decreases-loop-next : goal.decreases-loop-next
decreases-loop-next l = place l.next
