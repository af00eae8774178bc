use Prim.Native.Nat.{◌≤◌, ◌-◌}
use Rattle.writer.specs.Claims.{PartnersPut}
use Rattle.writer.proofs.put_partners.Given as goal

abbrev pub invariant-loop-new : goal.invariant-loop-new
invariant-loop-new l = (l.from ≤ l.news) × PartnersPut l.initial.out l.at l.w l.old l.news l.from l.k l.out

abbrev pub decreases-loop-new : goal.decreases-loop-new
decreases-loop-new l = l.news - l.from
